use mathlib.Core.Path.{◌≡◌, ap, ap₂, ◌∙◌}
use mathlib.Core.List.{List, []}
use Prim.Native.Nat.{ℕ, ◌+◌, ◌*◌, ◌/◌, ◌<◌}
use native.Mathlib.Omega.{arith}
use lib.ListN.{length, get_or, take, drop}
use Rattle.crc.specs.Table.{feed}
use Rattle.crc_sliced.proofs.Sliced.{feed-part, part-at}
use Rattle.crc_sliced.proofs.crc16_eights.Goals as goal

pub loop-b-preserved : goal.loop-b-preserved
loop-b-preserved c =
    let bytes : List ℕ = c.args.bytes.now in
    let i : ℕ = c.loop-b.b-index in
    let below : i < length bytes / 8 = omega (arith, c.loop-b-test.true, c.as_chunks.ensures.front_len) in
    let part : get_or c.as_chunks.result.0.now i [] ≡ take 8 (drop (i * 8) bytes) =
    ap (λ parts. get_or parts i []) c.as_chunks.ensures.front ∙ part-at 8 (length bytes / 8) i bytes below in
    let next : i * 8 + 8 ≡ (i + 1) * 8 = omega arith in
    c.eight-sum.ensures ∙ ap₂ feed c.loop-b.invariant part ∙ feed-part c.args.start bytes (i * 8) 8 ∙ ap (λ n. feed c.args.start (take n bytes)) next
