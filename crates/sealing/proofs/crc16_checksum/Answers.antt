-- `sealing::crc16_checksum` meets its contract: whole steps and then the bytes that are left over are fed to 0.
-- Assumes nothing.
use mathlib.Core.Path.{◌≡◌, sym, ap, ap₂, ◌∙◌}
use mathlib.Core.List.{List, ◌++◌}
use Prim.Native.Nat.{ℕ, ◌-◌, ◌%◌}
use native.Mathlib.Omega.{arith}
use lib.ListN.{length, take-append-drop}
use Rattle.crc.specs.Table.{feed}
use Rattle.crc.proofs.Laws.{checksum-all, feed-append}
use Rattle.sealing.proofs.crc16_checksum.Goals as goal

-- bytes fed to a start, by another term for it
fed_to : (s start sum : ℕ) (bytes : List ℕ) → start ≡ s → sum ≡ feed start bytes → sum ≡ feed s bytes
fed_to s start sum bytes e fed = fed ∙ ap (λ k. feed k bytes) e

pub returns : goal.returns
returns c =
    let bytes : List ℕ = c.args.bytes.now in
    let whole : List ℕ = c.split_at.result.0.now in
    let rest : List ℕ = c.split_at.result.1.now in
    let joined : whole ++ rest ≡ bytes =
    ap₂ ◌++◌ c.split_at.ensures.front c.split_at.ensures.back ∙ take-append-drop (length bytes - length bytes % 8) bytes in
    let sum : ℕ = c.crc16_eights-sum.result in
    fed_to sum _ _ rest (omega arith) c.crc16_feed.ensures
    ∙ ap (λ s. feed s rest) (fed_to 0 _ sum whole (omega arith) c.crc16_eights-sum.ensures)
    ∙ sym (feed-append 0 whole rest)
    ∙ ap (feed 0) joined
    ∙ sym (checksum-all bytes)
