use mathlib.Core.Path.{ap, ◌∙◌}
use Prim.Native.Nat.{◌+◌}
use native.Mathlib.Omega.{arith}
use lib.ListN.{take, drop}
use Rattle.buffers.proofs.Build.{back-width}
use Rattle.wav.proofs.Turns.{walk_none, walk-over, walk_stops, walk-leaves, walk_passes, format_of_chunk}
use Rattle.wav.proofs.chunks.find_data.Goals as goal

pub loop-pos-init : goal.loop-pos-init
loop-pos-init c = walk_none _ _ c.default_format-format.ensures.0 c.default_format-format.ensures.1

pub returns-then-name-eq-DATA : goal.returns-then-name-eq-DATA
returns-then-name-eq-DATA c =
    walk_stops _ c.loop-pos.pos _ _ _ c.loop-pos-test.true c.get_low-name.ensures.0 c.get_low-size.ensures.0
    c.loop-pos.invariant c.if-name-eq-DATA.true c.get_low-size.ensures.1

pub returns-then-wav-body : goal.returns-then-wav-body
returns-then-wav-body c =
    walk-leaves _ c.loop-pos.pos _ _ _ c.loop-pos-test.true c.get_low-name.ensures.0 c.get_low-size.ensures.0
    c.loop-pos.invariant c.if-name-eq-DATA.false c.if-wav-body.true

pub loop-pos-preserved : goal.loop-pos-preserved
loop-pos-preserved c =
    let wav = c.args.wav.now in
    let body = c.loop-pos.pos + 8 in
    let whole = format_of_chunk wav _ body (omega arith) _ (ap (λ n. take n (drop body wav)) (back-width body c.get_low-size.result)) _ _ in
    walk_passes _ c.loop-pos.pos _ _ _ c.loop-pos-test.true c.get_low-name.ensures.0
    c.get_low-size.ensures.0 c.loop-pos.invariant
    c.if-name-eq-DATA.false c.if-wav-body.false _ (c.format_after-format.ensures.0 ∙ whole) c.format_after-format.ensures.1

pub returns : goal.returns
returns c = walk-over _ c.loop-pos.pos _ c.loop-pos-test.false c.loop-pos.invariant
