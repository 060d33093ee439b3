-- `wav::samples::values::signed` meets its contract. Assumes nothing.
use mathlib.Core.Path.{sym, ◌∙◌}
use Prim.Native.Nat.{◌+◌, ◌-◌, ◌^◌, ◌<◌}
use native.Mathlib.Omega.{arith}
use mir.Syntax.{w32}
use mir.Facts.{to_z-of_z, to_z_pos}
use Rattle.floats.proofs.SignedLaws.{negated, negated_fits}
use Rattle.wav.proofs.Patterns.{signed_below, signed_above}
use Rattle.wav.proofs.samples.values.signed.Lts as lts
use Rattle.wav.proofs.samples.values.signed.Reads as reads
use Rattle.wav.proofs.samples.values.signed.Goals as goal

pub returns-then-pattern-half : goal.returns-then-pattern-half
returns-then-pattern-half c = to_z_pos w32 (omega arith) ∙ sym (signed_below _ _ c.if-pattern-half.true)

-- the size of a negative one
small : (c : lts.Else1 reads.Pre reads.Post) → c.args.half + c.args.half - c.args.pattern < 2 ^ 31
small c = omega arith

pub overflow_sub-result-2 : goal.overflow_sub-result-2
overflow_sub-result-2 c = negated_fits w32 _ (small c)

pub returns : goal.returns
returns c = to_z-of_z (negated_fits w32 _ (small c)) ∙ negated w32 _ (small c) ∙ sym (signed_above _ _ c.if-pattern-half.false)
