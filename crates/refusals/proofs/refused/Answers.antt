-- `refusals::refused` meets its contract. Assumes nothing.
use mathlib.Core.Path.{refl}
use Rattle.refusals.specs.Refusals.{refusal_of}
use Rattle.refusals.proofs.refused.Goals as goal

pub returns : goal.returns
unfolding refusal_of
returns c = refl
