-- `rules_line::Tally::with` meets its contract. Assumes nothing.
use mathlib.Core.Path.{refl}
use Rattle.rules_line.proofs.Tally.with.Goals as goal

pub returns : goal.returns
returns c = refl
