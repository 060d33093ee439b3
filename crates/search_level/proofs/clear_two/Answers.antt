-- `search_level::clear_two` meets its contract. Assumes nothing.
use mathlib.Core.Path.{refl}
use Rattle.rules.specs.Level.{clear_two}
use Rattle.search_level.proofs.clear_two.Goals as goal

pub returns : goal.returns
unfolding clear_two
returns c = refl
