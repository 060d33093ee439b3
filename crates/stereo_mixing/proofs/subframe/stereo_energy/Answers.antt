-- `stereo_mixing::subframe::stereo_energy` meets its contract. Assumes nothing.
use native.Mathlib.Omega.{arith}
use mathlib.Core.Path.{◌∙◌}
use Rattle.stereo_mixing.proofs.Searches.{energies_lent}
use Rattle.stereo_mixing.proofs.subframe.stereo_energy.Goals as goal

pub returns : goal.returns
returns c =
    c.energies_of.ensures
    ∙ rw (c.split_at.ensures.front, c.split_at.ensures.back) (energies_lent c.args.pair.now c.args.at _ c.args.count (omega arith) c.requires.0 c.requires.1)
