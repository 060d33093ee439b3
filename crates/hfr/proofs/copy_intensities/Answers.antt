-- `hfr::copy_intensities` meets its contract. Assumes nothing.
use mathlib.Core.Path.{refl, ◌∙◌}
use Rattle.buffers.proofs.Build.{build-of}
use Rattle.rules.specs.Hfr.{intensity_side}
use Rattle.hfr.proofs.copy_intensities.Goals as goal

pub returns : goal.returns
unfolding intensity_side
returns c = c.copy_from_slice.ensures.after ∙ build-of _ 8 0 _ c.requires.0 (λ i h. refl)
