-- `floats::finite` meets its contract: between the two infinities lie the finite values. Assumes nothing.
use mathlib.Core.Path.{◌≡◌, refl}
use mathlib.Core.Bool.{true, false, ◌&&◌}
use lib.Ieee.{Float, nan, inf, fin, of_bits, lt}
use lib.Ieee.Scale.{finite as is_finite}
use Rattle.floats.proofs.finite.Goals as goal

between : (x : Float) → lt (inf true) x && lt x (inf false) ≡ is_finite x
unfolding lt
between nan = refl
between (inf true) = refl
between (inf false) = refl
between (fin s m e) = refl

pub returns : goal.returns
unfolding of_bits
returns c = between c.args.x
