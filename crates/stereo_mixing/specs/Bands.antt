-- The energies of bands that are lent as two parts. Definitions only.
use Rattle.std.specs.Prelude.{List, Float, get_or, length}
use Rattle.std.specs.Float.{nan, binary32}
use Rattle.std.specs.Float.Ieee.{add, mul}
use Rattle.rules_stereo.specs.Mixed.{loudness, two_f}
use Rattle.rules_stereo.specs.declared.Energies.{Energies}

-- of the bands xs of the left and as many of the right, ys
unfoldable pub energies_between : (xs ys : List Float) → Energies
energies_between xs ys = record {
  left = loudness (λ b. get_or xs b nan) (length xs);
  right = loudness (λ b. get_or ys b nan) (length xs);
  total = mul binary32 (loudness (λ b. add binary32 (get_or xs b nan) (get_or ys b nan)) (length xs)) two_f;
}
