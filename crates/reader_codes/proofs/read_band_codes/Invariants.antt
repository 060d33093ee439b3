-- `reader_codes::read_band_codes` meets its contract. The invariant: what is read already, and then what the other bands give. Assumes nothing.
use mathlib.Core.Path.{◌≡◌}
use mathlib.Core.List.{List}
use Prim.Native.Nat.{ℕ, ◌*◌, ◌≤◌}
use lib.IntN.{ℤ}
use lib.ListN.{length, take, drop}
use Rattle.bits.specs.Place.{left_at}
use Rattle.rules.specs.Format.{each}
use Rattle.rules.specs.Reading.{read_code}
use Rattle.rules_formats.proofs.Turns.{onto}
use Rattle.reader_codes.proofs.read_band_codes.Given as goal

pub record Inv (part rs : List ℕ) (coded : ℕ) (at₀ : ℕ) (codes : List ℤ) (at band : ℕ) : Type 0 where
  pub within : at ≤ 8 * length part
  pub same : length codes ≡ coded
  pub is : each read_code (take coded rs) (left_at part at₀) ≡ onto (take band codes) (each read_code (drop band (take coded rs)) (left_at part at))

abbrev pub invariant-loop-band : goal.invariant-loop-band
invariant-loop-band l = Inv l.part l.resolutions l.coded l.initial.at.at l.slot-items l.at.at l.band
