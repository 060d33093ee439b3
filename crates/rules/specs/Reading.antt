-- The strict reader, by **Refusal numbers** and **Frame**: each field in bit order, the first fault with its number and bit.
use Rattle.std.specs.Prelude.{List, [], ◌∷◌, Bool, true, false, cond, not, ◌&&◌, ◌||◌, ℕ, zero, suc, ◌-◌, ◌^◌, leb, ltb, eqb, ℤ, pos, negsuc, ◌+ℤ◌, ◌-ℤ◌, nat_abs, length, replicate}
use Rattle.std.proofs.Math.Option.{Option, none, some}
use Rattle.std.specs.Int.Signed.{le_z}
use Rattle.bits.specs.Bits.{bits_of}
use Rattle.crc.specs.Sealed.{body, is_sealed}
use Rattle.rules.specs.Format.{Read, ok, bad, Reader, pure, ◌>>=◌, here, keep, require, as_one, ◌⊗◌, walk, each, times, number, one_of}
use Rattle.rules.specs.Layout.{kinds_of, coded_count, side_count, side_width}
use Rattle.rules.specs.Width.{reach_of, near, width}
use Rattle.rules.specs.Code.{magnitude_bits}
use Rattle.rules.specs.Record.{Chan, Rec, resolutions}
use Rattle.rules.specs.Fields.{as_previous, small_bits}
use Rattle.rules.specs.declared.ChannelType.{ChannelType}
use Rattle.rules.specs.declared.Layout.{Layout}

-- A delta's symbol v names this factor; where it is all ones, the factor follows. Refusal 12 (needless escape, or factor outside 0..63) names
-- the bit where the escape or the delta begins.
abbrev pub delta_factor : (d previous symbol : ℕ) → ℤ
delta_factor d previous symbol = pos previous +ℤ (pos symbol -ℤ pos (reach_of d))

abbrev pub read_delta : (d previous : ℕ) → Reader ℕ
read_delta d previous = here λ left. number d >>= λ v.
    cond (eqb v (2 ^ d - 1))
    (require 12 left (λ f. not (near d previous f)) (number 6))
    (keep 12 left (le_z (pos 0) (delta_factor d previous v) && le_z (delta_factor d previous v) (pos 63)) (nat_abs (delta_factor d previous v)))

abbrev pub read_factor : (width : ℕ) (previous : Option ℕ) → Reader ℕ
read_factor width none = number 6
read_factor width (some previous) = cond (eqb width 6) (number 6) (read_delta width previous)

abbrev pub read_factors : (width coded : ℕ) → Reader (List ℕ)
read_factors zero coded = pure (replicate coded 0)
read_factors (suc w) coded = walk as_previous (λ previous _. read_factor (suc w) previous) none (times coded)

-- Refusal 11: width 7, and any width but 0 on a coded count of 0, at once; other wrong widths after that channel's last factor
abbrev pub read_width : (coded : ℕ) → Reader (List ℕ)
read_width coded = here λ left.
    require 11 left (λ w. leb w 6 && (leb 1 coded || eqb w 0)) (number 3) >>= λ w.
    require 11 left (λ fs. eqb (width fs) w) (read_factors w coded)

abbrev pub read_channel : (l : Layout) (kind : ChannelType) → Reader Chan
read_channel l kind =
    (read_width (coded_count l kind) ⊗ λ _. each (λ _. number (side_width kind)) (times (side_count l kind)))
    >>= λ c. pure (record { factors = c.0; side = c.1 })

-- the codes of resolution r, below 8: 0, and the magnitudes up to r with both signs
abbrev pub codes_to : (resolution : ℕ) → List ℤ
codes_to zero = pos 0 ∷ []
codes_to (suc r) = pos (suc r) ∷ negsuc r ∷ codes_to r

abbrev pub signed : (magnitude : ℕ) → Reader ℤ
signed zero = pure (pos 0)
signed (suc n) = number 1 >>= λ b. pure (cond (eqb b 0) (pos (suc n)) (negsuc n))

-- a code with its sign bit is one field
unfoldable pub read_code : (resolution : ℕ) → Reader ℤ
read_code resolution = cond (eqb resolution 0) (pure (pos 0))
    (cond (ltb resolution 8) (one_of (small_bits resolution) (codes_to resolution)) (as_one (number (magnitude_bits resolution) >>= signed)))

-- Refusal 9: sync not FFFF
abbrev pub read_sync : Reader ℕ
read_sync = here λ left. require 9 left (λ v. eqb v 0xFFFF) (number 16)

-- what follows the sync; any level and any boundary is taken (request A6: refusal 10 is withdrawn)
unfoldable pub read_record : (l : Layout) → Reader Rec
read_record l =
    (number 9 ⊗ λ level. number 7 ⊗ λ boundary. each (read_channel l) (kinds_of l) ⊗ λ chans.
    each (λ _. each (each read_code) (resolutions l level boundary chans)) (times 8))
    >>= λ x. pure (record { level = x.0; boundary = x.1.0; chans = x.1.1.0; codes = x.1.1.1 })

unfoldable pub read_fields : (l : Layout) → Reader Rec
read_fields l = read_sync >>= λ _. read_record l

-- the bits left at the first 1
abbrev pub first_one : (s : List Bool) → Option ℕ
first_one [] = none
first_one (true ∷ s) = some (suc (length s))
first_one (false ∷ s) = first_one s

-- what the scan finds: a record and the bit where its fields end, or a refusal and the bit that it names
pub data Scanned : Type 0 where
  accepted : Rec → ℕ → Scanned
  faulty : ℕ → ℕ → Scanned

-- Refusal 14, last: fill holds a 1
abbrev pub after_fill : (n : ℕ) (r : Rec) (left : ℕ) (one : Option ℕ) → Scanned
after_fill n r left none = accepted r (n - left)
after_fill n r left (some k) = faulty 14 (n - k)

abbrev pub after_fields : (n : ℕ) (r : Read Rec) → Scanned
after_fields n (ok r s) = after_fill n r (length s) (first_one s)
after_fields n (bad k left) = faulty k (n - left)

-- every bit is counted from the frame's first bit, which is 0
unfoldable pub scan : (l : Layout) (s : List Bool) → Scanned
scan l s = after_fields (length s) (read_fields l s)

-- Refusal 8, first: check wrong
unfoldable pub strict : (l : Layout) (frame : List ℕ) → Scanned
strict l frame = cond (is_sealed frame) (scan l (bits_of (body frame))) (faulty 8 0)
