-- The numbers with which the strict reader refuses a frame: 8 the check, 9 the sync, 11 to 13 the fields, 14 the fill. Assumes nothing.
use mathlib.Core.Path.{◌≡◌, ap}
use mathlib.Core.List.{List, [], ◌∷◌}
use mathlib.Core.Bool.{Bool, true, false, cond, not, ◌&&◌, ◌||◌}
use mathlib.Core.Option.{Option, none, some}
use Prim.Native.Nat.{ℕ, zero, suc, ◌-◌, ◌^◌, ◌≤◌}
use native.Mathlib.Omega.{arith}
use borrow.Author.Tests.{le-leb, eq-eqb, ne_eqb}
use lib.Dec.{leb, ltb, eqb}
use lib.IntN.{ℤ, pos, negsuc, nat_abs}
use lib.Signed.{le_z}
use lib.ListN.{length, take, drop}
use Rattle.bits.specs.Bits.{value}
use Rattle.buffers.proofs.Tests.{cond_both}
use Rattle.rules.specs.Format.{Read, ok, bad, Reader, pure, and_then, ◌>>=◌, keep, require, from, ◌⊗◌, walk, stay, each, times, number, strip, or_else, one_of}
use Rattle.rules.specs.Layout.{kinds_of, coded_count, side_count, side_width}
use Rattle.rules.specs.Width.{near, width}
use Rattle.rules.specs.Code.{magnitude_bits}
use Rattle.rules.specs.Record.{Chan, Rec, resolutions}
use Rattle.rules.specs.Fields.{as_previous, small_bits}
use Rattle.rules.specs.Reading.{delta_factor, read_delta, read_factor, read_factors, read_width, read_channel, codes_to, signed, read_code, read_record, read_fields}
use Rattle.rules.specs.Reading.{first_one, Scanned, accepted, faulty, after_fill, after_fields, scan}
use Rattle.rules.specs.declared.ChannelType.{ChannelType}
use Rattle.rules.specs.declared.Layout.{Layout}

-- ---- a reader that refuses with a to 13 alone

abbrev Within : ℕ → {A : Type 0} → Read A → Type 0
Within a (ok x t) = Unit {0}
Within a (bad n k) = (a ≤ n) × (n ≤ 13)

abbrev Refuses : ℕ → {A : Type 0} → Reader A → Type 0
Refuses a p = (s : List Bool) → Within a (p s)

module _ (a : ℕ) where
  then_within : {A B : Type 0} (x : Read B) (f : B → Reader A) → Within a x → ((b : B) → Refuses a (f b)) → Within a (and_then x f)
  then_within (ok b t) f h g = g b t
  then_within (bad n k) f h g = h

  bind_refuses : {A B : Type 0} (p : Reader B) (f : B → Reader A) → Refuses a p → ((b : B) → Refuses a (f b)) → Refuses a (p >>= f)
  bind_refuses p f h g s = then_within (p s) f (h s) g

  keep-refuses : {A : Type 0} (n l : ℕ) (t : Bool) (x : A) → a ≤ n → n ≤ 13 → Refuses a (keep n l t x)
  keep-refuses n l true x h g s = tt
  keep-refuses n l false x h g s = (h, g)

  require-refuses : {A : Type 0} (n l : ℕ) (test : A → Bool) (p : Reader A) → a ≤ n → n ≤ 13 → Refuses a p → Refuses a (require n l test p)
  require-refuses n l test p h g q = bind_refuses p (λ x. keep n l (test x) x) q (λ x. keep-refuses n l (test x) x h g)

  from-within : {A : Type 0} (l : ℕ) (x : Read A) → Within a x → Within a (from l x)
  from-within l (ok x t) h = tt
  from-within l (bad n k) h = h

  walk-refuses : {S X A : Type 0} (next : S → A → S) (f : S → X → Reader A) → ((s : S) (x : X) → Refuses a (f s x)) → (s : S) (xs : List X)
      → Refuses a (walk next f s xs)
  walk-refuses next f h s [] = λ _. tt
  walk-refuses next f h s (x ∷ xs) =
      bind_refuses (f s x) (λ y. walk next f (next s y) xs >>= λ ys. pure (y ∷ ys)) (h s x)
      (λ y. bind_refuses (walk next f (next s y) xs) (λ ys. pure (y ∷ ys)) (walk-refuses next f h (next s y) xs) (λ _ _. tt))

  each-refuses : {X A : Type 0} (f : X → Reader A) → ((x : X) → Refuses a (f x)) → (xs : List X) → Refuses a (each f xs)
  each-refuses f h xs = walk-refuses stay (λ _. f) (λ _. h) tt xs

  pair-refuses : {A B : Type 0} (p : Reader A) (f : A → Reader B) → Refuses a p → ((x : A) → Refuses a (f x)) → Refuses a (p ⊗ f)
  pair-refuses p f h g = bind_refuses p (λ x. f x >>= λ y. pure (x, y)) h (λ x. bind_refuses (f x) (λ y. pure (x, y)) (g x) (λ _ _. tt))

  module _ (small : a ≤ 13) where
    number-refuses : (k : ℕ) → Refuses a (number k)
    unfolding number
    number-refuses k s = cond_both {A = Read ℕ} (Within a) (leb k (length s)) (λ _. tt) (λ _. (small, omega arith))

    or_else-within : {A : Type 0} (o : Option (List Bool)) (x : A) (r : Read A) → Within a r → Within a (or_else o x r)
    or_else-within (some t) x r h = tt
    or_else-within none x r h = h

    one_of-refuses : {A : Type 0} (w : A → List Bool) (cs : List A) → Refuses a (one_of w cs)
    unfolding one_of
    one_of-refuses w [] s = (small, omega arith)
    one_of-refuses w (c ∷ cs) s = or_else-within (strip (w c) s) c (one_of w cs s) (one_of-refuses w cs s)

-- ---- the fields refuse with 11 to 13

few : 11 ≤ 13
few = omega arith

delta_refuses : (d previous : ℕ) → Refuses 11 (read_delta d previous)
delta_refuses d previous s =
    bind_refuses 11 (number d) _ (number-refuses 11 few d)
    (λ v. cond_both {A = Reader ℕ} (Refuses 11) (eqb v (2 ^ d - 1))
    (λ _. require-refuses 11 12 (length s) (λ f. not (near d previous f)) (number 6) (omega arith) (omega arith) (number-refuses 11 few 6))
    (λ _. keep-refuses 11 12 (length s) (le_z (pos 0) (delta_factor d previous v) && le_z (delta_factor d previous v) (pos 63)) (nat_abs (delta_factor d previous v))
    (omega arith) (omega arith))) s

factor_refuses : (w : ℕ) (previous : Option ℕ) → Refuses 11 (read_factor w previous)
factor_refuses w none = number-refuses 11 few 6
factor_refuses w (some previous) = cond_both {A = Reader ℕ} (Refuses 11) (eqb w 6) (λ _. number-refuses 11 few 6) (λ _. delta_refuses w previous)

factors_refuse : (w n : ℕ) → Refuses 11 (read_factors w n)
factors_refuse zero n = λ _. tt
factors_refuse (suc w) n = walk-refuses 11 as_previous (λ previous _. read_factor (suc w) previous) (λ previous _. factor_refuses (suc w) previous) none (times n)

width-refuses : (n : ℕ) → Refuses 11 (read_width n)
width-refuses n s =
    bind_refuses 11 (require 11 (length s) (λ w. leb w 6 && (leb 1 n || eqb w 0)) (number 3)) _
    (require-refuses 11 11 (length s) (λ w. leb w 6 && (leb 1 n || eqb w 0)) (number 3) (omega arith) (omega arith) (number-refuses 11 few 3))
    (λ w. require-refuses 11 11 (length s) (λ fs. eqb (width fs) w) (read_factors w n) (omega arith) (omega arith) (factors_refuse w n)) s

channel_refuses : (l : Layout) (k : ChannelType) → Refuses 11 (read_channel l k)
channel_refuses l k =
    bind_refuses 11 (read_width (coded_count l k) ⊗ λ _. each (λ _. number (side_width k)) (times (side_count l k))) _
    (pair-refuses 11 (read_width (coded_count l k)) (λ _. each (λ _. number (side_width k)) (times (side_count l k))) (width-refuses (coded_count l k))
    (λ _. each-refuses 11 (λ _. number (side_width k)) (λ _. number-refuses 11 few (side_width k)) (times (side_count l k))))
    (λ _ _. tt)

signed-refuses : (n : ℕ) → Refuses 11 (signed n)
signed-refuses zero = λ _. tt
signed-refuses (suc n) = bind_refuses 11 (number 1) (λ b. pure (cond (eqb b 0) (pos (suc n)) (negsuc n))) (number-refuses 11 few 1) (λ _ _. tt)

code_refuses : (r : ℕ) → Refuses 11 (read_code r)
unfolding read_code
code_refuses r =
    cond_both {A = Reader ℤ} (Refuses 11) (eqb r 0) (λ _ _. tt)
    (λ _. cond_both {A = Reader ℤ} (Refuses 11) (ltb r 8) (λ _. one_of-refuses 11 few (small_bits r) (codes_to r))
    (λ _ s. from-within 11 (length s) ((number (magnitude_bits r) >>= signed) s)
    (bind_refuses 11 (number (magnitude_bits r)) signed (number-refuses 11 few (magnitude_bits r)) signed-refuses s)))

-- what follows the level, the boundary and the channels
abbrev codes_next : Layout → ℕ → ℕ → List Chan → Reader (List (List (List ℤ)))
codes_next l level boundary chans = each (λ _. each (each read_code) (resolutions l level boundary chans)) (times 8)

abbrev chans_next : Layout → ℕ → ℕ → Reader (List Chan × List (List (List ℤ)))
chans_next l level boundary = each (read_channel l) (kinds_of l) ⊗ codes_next l level boundary

abbrev boundary_next : Layout → ℕ → Reader (ℕ × (List Chan × List (List (List ℤ))))
boundary_next l level = number 7 ⊗ chans_next l level

codes_refuse : (l : Layout) (level boundary : ℕ) (chans : List Chan) → Refuses 11 (codes_next l level boundary chans)
codes_refuse l level boundary chans =
    each-refuses 11 (λ _. each (each read_code) (resolutions l level boundary chans))
    (λ _. each-refuses 11 (each read_code) (each-refuses 11 read_code code_refuses) (resolutions l level boundary chans)) (times 8)

-- what follows the sync
record_refuses : (l : Layout) → Refuses 11 (read_record l)
unfolding read_record
record_refuses l =
    bind_refuses 11 (number 9 ⊗ boundary_next l) (λ x. pure (record { level = x.0; boundary = x.1.0; chans = x.1.1.0; codes = x.1.1.1 }))
    (pair-refuses 11 (number 9) (boundary_next l) (number-refuses 11 few 9)
    (λ level. pair-refuses 11 (number 7) (chans_next l level) (number-refuses 11 few 7)
    (λ boundary. pair-refuses 11 (each (read_channel l) (kinds_of l)) (codes_next l level boundary)
    (each-refuses 11 (read_channel l) (channel_refuses l) (kinds_of l))
    (codes_refuse l level boundary))))
    (λ _ _. tt)

-- ---- the scan of the bits before the check, and the whole frame

-- a scan that refuses with a to 14 alone
abbrev pub From : ℕ → Scanned → Type 0
From a (accepted r n) = Unit {0}
From a (faulty k p) = (a ≤ k) × (k ≤ 14)

fill_from : (a n : ℕ) (r : Rec) (left : ℕ) (o : Option ℕ) → a ≤ 14 → From a (after_fill n r left o)
fill_from a n r left none h = tt
fill_from a n r left (some k) h = (h, omega arith)

fields-from : (a n : ℕ) (x : Read Rec) → a ≤ 14 → Within a x → From a (after_fields n x)
fields-from a n (ok r s) h w = fill_from a n r (length s) (first_one s) h
fields-from a n (bad k left) h w = (w.0, omega (arith, w.1))

module _ (l : Layout) (s : List Bool) (long : 16 ≤ length s) where
  -- the sync, where there are bits for it
  sync-is : read_fields l s ≡ and_then (keep 9 (length s) (eqb (value (take 16 s)) 0xFFFF) (value (take 16 s)) (drop 16 s)) (λ _. read_record l)
  unfolding read_fields number
  sync-is = rw (le-leb 16 (length s) long)

  -- Refusal 9, at bit 0, where the first 16 bits are not FFFF.
  pub scan_no_sync : (value (take 16 s) ≡ 0xFFFF → ⊥) → scan l s ≡ faulty 9 0
  unfolding scan
  scan_no_sync h = rw (sync-is, ne_eqb (value (take 16 s)) 0xFFFF h) (ap (faulty 9) (omega arith))

  -- Else a number from 11 to 14.
  pub scan-sync : value (take 16 s) ≡ 0xFFFF → From 11 (scan l s)
  unfolding scan
  scan-sync h = fields-from 11 (length s) (read_fields l s) (omega arith) (rw (sync-is, eq-eqb (value (take 16 s)) 0xFFFF h) (record_refuses l (drop 16 s)))
