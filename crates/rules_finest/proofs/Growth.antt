-- A value's bits rise with the resolution: below 8 the zone that takes a bit less shrinks wherever the most stays, from 8 up each magnitude has a bit more.
-- So it is of every value within the clip, in held mode and wherever the upper clip is not reached. Assumes nothing.
use mathlib.Core.Path.{◌≡◌, refl, sym, ap, ◌∙◌, subst}
use mathlib.Core.Bool.{Bool, true, false, cond, ◌&&◌}
use Prim.Native.Nat.{ℕ, suc, ◌+◌, ◌-◌, ◌≤◌, ◌<◌, zero-le}
use native.Mathlib.Omega.{arith}
use borrow.Author.Tests.{ltb-true, leb-true, eqb-true, le-ltb}
use lib.Dec.{T, leb, ltb, eqb}
use lib.Ieee.{Float, nan, binary32, of_bits, fits, le}
use lib.Ieee.Bits.{is_true}
use lib.Ieee.Scale.{finite}
use lib.ListN.{get_or}
use Rattle.buffers.specs.Walk.{every}
use Rattle.buffers.proofs.Every.{every-at}
use Rattle.buffers.proofs.Tests.{and_fst, and_snd, cond_bound}
use Rattle.floats.specs.Single.{abs_f}
use Rattle.rules.specs.Tables.{spectrum_bits, max_bit_table, dead_zone_table}
use Rattle.rules.specs.Signed.{held_z}
use Rattle.rules.specs.Scaling.{clip}
use Rattle.rules.specs.Code.{magnitude_bits, code_place}
use Rattle.rules.specs.Estimate.{value_bits}
use Rattle.rules.specs.declared.Mode.{Mode}
use Rattle.rules.specs.declared.Mode.TheVariants.{Held}
use Rattle.rules.proofs.Cuts.{by_order}
use Rattle.quantizer.specs.Marks.{high_at, drop_at}
use Rattle.within.specs.Within.{Within}
use Rattle.within.specs.Zones.{low_pattern, high_pattern, zone_low, zone_high, clip_past, zone_drop, reached_f}
use Rattle.within.proofs.ZoneLaws.{within-finite, zone_counted}
use Rattle.rules_finest.proofs.Orders.{le_through}

-- ---- the zones: each begins at or before its end; from one row to the next the most rises, or it stays and the zone shrinks
abbrev zone_test : ℕ → Bool
zone_test r = (finite (zone_low r) && finite (zone_high r)) && le (zone_low r) (zone_high r)

abbrev shrinks : ℕ → Bool
shrinks r = leb (high_at r) (high_at (suc r)) && (le (zone_low r) (zone_low (suc r)) && le (zone_high (suc r)) (zone_high r))

abbrev next_test : ℕ → Bool
next_test r = cond (ltb (high_at r) (high_at (suc r))) true (shrinks r)

all_zones : every zone_test 8 ≡ true
unfolding every zone_low zone_high low_pattern high_pattern of_bits le
all_zones = refl

all-next : every next_test 7 ≡ true
unfolding every zone_low zone_high low_pattern high_pattern high_at of_bits le
all-next = refl

true_is : {b : Bool} → b ≡ true → T b
true_is {b} e = subst T (sym e) tt

low-finite : (r : ℕ) → r < 8 → T (finite (zone_low r))
low-finite r h = true_is (and_fst (finite (zone_low r)) _ (and_fst (finite (zone_low r) && finite (zone_high r)) _ (every-at zone_test 8 r all_zones h)))

high-finite : (r : ℕ) → r < 8 → T (finite (zone_high r))
high-finite r h = true_is (and_snd (finite (zone_low r)) _ (and_fst (finite (zone_low r) && finite (zone_high r)) _ (every-at zone_test 8 r all_zones h)))

low-high : (r : ℕ) → r < 8 → T (le (zone_low r) (zone_high r))
low-high r h = true_is (and_snd (finite (zone_low r) && finite (zone_high r)) _ (every-at zone_test 8 r all_zones h))

-- what is dropped at the clip: nothing in held mode
all_held : every (λ r. eqb (zone_drop Held r) 0) 8 ≡ true
unfolding every zone_drop clip_past drop_at high_at spectrum_bits code_place held_z
all_held = refl

-- nothing is dropped of a value
abbrev pub Whole : (m : Mode) (x : Float) → Type 0
Whole m x = (r : ℕ) → r < 8 → cond (le clip x) (zone_drop m r) 0 ≡ 0

pub held_whole : (x : Float) → Whole Held x
held_whole x r h = ap (λ n. cond (le clip x) n 0) (eqb-true _ _ (every-at (λ r. eqb (zone_drop Held r) 0) 8 r all_held h)) ∙ same (le clip x)
  where
    same : (b : Bool) → ◌≡◌ {A = ℕ} (cond b 0 0) 0
    same true = refl
    same false = refl

pub unreached_whole : (m : Mode) (x : Float) → le clip x ≡ false → Whole m x
unreached_whole m x e r h = ap (λ b. cond b (zone_drop m r) 0) e

-- a mark that is reached has every lower one reached
reached_le : (a b x : Float) → T (finite a) → T (finite b) → T (finite x) → T (le a b) → reached_f b x ≤ reached_f a x
reached_le a b x p q w h = go (le b x) refl
  where
    go : (t : Bool) → le b x ≡ t → cond t 1 0 ≤ reached_f a x
    go true e = rw (is_true (le a x) (le_through a b x p q w h (true_is e))) (omega arith)
    go false e = zero-le

reached_few : (a x : Float) → reached_f a x ≤ 1
reached_few a x = cond_bound (le a x) (λ _. omega arith) (λ _. omega arith)

-- from 8 up
pub wide_bits : (m : Mode) (r : ℕ) (x : Float) → 8 ≤ r → value_bits m r x ≡ magnitude_bits r + reached_f (get_or dead_zone_table r nan) (abs_f x)
unfolding value_bits
wide_bits m r x h = rw (le-ltb r 8 h)

abbrev more_test : ℕ → Bool
more_test i = ltb (magnitude_bits (8 + i)) (magnitude_bits (suc (8 + i)))

all_wide : every more_test 7 ≡ true
unfolding every magnitude_bits max_bit_table
all_wide = refl

one_more : (r : ℕ) → 8 ≤ r → r < 15 → magnitude_bits r < magnitude_bits (suc r)
one_more r h k =
    let e : 8 + (r - 8) ≡ r = omega arith in
    subst (λ n. magnitude_bits n < magnitude_bits (suc n)) e (ltb-true _ _ (every-at more_test 7 (r - 8) all_wide (omega arith)))

-- ---- of one value
module _ (m : Mode) (x : Float) (f : T (fits binary32 x)) (w : Within x) (whole : Whole m x) where
  pub counted : (r : ℕ) → r < 8 → high_at r + reached_f (zone_high r) x ≡ value_bits m r x + reached_f (zone_low r) x
  counted r h = zone_counted m r h x f w ∙ ap (λ n. value_bits m r x + (reached_f (zone_low r) x + n)) (whole r h) ∙ omega arith

  -- at most the most
  most : (r : ℕ) → r < 8 → value_bits m r x ≤ high_at r
  most r h =
      omega (arith, counted r h, reached_le (zone_low r) (zone_high r) x (low-finite r h) (high-finite r h) (within-finite x w) (low-high r h))

  next : (r : ℕ) → r < 7 → value_bits m r x ≤ value_bits m (suc r) x
  next r h = go (ltb (high_at r) (high_at (suc r))) refl (every-at next_test 7 r all-next h)
    where
      go : (t : Bool) → ltb (high_at r) (high_at (suc r)) ≡ t → cond t true (shrinks r) ≡ true → value_bits m r x ≤ value_bits m (suc r) x
      go true e q =
          let more : high_at r < high_at (suc r) = ltb-true _ _ e in
          omega (arith, most r (omega arith), counted (suc r) (omega arith), reached_few (zone_low (suc r)) x)
      go false e q =
          let c = and_snd (leb (high_at r) (high_at (suc r))) _ q in
          let stays : high_at r ≤ high_at (suc r) = leb-true _ _ (and_fst (leb (high_at r) (high_at (suc r))) _ q) in
          omega (
            arith,
            counted r (omega arith),
            counted (suc r) (omega arith),
            reached_le (zone_low r) (zone_low (suc r)) x (low-finite r (omega arith)) (low-finite (suc r) (omega arith)) (within-finite x w)
                (true_is (and_fst (le (zone_low r) (zone_low (suc r))) _ c)),
            reached_le (zone_high (suc r)) (zone_high r) x (high-finite (suc r) (omega arith)) (high-finite r (omega arith)) (within-finite x w)
                (true_is (and_snd (le (zone_low r) (zone_low (suc r))) _ c)),
          )

  seven : value_bits m 7 x ≤ value_bits m 8 x
  unfolding high_at magnitude_bits max_bit_table
  seven = omega (arith, most 7 (omega arith), wide_bits m 8 x (omega arith))

  wide : (r : ℕ) → 8 ≤ r → r < 15 → value_bits m r x ≤ value_bits m (suc r) x
  wide r h k =
      omega (
        arith,
        one_more r h k,
        wide_bits m r x h,
        wide_bits m (suc r) x (omega arith),
        reached_few (get_or dead_zone_table r nan) (abs_f x),
      )

  pub value_grows : (r : ℕ) → r < 15 → value_bits m r x ≤ value_bits m (suc r) x
  value_grows r h =
      by_order r 7 (next r)
      (λ ge. by_order 7 r (λ lt. wide r lt h) (λ le. let e : 7 ≡ r = omega arith in subst (λ n. value_bits m n x ≤ value_bits m (suc n) x) e seven))
