-- The estimate falls, or stays, as the noise rises: so does every resolution, and with it the bits of each value. Noise rises with the level and falls as the
-- boundary passes a band, so the test of the level falls and that of the boundary rises. Assumes nothing.
use mathlib.Core.Path.{◌≡◌, refl}
use mathlib.Core.List.{List}
use mathlib.Core.Logic.{⊎_elim}
use mathlib.Core.Bool.{Bool, true, false, cond}
use Prim.Native.Nat.{ℕ, zero, suc, ◌+◌, ◌-◌, ◌*◌, ◌≤◌, ◌<◌, min, max, zero-le}
use native.Mathlib.Nat.{le_refl, le_trans, add-le-add, eq-or-lt_of_le, le_of_suc-le-suc}
use native.Mathlib.Omega.{arith}
use borrow.Author.Tests.{ltb-true, ltb-false, leb-true, le-ltb}
use lib.Dec.{leb, ltb, eqb}
use lib.Ieee.{Float, nan}
use lib.ListN.{get_or}
use Rattle.buffers.specs.Walk.{every, sum_to}
use Rattle.buffers.proofs.Every.{every-at}
use Rattle.buffers.proofs.Tests.{cond_bound}
use Rattle.rules.specs.Tables.{resolution_curve}
use Rattle.rules.specs.Layout.{LegalLayout, coded_count_at, frame_size, part}
use Rattle.rules.specs.Resolution.{noise_at, held_position, resolution_in, resolution, resolution_at}
use Rattle.rules.specs.Estimate.{value_bits, band_bits, channel_bits, spectral_bits, used_bits, exceeds}
use Rattle.rules.specs.declared.Layout.{Layout}
use Rattle.rules.proofs.Limits.{held-is}
use Rattle.rules_demands.proofs.FoundLevel.{Falling}
use Rattle.rules_demands.proofs.FoundBoundary.{Rising}
use Rattle.rules_finest.specs.Finest.{Fits}

-- ---- the resolution falls as noise rises
curve_steps : every (λ i. leb (get_or resolution_curve (suc i) 0) (get_or resolution_curve i 0)) 58 ≡ true
unfolding every resolution_curve
curve_steps = refl

curve_falls : (i j : ℕ) → i ≤ j → j ≤ 58 → get_or resolution_curve j 0 ≤ get_or resolution_curve i 0
curve_falls i zero h k = let z : i ≡ 0 = omega arith in rw z (le_refl (get_or resolution_curve 0 0))
curve_falls i (suc j) h k =
    ⊎_elim (λ (z : i ≡ suc j). rw z (le_refl (get_or resolution_curve (suc j) 0)))
    (λ (z : i < suc j).
    le_trans (leb-true _ _ (every-at (λ i. leb (get_or resolution_curve (suc i) 0) (get_or resolution_curve i 0)) 58 j curve_steps k))
    (curve_falls i j (le_of_suc-le-suc z) (omega arith)))
    (eq-or-lt_of_le h)

resolution_falls : (l : Layout) (noise more factor : ℕ) → noise ≤ more → resolution l more factor ≤ resolution l noise factor
unfolding resolution resolution_in
resolution_falls l noise more factor h = go (eqb factor 0)
  where
    falls : get_or resolution_curve (held_position more factor) 0 ≤ get_or resolution_curve (held_position noise factor) 0
    falls =
        curve_falls (held_position noise factor) (held_position more factor)
        (omega (arith, held-is noise factor, held-is more factor)) (omega (arith, held-is more factor))

    within : (x y low high : ℕ) → x ≤ y → min (max x low) high ≤ min (max y low) high
    within x y low high h = omega arith

    go : (b : Bool) → cond b 0 (min (max (get_or resolution_curve (held_position more factor) 0) l.minimum) l.maximum)
        ≤ cond b 0 (min (max (get_or resolution_curve (held_position noise factor) 0) l.minimum) l.maximum)
    go true = zero-le
    go false = within _ _ l.minimum l.maximum falls

resolution-small : (l : Layout) → LegalLayout l → (noise factor : ℕ) → resolution l noise factor ≤ 15
unfolding resolution resolution_in
resolution-small l z noise factor = cond_bound (eqb factor 0) (λ _. zero-le) (λ _. omega (arith, z.highest))

-- ---- noise rises with the level, and falls as the boundary passes a band
noise-rises : (level boundary band : ℕ) → noise_at level boundary band ≤ noise_at (suc level) boundary band
unfolding noise_at
noise-rises level boundary band = go (ltb band boundary)
  where
    go : (b : Bool) → cond b (level - 1) level ≤ cond b (suc level - 1) (suc level)
    go true = omega arith
    go false = omega arith

noise_passed : (level boundary band : ℕ) → noise_at level (suc boundary) band ≤ noise_at level boundary band
unfolding noise_at
noise_passed level boundary band = go (ltb band boundary) (ltb band (suc boundary)) refl refl
  where
    go : (b c : Bool) → ltb band boundary ≡ b → ltb band (suc boundary) ≡ c → cond c (level - 1) level ≤ cond b (level - 1) level
    go true true p q = omega arith
    go true false p q = absurd (omega (arith, ltb-true band boundary p, ltb-false band (suc boundary) q))
    go false true p q = omega arith
    go false false p q = omega arith

-- ---- term by term
sum-le : (f g : ℕ → ℕ) (n : ℕ) → ((i : ℕ) → i < n → f i ≤ g i) → sum_to f n ≤ sum_to g n
unfolding sum_to
sum-le f g zero h = zero-le
sum-le f g (suc n) h = add-le-add (sum-le f g n (λ i lt. h i (omega arith))) (h n (omega arith))

-- the bits of each coded value rise with the resolution
abbrev pub Grows : (l : Layout) (scaled : List Float) → Type 0
Grows l scaled = (channel band subframe r : ℕ) → channel < l.channels → band < coded_count_at l channel → subframe < 8 → r < 15
    → value_bits l.mode r (get_or (part 1024 scaled channel) (band * 8 + subframe) nan)
    ≤ value_bits l.mode (suc r) (get_or (part 1024 scaled channel) (band * 8 + subframe) nan)

module _ (l : Layout) (scaled : List Float) (z : LegalLayout l) (grows : Grows l scaled) where
  grows_on : (c b s : ℕ) → c < l.channels → b < coded_count_at l c → s < 8 → (q r : ℕ) → q ≤ r → r ≤ 15
      → value_bits l.mode q (get_or (part 1024 scaled c) (b * 8 + s) nan) ≤ value_bits l.mode r (get_or (part 1024 scaled c) (b * 8 + s) nan)
  grows_on c b s hc hb hs q zero h k =
      let e : q ≡ 0 = omega arith in rw e (le_refl (value_bits l.mode 0 (get_or (part 1024 scaled c) (b * 8 + s) nan)))
  grows_on c b s hc hb hs q (suc r) h k =
      ⊎_elim (λ (e : q ≡ suc r). rw e (le_refl (value_bits l.mode (suc r) (get_or (part 1024 scaled c) (b * 8 + s) nan))))
      (λ (e : q < suc r). le_trans (grows_on c b s hc hb hs q r (le_of_suc-le-suc e) (omega arith)) (grows c b s r hc hb hs k))
      (eq-or-lt_of_le h)

  -- more noise in every band, no more bits
  module _ (factors : List ℕ) (level boundary level' boundary' : ℕ)
      (louder : (band : ℕ) → noise_at level boundary band ≤ noise_at level' boundary' band) where
    spectral_falls : spectral_bits l scaled factors level' boundary' ≤ spectral_bits l scaled factors level boundary
    unfolding spectral_bits channel_bits band_bits resolution_at
    spectral_falls =
        sum-le _ _ l.channels
        (λ c hc. sum-le _ _ (coded_count_at l c)
        (λ b hb. sum-le _ _ 8
        (λ s hs. grows_on c b s hc hb hs _ _ (resolution_falls l _ _ (get_or (part 128 factors c) b 0) (louder b)) (resolution-small l z _ _))))

    pub used_falls : used_bits l scaled factors level' boundary' ≤ used_bits l scaled factors level boundary
    unfolding used_bits
    used_falls = omega (arith, spectral_falls)

-- ---- a test that is not passed, said by what fits
module _ (l : Layout) (scaled : List Float) (factors : List ℕ) (level boundary : ℕ) where
  pub fits-within : exceeds l scaled factors level boundary ≡ false → Fits l scaled factors level boundary
  unfolding exceeds Fits
  fits-within e = ltb-false (8 * frame_size l) (used_bits l scaled factors level boundary) e

  pub within-fits : Fits l scaled factors level boundary → exceeds l scaled factors level boundary ≡ false
  unfolding exceeds Fits
  within-fits h = le-ltb (8 * frame_size l) (used_bits l scaled factors level boundary) h

  pub over_unfit : exceeds l scaled factors level boundary ≡ true → Fits l scaled factors level boundary → ⊥
  unfolding exceeds Fits
  over_unfit e h = let g = ltb-true (8 * frame_size l) (used_bits l scaled factors level boundary) e in omega arith

  pub unfit_over : (Fits l scaled factors level boundary → ⊥) → exceeds l scaled factors level boundary ≡ true
  unfit_over n = go (exceeds l scaled factors level boundary) refl
    where
      go : (b : Bool) → exceeds l scaled factors level boundary ≡ b → b ≡ true
      go true e = refl
      go false e = absurd (n (fits-within e))

module _ (l : Layout) (scaled : List Float) (z : LegalLayout l) (grows : Grows l scaled) (factors : List ℕ) where
  pub levels_fall : Falling (λ level. exceeds l scaled factors level 0)
  unfolding Fits
  levels_fall j h e =
      within-fits l scaled factors (suc j) 0
      (le_trans (used_falls l scaled z grows factors j 0 (suc j) 0 (noise-rises j 0)) (fits-within l scaled factors j 0 e))

  pub boundaries_rise : (level : ℕ) → Rising (λ boundary. exceeds l scaled factors level boundary)
  unfolding Fits
  boundaries_rise level b h e =
      unfit_over l scaled factors level (suc b)
      (λ k. over_unfit l scaled factors level b e
      (le_trans (used_falls l scaled z grows factors level (suc b) level b (noise_passed level b)) k))
