-- Sums of magnitudes, of a band's eight and of a group's bands, as a running average. Assumes nothing.
use mathlib.Core.Path.{◌≡◌, refl, sym, ap, ap₂, subst, ◌∙◌}
use mathlib.Core.Bool.{Bool, true, false, not, cond}
use mathlib.Core.List.{List}
use Prim.Native.Nat.{ℕ, zero, suc, ◌+◌, ◌-◌, ◌*◌, ◌≤◌, ◌<◌, min}
use native.Mathlib.Nat.{add-mul, suc-mul, add-zero, mul-le-mul}
use native.Mathlib.Omega.{arith}
use lib.Dec.{T, ltb, ltb→lt, nltb→le}
use lib.Ieee.{Float, nan}
use lib.ListN.{get_or}
use Rattle.floats.specs.Single.{folded, add_abs, no_average, with_eight}
use Rattle.floats.specs.declared.Average.{Average}
use Rattle.rules.specs.Layout.{start_band, bands_per_group}
use Rattle.rules.specs.Hfr.{bands_taken, group_average, spectrum_average, source_average}
use Rattle.rules.specs.declared.Layout.{Layout}
use Rattle.hfr.specs.Sums.{band_count, band_at, with_sum, AreFour}

-- a group's first value of b, and the next group's
pub group_reach : (j g : ℕ) → j ≤ 8 → g ≤ 16 → j * g ≤ 128
group_reach j g h k = mul-le-mul h k

-- a group has a band only below the limit
pub has_band : (g limit i count j : ℕ) → count ≡ band_count g limit i → j < count → 1 ≤ limit
unfolding band_count
has_band g limit i count j e h = omega arith

-- j bands have eight values each, or fewer
pub none-low : (a : Average) → a ≡ no_average → a.count ≤ 8 * 0
unfolding no_average
none-low a e = rw e (omega arith)

pub low_more : (j c d : ℕ) → c ≤ 8 * j → d ≤ c + 8 → d ≤ 8 * (j + 1)
low_more j c d h k = omega arith

pub low-all : (j n c : ℕ) → c ≤ 8 * j → j ≤ n → n ≤ 16 → c ≤ 128
low-all j n c h k l = omega arith

-- ---- a band: what a loop keeps that has taken k of its eight values
module _ (xs : List Float) (at stride : ℕ) (s₀ : Float) where
  abbrev pub Eight : ℕ → Float → Type 0
  Eight k s = folded add_abs xs (at + k * stride) stride (8 - k) s ≡ folded add_abs xs at stride 8 s₀

  pub eight_none : Eight 0 s₀
  eight_none = let e : at + 0 * stride ≡ at = omega arith in ap (λ (i : ℕ). folded add_abs xs i stride 8 s₀) e

  pub eight_more : (k p : ℕ) (s t : Float) → k < 8 → p ≡ at + k * stride → Eight k s → t ≡ add_abs s (get_or xs p nan) → Eight (k + 1) t
  unfolding folded
  eight_more k p s t h q w e =
      let left : 8 - k ≡ suc (8 - (k + 1)) = omega arith in
      let next : at + (k + 1) * stride ≡ at + k * stride + stride = omega (arith, add-mul k 1 stride) in
      ap₂ (λ (i : ℕ) (y : Float). folded add_abs xs i stride (8 - (k + 1)) y) next (e ∙ ap (λ (i : ℕ). add_abs s (get_or xs i nan)) q)
      ∙ sym (ap (λ (m : ℕ). folded add_abs xs (at + k * stride) stride m s) left)
      ∙ w

  pub eight_all : (k : ℕ) (s : Float) → 8 ≤ k → Eight k s → s ≡ folded add_abs xs at stride 8 s₀
  unfolding folded
  eight_all k s h w = let none : 8 - k ≡ 0 = omega arith in sym (ap (λ (m : ℕ). folded add_abs xs (at + k * stride) stride m s) none) ∙ w

-- ---- a group's bands
module _ (xs : List Float) (place : ℕ → ℕ) (stride : ℕ) where
  abbrev take : ℕ → Average → Average
  take b = with_eight xs (place b) stride

  taken_more : (n first : ℕ) (a : Average) → bands_taken take first (n + 1) a ≡ take (first + n) (bands_taken take first n a)
  unfolding bands_taken
  taken_more zero first a = rw (add-zero first)
  taken_more (suc n) first a =
      let more : suc n + 1 ≡ suc (n + 1) = omega arith in
      let next : suc first + n ≡ first + suc n = omega arith in
      rw more (taken_more n (suc first) (take first a) ∙ ap (λ (b : ℕ). take b (bands_taken take (suc first) n (take first a))) next)

  module _ (g limit : ℕ) where
    -- what a loop keeps that has looked at j bands of group i
    abbrev pub Lane : (j i : ℕ) → Average
    Lane j i = bands_taken take (i * g) (min j (band_count g limit i)) no_average

    pub lane_none : (i : ℕ) (a : Average) → a ≡ no_average → a ≡ Lane 0 i
    unfolding bands_taken
    lane_none i a e = let z : 0 ≡ min 0 (band_count g limit i) = omega arith in e ∙ ap (λ (n : ℕ). bands_taken take (i * g) n no_average) z

    within : (j i : ℕ) → j < band_count g limit i → band_at g limit j i ≡ i * g + j
    unfolding band_count band_at
    within j i h = omega arith

    pub lane_more : (j i count at : ℕ) (s next : Float) (a t : Average) → count ≡ band_count g limit i → a ≡ Lane j i → at ≡ place (band_at g limit j i)
        → s ≡ a.sum → next ≡ folded add_abs xs at stride 8 s → t ≡ cond (ltb j count) (with_sum next a) a → t ≡ Lane (j + 1) i
    unfolding with_sum with_eight
    lane_more j i count at s next a t c e p w n u = go (ltb j count) refl
      where
        go : (b : Bool) → ltb j count ≡ b → t ≡ Lane (j + 1) i
        go true q =
            let h : j < count = ltb→lt j count (subst T (sym q) tt) in
            let l : j < band_count g limit i = rw c at h in
            let m : min j (band_count g limit i) ≡ j = omega arith in
            let m' : min (j + 1) (band_count g limit i) ≡ j + 1 = omega arith in
            let sum : next ≡ folded add_abs xs (place (i * g + j)) stride 8 a.sum = n
            ∙ ap₂ (λ (k : ℕ) (y : Float). folded add_abs xs k stride 8 y) (p ∙ ap place (within j i l)) w in
            u ∙ ap (λ (b : Bool). cond b (with_sum next a) a) q
            ∙ ap (λ (y : Float). with_sum y a) sum
            ∙ ap (take (i * g + j)) (e ∙ ap (λ (k : ℕ). bands_taken take (i * g) k no_average) m)
            ∙ sym (taken_more j (i * g) no_average) ∙ ap (λ (k : ℕ). bands_taken take (i * g) k no_average) (sym m')
        go false q =
            let h : count ≤ j = nltb→le j count (subst (λ (b : Bool). T (not b)) (sym q) tt) in
            let m : min j (band_count g limit i) ≡ min (j + 1) (band_count g limit i) = omega arith in
            u ∙ ap (λ (b : Bool). cond b (with_sum next a) a) q ∙ e ∙ ap (λ (k : ℕ). bands_taken take (i * g) k no_average) m

    -- no group has more bands than one before it
    pub count_falls : (i k : ℕ) → band_count g limit (i + k) ≤ band_count g limit i
    unfolding band_count
    count_falls i k = omega (arith, add-mul i k g, suc-mul (i + k) g, suc-mul i g)

    pub lane_all : (j i : ℕ) (a : Average) → band_count g limit i ≤ j → a ≡ Lane j i → a ≡ group_average take limit g i
    unfolding group_average band_count
    lane_all j i a h e =
        let m : min j (band_count g limit i) ≡ band_count g limit i = omega arith in e ∙ ap (λ (k : ℕ). bands_taken take (i * g) k no_average) m

-- the two averages, as the code finds their bounds
module _ (l : Layout) (xs : List Float) (n g : ℕ) (p : n ≡ start_band l) (q : g ≡ bands_per_group l) (i : ℕ) where
  pub spectrum_is : group_average (λ b. with_eight xs (n + b) 128) (128 - n) g i ≡ spectrum_average l xs i
  unfolding spectrum_average
  spectrum_is = rw (p, q)

  pub source_is : (limit : ℕ) → limit ≡ min (l.total - n) n → group_average (λ b. with_eight xs ((n - 1 - b) * 8) 1) limit g i ≡ source_average l xs i
  unfolding source_average
  source_is limit e = rw (e, p, q)

-- four of each side by side, from whichever calls they come
module _ (l : Layout) (xs : List Float) (n g k : ℕ) (a b c d : Average) (p : n ≡ start_band l) (q : g ≡ bands_per_group l) where
  pub four_spectra : AreFour (group_average (λ j. with_eight xs (n + j) 128) (128 - n) g) k a b c d → AreFour (spectrum_average l xs) k a b c d
  four_spectra w = let is = spectrum_is l xs n g p q in (w.0 ∙ is k, w.1 ∙ is (k + 1), w.2 ∙ is (k + 2), w.3 ∙ is (k + 3))

  pub four_sources : (limit : ℕ) → limit ≡ min (l.total - n) n → AreFour (group_average (λ j. with_eight xs ((n - 1 - j) * 8) 1) limit g) k a b c d
      → AreFour (source_average l xs) k a b c d
  four_sources limit e w =
      let is : (i : ℕ) → group_average (λ j. with_eight xs ((n - 1 - j) * 8) 1) limit g i ≡ source_average l xs i = λ i. source_is l xs n g p q i limit e in
      (w.0 ∙ is k, w.1 ∙ is (k + 1), w.2 ∙ is (k + 2), w.3 ∙ is (k + 3))
