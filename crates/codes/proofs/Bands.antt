-- A channel's codes laid band by band: what a band leaves where, and that all of them are the channel's. Assumes nothing.
use mathlib.Core.Path.{◌≡◌, refl, sym, ap₂, ◌∙◌}
use mathlib.Core.List.{List}
use mathlib.Core.Logic.{⊎_elim}
use Prim.Native.Nat.{ℕ, zero, suc, ◌+◌, ◌-◌, ◌*◌, ◌≤◌, ◌<◌}
use native.Mathlib.Nat.{le_of_suc-le-suc, eq-or-lt_of_le}
use native.Mathlib.Numerals.{add-one}
use native.Mathlib.Omega.{arith}
use lib.IntN.{ℤ, pos}
use lib.Ieee.{Float}
use lib.ListN.{length, drop, get_or, get_or-eq_default, set, length-set}
use lib.Seq.{get_or-set_same, get_or-set_other, get_or-take, get_or-drop}
use Rattle.std.specs.Prelude.{sum}
use Rattle.std.proofs.lemmas.List.Sums.{sum_by-le, get_or-le-sum_by}
use Rattle.std.proofs.lemmas.List.Elements.{All-from_get_or}
use Rattle.buffers.specs.Walk.{AtMost}
use Rattle.buffers.proofs.Build.{build-of, length-build}
use Rattle.buffers.proofs.Blocks.{length-blocks}
use Rattle.rules.specs.Layout.{part}
use Rattle.rules.specs.Code.{recorded_code, code_at, subframe_codes, channel_codes}
use Rattle.rules.specs.declared.Mode.{Mode}
use Rattle.rules.proofs.Cuts.{by_order, blocks-same, length_part, parts_all}
use Rattle.codes.specs.Bands.{band_laid, bands_laid, SilentFrom}

-- one band: no subframe laid, one more, and the length that stays
module _ (code : ℕ → ℤ) (b : ℕ) (codes : List ℤ) where
  pub band-none : codes ≡ band_laid code b 0 codes
  unfolding band_laid
  band-none = refl

  pub band_more : (n : ℕ) → band_laid code b (n + 1) codes ≡ set (band_laid code b n codes) (n * 128 + b) (code n)
  unfolding band_laid
  band_more n = rw add-one

  band-length : (n : ℕ) → length (band_laid code b n codes) ≡ length codes
  unfolding band_laid
  band-length zero = refl
  band-length (suc n) = length-set (band_laid code b n codes) (n * 128 + b) _ ∙ band-length n

  -- every other band stays
  band_others : (n s i : ℕ) → b < 128 → i < 128 → (i ≡ b → ⊥) → get_or (band_laid code b n codes) (s * 128 + i) (pos 0) ≡ get_or codes (s * 128 + i) (pos 0)
  unfolding band_laid
  band_others zero s i g h q = refl
  band_others (suc n) s i g h q =
      get_or-set_other (band_laid code b n codes) (n * 128 + b) (s * 128 + i) _ (pos 0) (λ p. q (omega arith)) ∙ band_others n s i g h q

  -- its own codes are stored
  band_own : (n s : ℕ) → n * 128 ≤ length codes → b < 128 → s < n → get_or (band_laid code b n codes) (s * 128 + b) (pos 0) ≡ code s
  unfolding band_laid
  band_own zero s l g h = absurd (omega arith)
  band_own (suc n) s l g h =
      ⊎_elim
      (λ (q : s ≡ n). rw q (get_or-set_same (band_laid code b n codes) (n * 128 + b) _ (pos 0) (omega (arith, band-length n))))
      (λ (lt : s < n). get_or-set_other (band_laid code b n codes) (n * 128 + b) (s * 128 + b) _ (pos 0) (λ q. omega arith) ∙ band_own n s (omega arith) g lt)
      (eq-or-lt_of_le (le_of_suc-le-suc h))

pub band-same : (f g : ℕ → ℤ) (b : ℕ) (codes : List ℤ) (n : ℕ) → ((s : ℕ) → s < n → f s ≡ g s) → band_laid f b n codes ≡ band_laid g b n codes
unfolding band_laid
band-same f g b codes zero h = refl
band-same f g b codes (suc n) h =
    ap₂ (λ (xs : List ℤ) (z : ℤ). set xs (n * 128 + b) z) (band-same f g b codes n (λ s l. h s (omega arith))) (h n (omega arith))

-- the bands from one on: none, one more, and the length that stays
module _ (code : ℕ → ℕ → ℤ) (start : ℕ) (codes : List ℤ) where
  pub bands-none : (n : ℕ) → n ≡ 0 → codes ≡ bands_laid code start n codes
  unfolding bands_laid
  bands-none n e = rw e

  pub bands_more : (n m i : ℕ) → m ≡ n + 1 → i ≡ start + n → (xs ys : List ℤ) → xs ≡ bands_laid code start n codes → ys ≡ band_laid (code i) i 8 xs
      → ys ≡ bands_laid code start m codes
  unfolding bands_laid
  bands_more n m i p q xs ys e f = let k : m ≡ suc n = p ∙ add-one n in rw (f, e, q, k)

  pub bands-length : (n : ℕ) → length (bands_laid code start n codes) ≡ length codes
  unfolding bands_laid
  bands-length zero = refl
  bands-length (suc n) = band-length (code (start + n)) (start + n) (bands_laid code start n codes) 8 ∙ bands-length n

  -- those before stay
  bands-before : (n s i : ℕ) → start + n ≤ 128 → i < start → get_or (bands_laid code start n codes) (s * 128 + i) (pos 0) ≡ get_or codes (s * 128 + i) (pos 0)
  unfolding bands_laid
  bands-before zero s i h l = refl
  bands-before (suc n) s i h l =
      band_others (code (start + n)) (start + n) (bands_laid code start n codes) 8 s i (omega arith) (omega arith) (λ q. omega arith)
      ∙ bands-before n s i (omega arith) l

  -- and they are stored
  bands_own : (n s i : ℕ) → length codes ≡ 1024 → start + n ≤ 128 → s < 8 → start ≤ i → i < start + n
      → get_or (bands_laid code start n codes) (s * 128 + i) (pos 0) ≡ code i s
  unfolding bands_laid
  bands_own zero s i z h g k l = absurd (omega arith)
  bands_own (suc n) s i z h g k l =
      let e : start + suc n ≡ suc (start + n) = omega arith in
      let u : i ≤ start + n = omega arith in
      ⊎_elim
      (λ (q : i ≡ start + n).
      rw q (band_own (code (start + n)) (start + n) (bands_laid code start n codes) 8 s (omega (arith, bands-length n)) (omega arith) g))
      (λ (lt : i < start + n).
      band_others (code (start + n)) (start + n) (bands_laid code start n codes) 8 s i (omega arith) (omega arith) (λ q. omega arith)
      ∙ bands_own n s i z (omega arith) g k lt)
      (eq-or-lt_of_le u)

-- the first n bands laid, and zeros from there on: a channel's codes
module _ (m : Mode) (rs : List ℕ) (sc : List Float) (n : ℕ) (codes : List ℤ) (long : length codes ≡ 1024) (few : n ≤ 128) (silent : SilentFrom n rs) where
  abbrev first : List ℤ
  first = bands_laid (λ b s. code_at m rs sc s b) 0 n codes

  abbrev all : List ℤ
  all = bands_laid (λ b s. pos 0) n (128 - n) first

  all-long : length all ≡ 1024
  all-long = bands-length (λ b s. pos 0) n first (128 - n) ∙ bands-length (λ b s. code_at m rs sc s b) 0 codes n ∙ long

  none : (s i : ℕ) → n ≤ i → pos 0 ≡ code_at m rs sc s i
  unfolding code_at recorded_code
  none s i h = rw (silent i h)

  at : (s i : ℕ) → s < 8 → i < 128 → get_or all (s * 128 + i) (pos 0) ≡ code_at m rs sc s i
  at s i g h =
      by_order i n
      (λ lt.
      bands-before (λ b s. pos 0) n first (128 - n) s i (omega arith) lt
      ∙ bands_own (λ b s. code_at m rs sc s b) 0 codes n s i long (omega arith) g (omega arith)
      (omega arith))
      (λ ge.
      bands_own (λ b s. pos 0) n first (128 - n) s i (bands-length (λ b s. code_at m rs sc s b) 0 codes n ∙ long) (omega arith) g ge (omega arith) ∙ none s i ge)

  pub channel_laid : all ≡ channel_codes m rs sc
  unfolding channel_codes subframe_codes
  channel_laid =
      sym (parts_all 128 8 all all-long)
      ∙ blocks-same (part 128 all) (subframe_codes m rs sc) 8
      (λ s g. build-of (code_at m rs sc s) 128 (pos 0) (part 128 all s) (length_part 128 8 s all (omega (arith, all-long)) g)
      (λ i lt. get_or-take 128 (drop (s * 128) all) i (pos 0) lt ∙ get_or-drop (s * 128) all i (pos 0) ∙ at s i g lt))

-- a channel's codes: their length, and their place in a frame
pub codes-size : (m : Mode) (rs : List ℕ) (sc : List Float) → length (channel_codes m rs sc) ≡ 1024
unfolding channel_codes subframe_codes
codes-size m rs sc = length-blocks (subframe_codes m rs sc) 128 8 (λ s _. length-build _ 128) 8 (omega arith)

-- channel c's, in a frame
abbrev pub codes_at : (mode : Mode) (resolutions : List ℕ) (scaled : List Float) (channel : ℕ) → List ℤ
codes_at mode resolutions scaled channel = channel_codes mode (part 128 resolutions channel) (part 1024 scaled channel)

-- the sum of eight resolutions fits a byte, and where it is 0 each is
pub sum_fits : (xs : List ℕ) → AtMost 15 xs → length xs ≡ 8 → sum xs < 256
sum_fits xs h e = omega (arith, sum_by-le (λ x. x) 15 xs (All-from_get_or (λ x. x ≤ 15) xs 0 (λ i _. h i)))

pub sum-none : (xs : List ℕ) → sum xs ≡ 0 → (i : ℕ) → get_or xs i 0 ≡ 0
sum-none xs e i =
    by_order i (length xs) (λ lt. omega (arith, get_or-le-sum_by (λ x. x) xs i 0 lt)) (λ ge. get_or-eq_default xs 0 ge)
