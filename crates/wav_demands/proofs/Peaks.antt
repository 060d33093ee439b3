-- The level note: both 0.0 of no sample; the peak is some sample's magnitude, and none is larger. Assumes nothing.
use mathlib.Core.Path.{◌≡◌, refl, sym, ap, ◌∙◌, subst}
use mathlib.Core.List.{List, [], ◌∷◌, foldl}
use mathlib.Core.Bool.{Bool, true, false, cond}
use mathlib.Core.Logic.{◌⊎◌, inl, inr, ⊎_elim}
use Prim.Native.Nat.{ℕ, zero, suc, ◌+◌, ◌*◌, ◌^◌, ◌≤◌, ◌<◌, suc-le-suc}
use native.Mathlib.Nat.{not-suc-le-zero, le_of_suc-le-suc, zero-lt-suc, mul-pos, mul-one, one-mul, pow-succ'}
use native.Mathlib.Omega.{arith}
use borrow.Author.Tests.{ltb-true, ltb-false, lt-ltb, le-ltb}
use lib.Dec.{T, eqb, ltb, eqb→eq}
use lib.IntN.{ℤ, pos, negsuc}
use lib.ListN.{length, get_or}
use lib.Pow.{pow_pos}
use lib.Ieee.{Float, nan, inf, fin, binary32, up, down, lt, fits}
use lib.Ieee.Fits.{up_pos, down_pos}
use lib.Ieee.Positive.{through}
use lib.Ieee.Scale.{finite}
use Rattle.floats.specs.Single.{zero_f, abs_f, max_f, max_abs, no_average, with_one, mean, mean_f}
use Rattle.rules_files.specs.Wav.{note_of}

-- Both are 0 where no whole sample is present.
pub note-none : ((note_of []).peak ≡ zero_f) × ((note_of []).mean ≡ zero_f)
unfolding note_of mean mean_f no_average
note-none = (refl, refl)

-- ---- the order of magnitudes

abbrev Magnitude : Float → Type 0
Magnitude nan = ⊥
Magnitude (inf s) = ⊥
Magnitude (fin true m e) = ⊥
Magnitude (fin false m e) = Unit {0}

magnitude_of : (x : Float) → finite x ≡ true → Magnitude (abs_f x)
unfolding abs_f
magnitude_of nan e = let z : ◌≡◌ {A = ℕ} 0 1 = cc in absurd (omega arith)
magnitude_of (inf s) e = let z : ◌≡◌ {A = ℕ} 0 1 = cc in absurd (omega arith)
magnitude_of (fin s m e) _ = tt

not_below_itself : (a : Float) → Magnitude a → lt a a ≡ false
unfolding lt
not_below_itself (fin false m e) h = le-ltb (m * up e * down e) (m * up e * down e) (omega arith)
not_below_itself nan h = absurd h
not_below_itself (inf s) h = absurd h
not_below_itself (fin true m e) h = absurd h

not-both : (a b : Float) → Magnitude a → Magnitude b → lt a b ≡ true → lt b a ≡ false
unfolding lt
not-both (fin false m e) (fin false n d) h k t = le-ltb (n * up d * down e) (m * up e * down d)
    (omega (arith, ltb-true (m * up e * down d) (n * up d * down e) t))
not-both nan b h k t = absurd h
not-both (inf s) b h k t = absurd h
not-both (fin true m e) b h k t = absurd h
not-both (fin false m e) nan h k t = absurd k
not-both (fin false m e) (inf s) h k t = absurd k
not-both (fin false m e) (fin true n d) h k t = absurd k

not-below : (a b c : Float) → Magnitude a → Magnitude b → Magnitude c → lt a b ≡ false → lt b c ≡ false → lt a c ≡ false
unfolding lt
not-below (fin false m e) (fin false n d) (fin false o g) h k l p q =
    le-ltb (m * up e * down g) (o * up g * down e)
    (through (o * up g) (n * up d) (m * up e) (down g) (down d) (down e) (down_pos d)
    (ltb-false (n * up d * down g) (o * up g * down d) q) (ltb-false (m * up e * down d) (n * up d * down e) p))
not-below nan b c h k l p q = absurd h
not-below (inf s) b c h k l p q = absurd h
not-below (fin true m e) b c h k l p q = absurd h
not-below (fin false m e) nan c h k l p q = absurd k
not-below (fin false m e) (inf s) c h k l p q = absurd k
not-below (fin false m e) (fin true n d) c h k l p q = absurd k
not-below (fin false m e) (fin false n d) nan h k l p q = absurd l
not-below (fin false m e) (fin false n d) (inf s) h k l p q = absurd l
not-below (fin false m e) (fin false n d) (fin true o g) h k l p q = absurd l

-- the larger of two: one of them, and below neither
record Larger (a b c : Float) : Type 0 where
  pub magnitude : Magnitude c
  pub first : lt c a ≡ false
  pub second : lt c b ≡ false
  pub one : (c ≡ a) ⊎ (c ≡ b)

larger : (a b : Float) → Magnitude a → Magnitude b → Larger a b (max_f a b)
unfolding max_f
larger a b h k = go (lt a b) refl
  where
    go : (t : Bool) → lt a b ≡ t → Larger a b (cond t b a)
    go true e = record { magnitude = k; first = not-both a b h k e; second = not_below_itself b k; one = inr refl }
    go false e = record { magnitude = h; first = not_below_itself a h; second = e; one = inl refl }

-- ---- the peak from p on

abbrev AllFinite : List Float → Type 0
AllFinite xs = (i : ℕ) → i < length xs → finite (get_or xs i nan) ≡ true

record Tops (p : Float) (xs : List Float) (r : Float) : Type 0 where
  pub magnitude : Magnitude r
  pub start : lt r p ≡ false
  pub none : (i : ℕ) → i < length xs → lt r (abs_f (get_or xs i nan)) ≡ false
  pub some : (r ≡ p) ⊎ ((i : ℕ) × (i < length xs) × (r ≡ abs_f (get_or xs i nan)))

-- one sample more in front
joined : (x : Float) (xs : List Float) (p q r : Float) → Magnitude p → Magnitude (abs_f x) → Larger p (abs_f x) q → Tops q xs r → Tops p (x ∷ xs) r
joined x xs p q r h m l t = record {
  magnitude = t.magnitude;
  start = not-below r q p t.magnitude l.magnitude h t.start l.first;
  none = none_larger;
  some = ⊎_elim
      (λ (e : r ≡ q). ⊎_elim (λ (d : q ≡ p). inl (e ∙ d)) (λ (d : q ≡ abs_f x). inr (0, zero-lt-suc (length xs), e ∙ d)) l.one)
      (λ (w : (i : ℕ) × (i < length xs) × (r ≡ abs_f (get_or xs i nan))). inr (suc w.0, suc-le-suc w.1, w.2)) t.some;
}
  where
    none_larger : (i : ℕ) → i < length (x ∷ xs) → lt r (abs_f (get_or (x ∷ xs) i nan)) ≡ false
    none_larger zero g = not-below r q (abs_f x) t.magnitude l.magnitude m t.start l.second
    none_larger (suc i) g = t.none i (le_of_suc-le-suc g)

tops : (xs : List Float) (p : Float) → Magnitude p → AllFinite xs → Tops p xs (foldl max_abs p xs)
tops [] p h f = record { magnitude = h; start = not_below_itself p h; none = λ i q. absurd (not-suc-le-zero q); some = inl refl }
tops (x ∷ xs) p h f =
    let m : Magnitude (abs_f x) = magnitude_of x (f 0 (zero-lt-suc (length xs))) in
    let l : Larger p (abs_f x) (max_abs p x) = larger p (abs_f x) h m in
    joined x xs p (max_abs p x) (foldl max_abs (max_abs p x) xs) h m l (tops xs (max_abs p x) l.magnitude (λ i q. f (suc i) (suc-le-suc q)))

-- ---- a magnitude that is not above 0.0 is 0.0

two_up : (p : ℕ) → 0 < p → 2 * p ≡ 1 → ⊥
two_up p h e = omega arith

flat : (e : ℤ) → up e * down e ≡ 1 → e ≡ pos 0
flat (pos zero) h = refl
flat (pos (suc k)) h = absurd (two_up (2 ^ k) (pow_pos k) (sym (pow-succ' 2 k) ∙ sym (mul-one (2 ^ suc k)) ∙ h))
flat (negsuc k) h = absurd (two_up (2 ^ k) (pow_pos k) (sym (pow-succ' 2 k) ∙ sym (one-mul (2 ^ suc k)) ∙ h))

zero_of : (x : Float) → finite x ≡ true → T (fits binary32 x) → lt zero_f (abs_f x) ≡ false → abs_f x ≡ zero_f
unfolding abs_f lt fits
zero_of nan f h e = let z : ◌≡◌ {A = ℕ} 0 1 = cc in absurd (omega arith)
zero_of (inf s) f h e = let z : ◌≡◌ {A = ℕ} 0 1 = cc in absurd (omega arith)
zero_of (fin s zero e) f h l = ap (fin false 0) (flat e (eqb→eq (up e * down e) 1 h))
zero_of (fin s (suc m) e) f h l =
    absurd (omega (arith, ltb-false (0 * up (pos 0) * down e) (suc m * up e * down (pos 0)) l, mul-pos (zero-lt-suc m) (up_pos e)))

-- ---- The peak is some sample's magnitude, and none is larger.
module _ (xs : List Float) (some : 0 < length xs) (f : AllFinite xs) (h : (i : ℕ) → i < length xs → T (fits binary32 (get_or xs i nan))) where
  top : Tops zero_f xs (note_of xs).peak
  unfolding note_of
  top = tops xs zero_f tt f

  pub peak_largest : ((i : ℕ) × (i < length xs) × ((note_of xs).peak ≡ abs_f (get_or xs i nan)))
      × ((i : ℕ) → i < length xs → lt (note_of xs).peak (abs_f (get_or xs i nan)) ≡ false)
  peak_largest = (
    ⊎_elim
        (λ (e : (note_of xs).peak ≡ zero_f). (
          0,
          some,
          e ∙ sym (zero_of (get_or xs 0 nan) (f 0 some) (h 0 some) (subst (λ (r : Float). lt r (abs_f (get_or xs 0 nan)) ≡ false) e (top.none 0 some))),
        ))
        (λ w. w) top.some,
    top.none,
  )
