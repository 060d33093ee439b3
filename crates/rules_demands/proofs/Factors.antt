-- A channel's width and factors are read back. Assumes nothing.
use mathlib.Core.Path.{◌≡◌, refl, sym, ◌∙◌, ap, ap₂}
use mathlib.Core.List.{List, [], ◌∷◌, ◌++◌}
use mathlib.Core.Logic.{◌↔◌, ◌≢◌}
use mathlib.Core.Bool.{Bool, true, false, cond, not, ◌&&◌, ◌||◌}
use mathlib.Core.Option.{Option, none, some}
use Prim.Native.Nat.{ℕ, zero, suc, ◌+◌, ◌-◌, ◌^◌, ◌≤◌, ◌<◌}
use native.Mathlib.Omega.{arith}
use lib.ListN.{replicate}
use lib.Dec.{T, leb, eqb, eqb→eq, eqb_refl}
use lib.Pow.{pow_pos}
use lib.IntN.{nat_abs}
use borrow.Author.Tests.{le-leb}
use Rattle.bits.specs.Bits.{bits}
use Rattle.rules.specs.Format.{keep, require, stay, Each, times, number, Lawful}
use Rattle.rules.specs.Width.{reach_of, near, all_zero, width}
use Rattle.rules.specs.Fields.{delta_symbol, delta_bits, factor_bits, as_previous, all_factor_bits}
use Rattle.rules.specs.Reading.{delta_factor, read_delta, read_factor, read_factors, read_width}
use Rattle.rules_formats.proofs.Formats.{pure_fits, iff_fits, same-fits, here-fits, bind_fits, keep-fits, check-fits, walk-fits, walked_any}
use Rattle.rules_formats.proofs.Numbers.{bool_case, eqb_case, number_fits}
use Rattle.rules_formats.proofs.Prefix.{both}
use Rattle.rules_demands.proofs.Widths.{width-silent, width-le, width-zero}
use Rattle.rules_formats.proofs.Deltas.{near-is, near_yes, ones_are, symbol-is, within, factor_is, within-is, within_yes}

module _ (e p : ℕ) where
  -- a delta's symbol is below all ones, which stand for what is no delta
  near-symbol : (f : ℕ) → near (suc e) p f ≡ true → (delta_symbol (suc e) p f ≡ reach_of (suc e) + f - p) × (delta_symbol (suc e) p f < 2 ^ suc e - 1)
  unfolding delta_symbol
  near-symbol f q =
      let (h, g) = near-is (suc e) p f q in
      let z : delta_symbol (suc e) p f ≡ reach_of (suc e) + f - p = rw q (symbol-is (suc e) p f g) in
      (z, omega (arith, ones_are e))

  far_symbol : (f : ℕ) → near (suc e) p f ≡ false → delta_symbol (suc e) p f ≡ 2 ^ suc e - 1
  unfolding delta_symbol
  far_symbol f q = rw q

  symbol-lt : (f : ℕ) → delta_symbol (suc e) p f < 2 ^ suc e
  symbol-lt f =
      bool_case (λ b. near (suc e) p f ≡ b → delta_symbol (suc e) p f < 2 ^ suc e) (near (suc e) p f)
      (λ _ q. omega (arith, near-symbol f q))
      (λ _ q. omega (arith, far_symbol f q, pow_pos (suc e)))
      refl

  escape : (l v : ℕ) → v ≡ 2 ^ suc e - 1
      → Lawful (λ f. (delta_symbol (suc e) p f ≡ v) × (f < 64)) (λ f. cond (near (suc e) p f) [] (bits 6 f))
      (require 12 l (λ f. not (near (suc e) p f)) (number 6))
  escape l v z =
      iff_fits (λ f. (to f, from f))
      (same-fits (λ f h. rw (far f h.1))
      (check-fits 12 l (λ f. not (near (suc e) p f)) (number_fits 6)))
    where
      far : (f : ℕ) → T (not (near (suc e) p f)) → near (suc e) p f ≡ false
      far f = bool_case (λ b. T (not b) → b ≡ false) (near (suc e) p f) (λ _ k. absurd k) (λ _ k. refl)

      to : (f : ℕ) → (f < 2 ^ 6) × T (not (near (suc e) p f)) → (delta_symbol (suc e) p f ≡ v) × (f < 64)
      to f h = (far_symbol f (far f h.1) ∙ sym z, h.0)

      from : (f : ℕ) → (delta_symbol (suc e) p f ≡ v) × (f < 64) → (f < 2 ^ 6) × T (not (near (suc e) p f))
      from f h = (h.1, bool_case (λ b. near (suc e) p f ≡ b → T (not b)) (near (suc e) p f) (λ _ q. absurd (omega (arith, near-symbol f q))) (λ _ q. tt) refl)

  direct : (l v : ℕ) → v < 2 ^ suc e → v ≢ 2 ^ suc e - 1
      → Lawful (λ f. (delta_symbol (suc e) p f ≡ v) × (f < 64)) (λ f. cond (near (suc e) p f) [] (bits 6 f))
      (keep 12 l (within (delta_factor (suc e) p v)) (nat_abs (delta_factor (suc e) p v)))
  direct l v h z =
      same-fits (λ f k. rw (near_of f k.0))
      (iff_fits (λ f. (to f, from f))
      (keep-fits 12 l (within (delta_factor (suc e) p v)) (nat_abs (delta_factor (suc e) p v))))
    where
      near_of : (f : ℕ) → delta_symbol (suc e) p f ≡ v → near (suc e) p f ≡ true
      near_of f k = bool_case (λ b. near (suc e) p f ≡ b → b ≡ true) (near (suc e) p f) (λ _ _. refl) (λ _ q. absurd (z (sym k ∙ far_symbol f q))) refl

      to : (f : ℕ) → (f ≡ nat_abs (delta_factor (suc e) p v)) × T (within (delta_factor (suc e) p v)) → (delta_symbol (suc e) p f ≡ v) × (f < 64)
      to f k =
          let (h₁, h₂) = within-is (suc e) p v k.1 in
          let f-is : f ≡ p + v - reach_of (suc e) = k.0 ∙ ap nat_abs (factor_is (suc e) p v h₁) in
          let q = near_yes (suc e) p f (omega (arith, ones_are e)) (omega arith) in
          (omega (arith, near-symbol f q), omega arith)

      from : (f : ℕ) → (delta_symbol (suc e) p f ≡ v) × (f < 64) → (f ≡ nat_abs (delta_factor (suc e) p v)) × T (within (delta_factor (suc e) p v))
      from f k =
          let q = near_of f k.0 in
          let (h₁, h₂) = near-is (suc e) p f q in
          let g : reach_of (suc e) ≤ p + v = omega (arith, near-symbol f q) in
          let f-is : f ≡ p + v - reach_of (suc e) = omega (arith, near-symbol f q) in
          (f-is ∙ sym (ap nat_abs (factor_is (suc e) p v g)), within_yes (suc e) p v g (omega arith))

  pub delta_fits : Lawful (λ f. f < 64) (delta_bits (suc e) p) (read_delta (suc e) p)
  unfolding delta_bits
  delta_fits =
      here-fits (λ l. iff_fits (λ f. ((λ h. h.1), (λ h. (symbol-lt f, h))))
      (bind_fits (delta_symbol (suc e) p) (number_fits (suc e))
      (λ v h. eqb_case
      (λ b. Lawful (λ f. (delta_symbol (suc e) p f ≡ v) × (f < 64)) (λ f. cond (near (suc e) p f) [] (bits 6 f))
      (cond b (require 12 l (λ f. not (near (suc e) p f)) (number 6)) (keep 12 l (within (delta_factor (suc e) p v)) (nat_abs (delta_factor (suc e) p v)))))
      v (2 ^ suc e - 1) (λ z. escape l v z) (λ z. direct l v h z))))

-- a factor at a width above 0
pub factor_fits : (w : ℕ) (p : Option ℕ) → Lawful (λ f. f < 64) (factor_bits (suc w) p) (read_factor (suc w) p)
factor_fits w none = number_fits 6
factor_fits w (some p) =
    bool_case (λ b. Lawful (λ f. f < 64) (λ f. cond b (bits 6 f) (delta_bits (suc w) p f)) (cond b (number 6) (read_delta (suc w) p))) (eqb (suc w) 6)
    (λ _. number_fits 6) (λ _. delta_fits w p)

-- a channel's factors, and its width before them
abbrev Small : ℕ → List ℕ → Type 0
Small n fs = Each (λ _ f. f < 64) (times n) fs

pub factors-fits : (w n : ℕ) → Lawful (Small n) (all_factor_bits (suc w) n) (read_factors (suc w) n)
factors-fits w n =
    iff_fits (λ fs. (walked_any as_previous stay (λ _ f. f < 64) none tt (times n) fs, walked_any stay as_previous (λ _ f. f < 64) tt none (times n) fs))
    (walk-fits as_previous (λ p _. factor_fits w p) none (times n))

T_true : (b : Bool) → T b → b ≡ true
T_true true h = refl
T_true false h = absurd h

zeros_are : (n : ℕ) (fs : List ℕ) → Small n fs → all_zero fs ≡ true → fs ≡ replicate n 0
unfolding all_zero
zeros_are zero [] h e = refl
zeros_are zero (f ∷ fs) h e = absurd h
zeros_are (suc n) [] h e = absurd h
zeros_are (suc n) (f ∷ fs) h e =
    let (z, zs) = both (eqb f 0) (all_zero fs) (rw e tt) in
    ap₂ (λ x xs. x ∷ xs) (eqb→eq f 0 z) (zeros_are n fs h.1 (T_true (all_zero fs) zs))

zeros-small : (n : ℕ) → Small n (replicate n 0)
zeros-small zero = tt
zeros-small (suc n) = (omega arith, zeros-small n)

-- what `read_factors` takes at each width
abbrev At : ℕ → ℕ → List ℕ → Type 0
At zero n fs = fs ≡ replicate n 0
At (suc w) n fs = Small n fs

at-fits : (w n : ℕ) → Lawful (At w n) (all_factor_bits w n) (read_factors w n)
at-fits zero n = pure_fits (replicate n 0)
at-fits (suc w) n = factors-fits w n

at-is : (w n : ℕ) (fs : List ℕ) → (At w n fs × T (eqb (width fs) w)) ↔ ((width fs ≡ w) × Small n fs)
at-is zero n fs = (
  (λ h. (eqb→eq (width fs) 0 h.1, rw h.0 (zeros-small n))),
  (λ h. (zeros_are n fs h.1 (width-zero fs h.0), rw h.0 tt)),
)
at-is (suc w) n fs = (
  (λ h. (eqb→eq (width fs) (suc w) h.1, h.0)),
  (λ h. (h.1, rw h.0 (eqb_refl (suc w)))),
)

width_at_once : (n : ℕ) (fs : List ℕ) → Small n fs → T (leb 1 n || eqb (width fs) 0)
unfolding all_zero
width_at_once zero [] h = rw (width-silent [] refl).0 tt
width_at_once zero (f ∷ fs) h = absurd h
width_at_once (suc n) fs h = rw (le-leb 1 (suc n) (omega arith)) tt

pub width_fits : (n : ℕ) → Lawful (Small n) (λ fs. bits 3 (width fs) ++ all_factor_bits (width fs) n fs) (read_width n)
width_fits n =
    here-fits (λ l. iff_fits (λ fs. ((λ h. h.1), (λ h. ((omega (arith, width-le fs), rw (le-leb (width fs) 6 (width-le fs)) (width_at_once n fs h)), h))))
    (bind_fits width (check-fits 11 l (λ w. leb w 6 && (leb 1 n || eqb w 0)) (number_fits 3))
    (λ w _. same-fits (λ fs h. ap (λ x. all_factor_bits x n fs) (sym h.0))
    (iff_fits (at-is w n) (check-fits 11 l (λ fs. eqb (width fs) w) (at-fits w n))))))
