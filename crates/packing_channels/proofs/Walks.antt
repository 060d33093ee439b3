-- A channel's factors and side values are blocks, one for each index. Assumes nothing.
use mathlib.Core.Path.{◌≡◌, refl, ◌∙◌, ap}
use mathlib.Core.List.{List, [], foldl}
use mathlib.Core.Bool.{Bool}
use mathlib.Core.Logic.{◌≢◌}
use mathlib.Core.Option.{Option, none, some}
use Prim.Native.Nat.{ℕ, zero, suc, ◌-◌, ◌≤◌}
use native.Mathlib.Omega.{arith}
use borrow.Author.Tests.{eq-eqb, ne_eqb}
use lib.ListN.{length, take, get_or}
use Rattle.buffers.specs.Walk.{build, blocks}
use Rattle.buffers.proofs.Build.{build_const, build-of}
use Rattle.bits.specs.Bits.{bits}
use Rattle.rules.specs.Format.{each_bits, times}
use Rattle.rules.specs.Fields.{delta_bits, factor_bits, as_previous, all_factor_bits}
use Rattle.widths.specs.Previous.{factor_before}
use Rattle.rules.proofs.Cuts.{blocks-same}
use Rattle.rules_formats.proofs.Written.{foldl_snoc, walk-blocks, front, times-blocks}

pub side-blocks : (w : ℕ → List Bool) (ys : List ℕ) → each_bits (λ _. w) (times (length ys)) ys ≡ blocks (λ i. w (get_or ys i 0)) (length ys)
side-blocks w ys =
    let e : ys ≡ build (λ i. get_or ys i 0) (length ys) = build-of (λ i. get_or ys i 0) (length ys) 0 ys refl (λ i _. refl) in
    ap (each_bits (λ _. w) (times (length ys))) e ∙ times-blocks w (λ i. get_or ys i 0) (length ys)

-- a channel's factors
state_is : (fs : List ℕ) (i : ℕ) → foldl as_previous none (build (λ j. get_or fs j 0) i) ≡ factor_before i (get_or fs (i - 1) 0)
unfolding build
state_is fs zero = refl
state_is fs (suc i) = let e : i ≡ suc i - 1 = omega arith in
    foldl_snoc as_previous none (build (λ j. get_or fs j 0) i) (get_or fs i 0) ∙ ap (λ k. some (get_or fs k 0)) e

pub factors-blocks : (w : ℕ) (fs : List ℕ) (n : ℕ) → 1 ≤ w → n ≤ length fs → all_factor_bits w n (take n fs)
    ≡ blocks (λ i. factor_bits w (factor_before i (get_or fs (i - 1) 0)) (get_or fs i 0)) n
factors-blocks zero fs n h k = absurd (omega arith)
factors-blocks (suc w) fs n h k =
    rw (front 0 fs n k, ← build_const (tt {0}) n)
    (walk-blocks as_previous (λ previous _. factor_bits (suc w) previous) none (λ _. tt {0}) (λ i. get_or fs i 0) n
    ∙ blocks-same _ _ n (λ i _. ap (λ p. factor_bits (suc w) p (get_or fs i 0)) (state_is fs i)))

pub no_factors_lem : (w n : ℕ) (fs : List ℕ) → w ≡ 0 → all_factor_bits w n fs ≡ []
no_factors_lem w n fs e = rw e

pub first_factor : (w i p f : ℕ) → i ≡ 0 → factor_bits w (factor_before i p) f ≡ bits 6 f
first_factor w i p f e = rw e

pub six_factor : (w : ℕ) (p : Option ℕ) (f : ℕ) → w ≡ 6 → factor_bits w p f ≡ bits 6 f
six_factor w none f e = refl
six_factor w (some p) f e = rw (eq-eqb w 6 e)

pub later_factor : (w i p f : ℕ) → i ≢ 0 → w ≢ 6 → factor_bits w (factor_before i p) f ≡ delta_bits w p f
later_factor w zero p f h k = absurd (h refl)
later_factor w (suc i) p f h k = rw (ne_eqb w 6 k)
