-- What the loops over a number's bytes keep. Assumes nothing.
use mathlib.Core.Path.{◌≡◌, refl, sym, ap, ap₂, ◌∙◌}
use mathlib.Core.List.{List, [], ◌∷◌, ◌++◌}
use Prim.Native.Nat.{ℕ, suc, ◌+◌, ◌-◌, ◌*◌, ◌/◌, ◌%◌, ◌^◌, ◌≤◌, ◌<◌}
use native.Mathlib.Nat.{div-one, pow-suc}
use native.Mathlib.Numerals.{add-one}
use native.Mathlib.Omega.{arith}
use lib.Arith.{digits_lt}
use lib.ListN.{length, get_or, take, drop, set, length-set, length-drop}
use lib.Seq.{take-suc, take_all, length-take-le}
use Rattle.numbers.specs.Numbers.{high_first, of_high, replaced}
use Rattle.numbers.proofs.HighFirst.{high-length, high-cons, high-none, high_empty, high-rest, high_snoc}
use Rattle.numbers.proofs.Replaced.{replaced-none, replaced_more}

-- ---- stored from the low byte up, with `left` bytes to go: what is left of the number, and the bytes behind

module _ (s : List ℕ) (at width number : ℕ) where
  abbrev pub Stored : (left rest : ℕ) (t : List ℕ) → Type 0
  Stored left rest t =
      (left ≤ width) × (rest ≡ number / 256 ^ (width - left)) × (length t ≡ length s) × (t ≡ replaced s (at + left) (high_first (width - left) number))

  pub stored-none : Stored width number s
  stored-none =
      let z : width - width ≡ 0 = omega arith in
      (omega arith, rw z (sym (div-one number)), refl, rw (z, high-none number) (sym (replaced-none s (at + width))))

  pub stored_more : (left rest : ℕ) (t : List ℕ) → at + width ≤ length s → 0 < left → Stored left rest t
      → Stored (left - 1) (rest / 256) (set t (at + (left - 1)) (rest % 256))
  stored_more left rest t h g (a, b, c, d) =
      let k : ℕ = width - left in
      let e : width - (left - 1) ≡ suc k = omega arith in
      let p : at + left ≡ suc (at + (left - 1)) = omega arith in (
        omega arith,
        ap (λ (x : ℕ). x / 256) b ∙ high-rest k number ∙ ap (λ (x : ℕ). number / 256 ^ x) (sym e),
        length-set t (at + (left - 1)) (rest % 256) ∙ c,
        ap₂ (λ (x : List ℕ) (y : ℕ). set x (at + (left - 1)) (y % 256)) (d ∙ ap (λ (x : ℕ). replaced s x (high_first k number)) p) b
            ∙ replaced_more s (at + (left - 1)) (high_first k number) (number / 256 ^ k % 256) (omega (arith, high-length k number))
            ∙ ap (replaced s (at + (left - 1))) (sym (high-cons k number) ∙ ap (λ (x : ℕ). high_first x number) (sym e)),
      )

-- ---- read from the high byte down: the number of the first i bytes of s

module _ (s : List ℕ) where
  abbrev pub Taken : (i number : ℕ) → Type 0
  Taken i number = (number ≡ of_high (take i s)) × (number < 256 ^ i)

  pub taken_none : Taken 0 0
  taken_none = (sym high_empty, omega arith)

  pub taken_more : (i number b : ℕ) → i < length s → Taken i number → b ≡ get_or s i 0 → b < 256 → Taken (i + 1) (number * 256 + b)
  taken_more i number b h (e, l) q m =
      let x : take (i + 1) s ≡ take i s ++ (get_or s i 0 ∷ []) = rw (add-one i, take-suc s i 0 h) in (
        ap₂ (λ (n c : ℕ). n * 256 + c) e q ∙ sym (high_snoc (take i s) (get_or s i 0)) ∙ ap of_high (sym x),
        rw (add-one i, pow-suc 256 i) (digits_lt l m),
      )

  pub taken_all : (i number : ℕ) → length s ≤ i → Taken i number → number ≡ of_high s
  taken_all i number h (e, l) = e ∙ ap of_high (take_all i s h)

-- the part of `width` bytes from byte `at` on, as it is lent
module _ (xs : List ℕ) (at width : ℕ) where
  abbrev pub lent : List ℕ
  lent = take (at + width - at) (drop at xs)

  pub lent-is : lent ≡ take width (drop at xs)
  lent-is = let e : at + width - at ≡ width = omega arith in ap (λ (n : ℕ). take n (drop at xs)) e

  pub length-lent : at + width ≤ length xs → length lent ≡ width
  length-lent h =
      let g : width ≤ length (drop at xs) = simp length-drop (omega arith) in
      ap length lent-is ∙ length-take-le width (drop at xs) g
