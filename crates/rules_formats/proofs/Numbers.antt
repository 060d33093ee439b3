-- Tests by cases, and the laws of a number in k bits. Assumes nothing.
use mathlib.Core.Path.{◌≡◌, refl, sym, ◌∙◌, ap, subst}
use mathlib.Core.List.{List, ◌++◌}
use mathlib.Core.Logic.{◌≢◌}
use mathlib.Core.Bool.{Bool, true, false, cond}
use Prim.Native.Nat.{ℕ, ◌*◌, ◌^◌, ◌≤◌, ◌<◌}
use native.Mathlib.Omega.{arith}
use borrow.Author.Tests.{le-leb, lt-leb}
use Rattle.std.specs.Prelude.{Ok, Err}
use lib.ListN.{length, take, drop, length-append, take-append-drop}
use lib.Seq.{take_at, drop_at, length-take-le}
use lib.Dec.{T, leb, eqb, leb→le, nleb→lt, eqb→eq, eqb_refl}
use Rattle.bits.specs.Bits.{bits, value}
use Rattle.bits.specs.Place.{left_at, field_at}
use Rattle.bits.specs.declared.Place.{Place}
use Rattle.bits.specs.declared.PastEnd.{PastEnd}
use Rattle.bits.proofs.Numbers.{length-bits, value-back, value-lt, bits-value}
use Rattle.bits.proofs.Fields.{length-left, got, past}
use Rattle.rules.specs.Format.{ok, bad, number, Lawful}
use Rattle.rules_formats.proofs.Formats.{bad≢ok}

pub bool_case {ℓ} : (P : Bool → Type ℓ) (b : Bool) → (b ≡ true → P true) → (b ≡ false → P false) → P b
bool_case P true f g = f refl
bool_case P false f g = g refl

-- a test of order, by cases
pub leb_case {ℓ} : (P : Bool → Type ℓ) (m n : ℕ) → (m ≤ n → P true) → (n < m → P false) → P (leb m n)
leb_case P m n f g = bool_case P (leb m n) (λ e. f (leb→le m n (rw e tt))) (λ e. g (nleb→lt m n (rw e tt)))

pub eqb_case {ℓ} : (P : Bool → Type ℓ) (m n : ℕ) → (m ≡ n → P true) → (m ≢ n → P false) → P (eqb m n)
eqb_case P m n f g = bool_case P (eqb m n) (λ e. f (eqb→eq m n (rw e tt))) (λ e. g (λ q. subst T (ap (eqb m) q ∙ e) (eqb_refl m)))

pub number_fits : (k : ℕ) → Lawful (λ v. v < 2 ^ k) (bits k) (number k)
unfolding number
number_fits k = record {
  there = λ v t h.
      let e : leb k (length (bits k v ++ t)) ≡ true = le-leb k (length (bits k v ++ t)) (omega (arith, length-append (bits k v) t, length-bits k v)) in
      rw (e, take_at (bits k v) t k (length-bits k v), drop_at (bits k v) t k (length-bits k v), value-back k v h) refl;
  back = λ s a t.
      leb_case (λ b. cond b (ok (value (take k s)) (drop k s)) (bad 13 (length s)) ≡ ok a t → (a < 2 ^ k) × (s ≡ bits k a ++ t)) k (length s)
      (λ l e.
      let n = length-take-le k s l in
      let a-is : value (take k s) ≡ a = cc in
      let t-is : drop k s ≡ t = cc in
      let b-is : bits k (value (take k s)) ≡ take k s = subst (λ m. bits m (value (take k s)) ≡ take k s) n (bits-value (take k s)) in
      (subst (λ m. a < 2 ^ m) n (rw a-is at (value-lt (take k s))), sym (rw (← a-is, ← t-is, b-is) (take-append-drop k s))))
      (λ l e. absurd (bad≢ok e));
}

-- what a field read at a place of bytes says of the number there
module _ (s : List ℕ) (p n : ℕ) where
  pub number_got : {v : ℕ} {q : Place} → field_at s p n ≡ Ok (v, q) → number n (left_at s p) ≡ ok v (left_at s q.at)
  number_got {v} {q} e = let g = got s p n e in ap (number n) g.stands ∙ (number_fits n).there v (left_at s q.at) g.small

  pub number_past : {b : PastEnd} → p ≤ 8 * length s → field_at s p n ≡ Err b → number n (left_at s p) ≡ bad 13 (length (left_at s p))
  unfolding number
  number_past h e = let z : leb n (length (left_at s p)) ≡ false = lt-leb n (length (left_at s p)) (omega (arith, length-left s p, (past s p n e).1)) in rw z
