-- A list with one element stored, and one with a part put back: what each element is. Assumes nothing.
use mathlib.Core.Path.{◌≡◌, sym, ap, ◌∙◌, subst}
use mathlib.Core.List.{List, [], ◌∷◌, ◌++◌}
use Prim.Native.Nat.{ℕ, zero, suc, ◌+◌, ◌-◌, ◌≤◌, ◌<◌}
use native.Mathlib.Omega.{arith}
use lib.ListN.{length, get_or, set, take, drop, length-append, length-drop, get_or-append}
use lib.Seq.{get_or-take, get_or-drop, get_or-append-add, length-take-le}
use Rattle.rules_stereo.specs.Mixed.{put_back}
use Rattle.rules.proofs.Cuts.{by_order}

module _ {A : Type 0} (z : A) where
  pub set_keeps : (P : A → Type 0) (xs : List A) (j i : ℕ) (v : A) → P v → P (get_or xs i z) → P (get_or (set xs j v) i z)
  set_keeps P [] j i v p q = q
  set_keeps P (x ∷ xs) zero zero v p q = p
  set_keeps P (x ∷ xs) zero (suc i) v p q = q
  set_keeps P (x ∷ xs) (suc j) zero v p q = q
  set_keeps P (x ∷ xs) (suc j) (suc i) v p q = set_keeps P xs j i v p q

module _ {A : Type 0} (at n : ℕ) (new old : List A) (h : at + n ≤ length old) (e : length new ≡ n) where
  pub put_back-length : length (put_back at n new old) ≡ length old
  put_back-length = simp (length-append, length-drop) (omega (arith, length-take-le at old (omega arith)))

module _ {A : Type 0} (z : A) (at n : ℕ) (new old : List A) (h : at + n ≤ length old) (e : length new ≡ n) where
  pub put_back-at : (P : A → Type 0) (i : ℕ) → (i < at → P (get_or old i z)) → ((j : ℕ) → i ≡ at + j → j < n → P (get_or new j z)) → (at + n ≤ i → P (get_or old i z))
      → P (get_or (put_back at n new old) i z)
  put_back-at P i before inside after =
      by_order i at
      (λ p. subst P (sym (get_or-append (take at old) _ z i (omega (arith, long)) ∙ get_or-take at old i z p)) (before p))
      (λ p. let j = i - at in let ej : i ≡ length (take at old) + j = omega (arith, long) in
      subst (λ (k : ℕ). P (get_or (put_back at n new old) k z)) (sym ej)
      (subst P (sym (get_or-append-add (take at old) (new ++ drop n (drop at old)) j z)) (right j (omega arith))))
    where
      long : length (take at old) ≡ at
      long = length-take-le at old (omega arith)

      right : (j : ℕ) → i ≡ at + j → P (get_or (new ++ drop n (drop at old)) j z)
      right j ej =
          by_order j n
          (λ p. subst P (sym (get_or-append new _ z j (omega (arith, e)))) (inside j ej p))
          (λ p. let k = j - n in let ek : j ≡ length new + k = omega (arith, e) in
          let eo : at + (n + k) ≡ i = omega (arith, e) in
          subst (λ (m : ℕ). P (get_or (new ++ drop n (drop at old)) m z)) (sym ek)
          (subst P (sym (get_or-append-add new (drop n (drop at old)) k z ∙ get_or-drop n (drop at old) k z ∙ get_or-drop at old (n + k) z
          ∙ ap (λ (m : ℕ). get_or old m z) eo)) (after (omega arith))))
