-- A loop that reads one value after another: what is read already, and then what the rest gives. Assumes nothing.
use mathlib.Core.Path.{◌≡◌, refl, sym, ap}
use mathlib.Core.List.{List, [], ◌∷◌, ◌++◌, append-nil}
use mathlib.Core.Bool.{Bool}
use Prim.Native.Nat.{ℕ, suc, ◌+◌, ◌≤◌, ◌<◌}
use native.Mathlib.Numerals.{add-one}
use lib.ListN.{length, get_or, drop, drop_of_length-le}
use lib.Seq.{drop-cons, append_snoc}
use Rattle.rules.specs.Format.{Read, ok, bad, Reader, pure, and_then, walk, stay, each}

abbrev pub onto : {A : Type 0} → List A → Read (List A) → Read (List A)
onto done (ok r t) = ok (done ++ r) t
onto done (bad n l) = bad n l

onto-cons : {A : Type 0} (done : List A) (a : A) (x : Read (List A)) → onto done (and_then x (λ r. pure (a ∷ r))) ≡ onto (done ++ (a ∷ [])) x
onto-cons done a (ok r t) = ap (λ z. ok z t) (sym (append_snoc done a r))
onto-cons done a (bad n l) = refl

pub onto-none : {A : Type 0} (x : Read (List A)) → x ≡ onto [] x
onto-none (ok r t) = refl
onto-none (bad n l) = refl

module _ {S X A : Type 0} (next : S → A → S) (f : S → X → Reader A) (done : List A) (s : S) (x : X) (xs : List X) (b : List Bool) where
  pub walk_turn : (a : A) (t : List Bool) → f s x b ≡ ok a t → onto done (walk next f s (x ∷ xs) b) ≡ onto (done ++ (a ∷ [])) (walk next f (next s a) xs t)
  walk_turn a t e = rw e (onto-cons done a (walk next f (next s a) xs t))

  pub walk_stop : (n l : ℕ) → f s x b ≡ bad n l → onto done (walk next f s (x ∷ xs) b) ≡ bad n l
  walk_stop n l e = rw e refl

-- the same with no state, where i values of a list are read
module _ {X A : Type 0} (f : X → Reader A) (xs : List X) (d : X) (done : List A) (i : ℕ) (b : List Bool) where
  pub each_turn : (a : A) (t : List Bool) → i < length xs → f (get_or xs i d) b ≡ ok a t → onto done (each f (drop i xs) b)
      ≡ onto (done ++ (a ∷ [])) (each f (drop (i + 1) xs) t)
  each_turn a t h e = rw (drop-cons xs i d h, add-one i) (walk_turn stay (λ _. f) done tt (get_or xs i d) (drop (suc i) xs) b a t e)

  pub each_stop : (n l : ℕ) → i < length xs → f (get_or xs i d) b ≡ bad n l → onto done (each f (drop i xs) b) ≡ bad n l
  each_stop n l h e = rw (drop-cons xs i d h) (walk_stop stay (λ _. f) done tt (get_or xs i d) (drop (suc i) xs) b n l e)

  pub each_end : length xs ≤ i → onto done (each f (drop i xs) b) ≡ ok done b
  each_end h = rw (drop_of_length-le xs h) (ap (λ z. ok z b) (append-nil done))
