-- The laws of a prefix code: one test over the list of its words shows that no word begins another. Assumes nothing.
use mathlib.Core.Path.{◌≡◌, refl, ap, subst}
use mathlib.Core.List.{List, [], ◌∷◌, ◌++◌, Memᴰ}
use mathlib.Core.Bool.{Bool, true, false, not, ◌&&◌, ◌||◌}
use mathlib.Core.Option.{Option, none, some}
use Prim.Native.Nat.{ℕ, zero, suc, ◌≤◌}
use native.Mathlib.Omega.{arith}
use lib.ListN.{length, take, drop, take-append-drop}
use lib.Seq.{length-take-le}
use lib.Dec.{T}
use Rattle.rules.specs.Format.{Read, ok, bad, strip, or_else, one_of, Lawful}
use Rattle.rules.proofs.Words.{clash, clashless, free}
use Rattle.rules_formats.proofs.Formats.{bad≢ok}

pub both : (a b : Bool) → T (a && b) → T a × T b
both true b h = (tt, h)
both false b h = absurd h

strip_self : (u t : List Bool) → strip u (u ++ t) ≡ some t
unfolding strip
strip_self [] t = refl
strip_self (true ∷ u) t = strip_self u t
strip_self (false ∷ u) t = strip_self u t

strip-is : (u s t : List Bool) → strip u s ≡ some t → s ≡ u ++ t
unfolding strip
strip-is [] s t e = cc
strip-is (x ∷ u) [] t e = cc
strip-is (true ∷ u) (true ∷ s) t e = ap (λ l. true ∷ l) (strip-is u s t e)
strip-is (true ∷ u) (false ∷ s) t e = cc
strip-is (false ∷ u) (true ∷ s) t e = cc
strip-is (false ∷ u) (false ∷ s) t e = ap (λ l. false ∷ l) (strip-is u s t e)

strip-none : (u v t : List Bool) → T (not (clash u v)) → strip u (v ++ t) ≡ none
unfolding strip
strip-none [] v t h = absurd h
strip-none (x ∷ u) [] t h = absurd h
strip-none (true ∷ u) (true ∷ v) t h = strip-none u v t h
strip-none (true ∷ u) (false ∷ v) t h = refl
strip-none (false ∷ u) (true ∷ v) t h = refl
strip-none (false ∷ u) (false ∷ v) t h = strip-none u v t h

module _ {A : Type 0} (w : A → List Bool) where
  apart-at : (c a : A) (cs : List A) → T (clashless w c cs) → Memᴰ a cs → T (not (clash (w c) (w a)))
  apart-at c a [] h x'' = elim x'' [ ]
  apart-at c a (d ∷ cs) h (Memᴰ.head e) = rw e (both (not (clash (w c) (w d))) (clashless w c cs) h).0
  apart-at c a (d ∷ cs) h (Memᴰ.tail m) = apart-at c a cs (both (not (clash (w c) (w d))) (clashless w c cs) h).1 m

  one-there : (cs : List A) → T (free w cs) → (a : A) (t : List Bool) → Memᴰ a cs → one_of w cs (w a ++ t) ≡ ok a t
  unfolding one_of strip
  one-there [] h a t x'' = elim x'' [ ]
  one-there (c ∷ cs) h a t (Memᴰ.head e) = rw (← e, strip_self (w a) t)
  one-there (c ∷ cs) h a t (Memᴰ.tail m) =
      let (h₀, h₁) = both (clashless w c cs) (free w cs) h in
      rw (strip-none (w c) (w a) t (apart-at c a cs h₀ m)) (one-there cs h₁ a t m)

  one-back : (cs : List A) (s : List Bool) (a : A) (t : List Bool) → one_of w cs s ≡ ok a t → Memᴰ a cs × (s ≡ w a ++ t)
  unfolding one_of
  one-back [] s a t e = absurd (bad≢ok e)
  one-back (c ∷ cs) s a t e = go (strip (w c) s) refl e (one-back cs s a t)
    where
      go : (o : Option (List Bool)) → strip (w c) s ≡ o → or_else o c (one_of w cs s) ≡ ok a t
          → (one_of w cs s ≡ ok a t → Memᴰ a cs × (s ≡ w a ++ t)) → Memᴰ a (c ∷ cs) × (s ≡ w a ++ t)
      go (some u) p q r = let z : a ≡ c = cc in (Memᴰ.head z, rw z (cc (strip-is (w c) s u p)))
      go none p q r = let (m, z) = r q in (Memᴰ.tail m, z)

  pub one_of_fits : (cs : List A) → T (free w cs) → Lawful (λ a. Memᴰ a cs) w (one_of w cs)
  one_of_fits cs h = record { there = one-there cs h; back = one-back cs }

-- FULL: each run of k bits begins with a word, so that only too few bits are refused
abbrev pub every : ℕ → (List Bool → Bool) → Bool
every zero f = f []
every (suc k) f = every k (λ s. f (true ∷ s)) && every k (λ s. f (false ∷ s))

every-at : (k : ℕ) (f : List Bool → Bool) → T (every k f) → (s : List Bool) → length s ≡ k → T (f s)
every-at zero f h [] e = h
every-at zero f h (x ∷ s) e = absurd (omega arith)
every-at (suc k) f h [] e = absurd (omega arith)
every-at (suc k) f h (true ∷ s) e = every-at k (λ s. f (true ∷ s)) (both (every k (λ s. f (true ∷ s))) (every k (λ s. f (false ∷ s))) h).0 s (omega arith)
every-at (suc k) f h (false ∷ s) e = every-at k (λ s. f (false ∷ s)) (both (every k (λ s. f (true ∷ s))) (every k (λ s. f (false ∷ s))) h).1 s (omega arith)

abbrev pub is_read : {A : Type 0} → Read A → Bool
is_read (ok a t) = true
is_read (bad n l) = false

strip_more : (u s r t : List Bool) → strip u s ≡ some r → strip u (s ++ t) ≡ some (r ++ t)
unfolding strip
strip_more [] s r t e = let z : s ≡ r = cc in ap (λ x. some (x ++ t)) z
strip_more (x ∷ u) [] r t e = cc
strip_more (true ∷ u) (true ∷ s) r t e = strip_more u s r t e
strip_more (true ∷ u) (false ∷ s) r t e = cc
strip_more (false ∷ u) (true ∷ s) r t e = cc
strip_more (false ∷ u) (false ∷ s) r t e = strip_more u s r t e

module _ {A : Type 0} (w : A → List Bool) where
  more : (cs : List A) (s t : List Bool) → T (is_read (one_of w cs s)) → T (is_read (one_of w cs (s ++ t)))
  unfolding one_of
  more [] s t h = absurd h
  more (c ∷ cs) s t h = go (strip (w c) s) refl h (more cs s t)
    where
      pass : (o : Option (List Bool)) (r : Read A) → T (is_read r) → T (is_read (or_else o c r))
      pass none r g = g
      pass (some v) r g = tt

      go : (o : Option (List Bool)) → strip (w c) s ≡ o → T (is_read (or_else o c (one_of w cs s)))
          → (T (is_read (one_of w cs s)) → T (is_read (one_of w cs (s ++ t))))
          → T (is_read (or_else (strip (w c) (s ++ t)) c (one_of w cs (s ++ t))))
      go none e g f = pass (strip (w c) (s ++ t)) (one_of w cs (s ++ t)) (f g)
      go (some r) e g f = rw (strip_more (w c) s r t e) tt

  pub one_of_full : (cs : List A) (k : ℕ) → T (every k (λ s. is_read (one_of w cs s))) → (s : List Bool) → k ≤ length s → T (is_read (one_of w cs s))
  one_of_full cs k h s l =
      subst (λ x. T (is_read (one_of w cs x))) (take-append-drop k s)
      (more cs (take k s) (drop k s) (every-at k (λ s. is_read (one_of w cs s)) h (take k s) (length-take-le k s l)))
