-- A value outside a limit by two comparisons, and a search for either of two. Assumes nothing.
use mathlib.Core.Path.{◌≡◌, refl, sym, ap₂, ◌∙◌}
use mathlib.Core.Bool.{Bool, true, false, not, ◌&&◌, ◌||◌}
use Prim.Native.Nat.{ℕ, ◌+◌, ◌-◌, ◌*◌, ◌<◌, ◌≤◌}
use native.Mathlib.Nat.{add_comm, mul-pos}
use native.Mathlib.Omega.{arith}
use borrow.Author.Tests.{ltb-true, ltb-false, eqb-true, eqb-false, lt-ltb}
use lib.Dec.{eqb, ltb}
use lib.IntN.{ℤ}
use lib.Ieee.{Float, nan, inf, fin, up, down, lt, eq, le}
use lib.Ieee.Fits.{up_pos, down_pos}
use lib.Ieee.Scale.{finite}
use Rattle.buffers.specs.Walk.{first_from}
use Rattle.buffers.proofs.Scan.{found_turn, found_end, or_false}
use Rattle.floats.specs.Single.{abs_f}

-- ---- outside m x 2 ^ e, an infinity, or a NaN

-- a comparison by less or equal, whose second test is q
at_most : (a b : ℕ) (q : Bool) → (q ≡ true → a ≡ b) → (q ≡ false → a ≡ b → ⊥) → ltb a b || (q && true) ≡ not (ltb b a)
at_most a b q same apart = go (ltb a b) (ltb b a) q refl refl refl
  where
    go : (s t u : Bool) → ltb a b ≡ s → ltb b a ≡ t → q ≡ u → s || (u && true) ≡ not t
    go true true u e f g = absurd (omega (arith, ltb-true a b e, ltb-true b a f))
    go true false u e f g = refl
    go false true true e f g = absurd (omega (arith, ltb-true b a f, same g))
    go false true false e f g = refl
    go false false true e f g = refl
    go false false false e f g = absurd (apart g (omega (arith, ltb-false a b e, ltb-false b a f)))

not-not : (b : Bool) → not (not b) ≡ b
not-not true = refl
not-not false = refl

and_yes : (b : Bool) → (b && true) ≡ b
and_yes true = refl
and_yes false = refl

module _ (m : ℕ) (e : ℤ) (above : 0 < m) where
  -- no negative number is above it, and no positive one below its negative
  apart : (d : ℤ) (b : ℕ) → ltb 0 (m * up e * down d + b) ≡ true
  apart d b = lt-ltb 0 (m * up e * down d + b) (omega (arith, mul-pos (mul-pos above (up_pos e)) (down_pos d)))

  pub outside_is : (x : Float) → not (le (fin true m e) x && le x (fin false m e)) ≡ not (finite x) || lt (fin false m e) (abs_f x)
  unfolding le lt eq abs_f
  outside_is nan = refl
  outside_is (inf true) = refl
  outside_is (inf false) = refl
  outside_is (fin true n d) =
      let a = m * up e * down d in
      let b = n * up d * down e in
      let q = at_most b a (eqb a b) (λ h. sym (eqb-true a b h)) (λ h k. eqb-false a b h (sym k)) in
      rw (q, add_comm b a, apart d b, and_yes (not (ltb a b))) (not-not (ltb a b))
  outside_is (fin false n d) =
      let a = m * up e * down d in
      let b = n * up d * down e in
      rw (apart d b, at_most b a (eqb b a) (eqb-true b a) (eqb-false b a)) (not-not (ltb a b))

-- ---- p or q, found so far or to be found from i on: a turn, and the end

shuffle : (found a b c d : Bool) → found || ((a || b) || (c || d)) ≡ (found || (a || c)) || (b || d)
shuffle true a b c d = refl
shuffle false true b c d = refl
shuffle false false true true d = refl
shuffle false false true false d = refl
shuffle false false false true d = refl
shuffle false false false false d = refl

module _ (p q : ℕ → Bool) (n i : ℕ) where
  abbrev ahead : (r : ℕ → Bool) → Bool
  ahead r = ltb (first_from r i (n - i)) n

  abbrev behind : (r : ℕ → Bool) → Bool
  behind r = ltb (first_from r (i + 1) (n - (i + 1))) n

  pub either_turn : (found : Bool) → i < n → found || (ahead p || ahead q) ≡ (found || (p i || q i)) || (behind p || behind q)
  either_turn found h =
      ap₂ (λ a b. found || (a || b)) (found_turn p n i false h) (found_turn q n i false h) ∙ shuffle found (p i) (behind p) (q i) (behind q)

  pub either_end : (found : Bool) → n ≤ i → found || (ahead p || ahead q) ≡ found
  either_end found h = ap₂ (λ a b. found || (a || b)) (found_end p n i false h) (found_end q n i false h) ∙ or_false found
