-- In a list of positive floats that rises, an entry is at most v exactly when its place is below the number of entries that are at most v.
-- So two entries next to each other tell that number. Assumes nothing.
use mathlib.Core.Path.{◌≡◌, refl, sym, ap, ◌∙◌, subst}
use mathlib.Core.Logic.{◌⊎◌, inl, inr}
use Prim.Native.Nat.{ℕ, zero, suc, ◌+◌, ◌≤◌, ◌<◌, zero-le, suc-le-suc}
use native.Mathlib.Nat.{not-suc-le-zero, le_of_suc-le-suc, zero-add}
use native.Mathlib.Omega.{arith}
use mathlib.Core.Bool.{Bool, true, false, not, ◌&&◌, cond}
use mathlib.Core.List.{List, [], ◌∷◌}
use lib.Dec.{T}
use lib.ListN.{length, get_or, take}
use lib.Seq.{get_or-take}
use lib.Ieee.{Float, nan, inf, fin, le, of_bits}
use lib.Ieee.Fits.{and_l, and_r}
use lib.Ieee.Positive.{positive, above, above_of_le, le_trans_positive}
use Rattle.rules.specs.Factor.{count_le, factor_of}
use Rattle.rules.specs.Tables.{scaling_table}
use Rattle.factors.proofs.OrderLaws.{under_infinity}

-- ---- the order, where the upper end is any value at all
le_through : (x y v : Float) → T (positive x) → T (positive y) → T (le x y) → T (le y v) → T (le x v)
le_through x y v p q h k = go v (above_of_le y v q k) k
  where
    go : (v : Float) → T (above v) → T (le y v) → T (le x v)
    go nan a k = absurd a
    go (inf true) a k = absurd a
    go (inf false) a k = under_infinity x p
    go (fin true m e) a k = absurd a
    go (fin false m e) a k = le_trans_positive x y (fin false m e) p q a h k

-- ---- a list that rises, of positive values: one computed test
unfoldable rises : List Float → Bool
rises [] = true
rises (x ∷ []) = positive x
rises (x ∷ y ∷ r) = positive x && (le x y && rises (y ∷ r))

head_positive : (x : Float) (r : List Float) → T (rises (x ∷ r)) → T (positive x)
unfolding rises
head_positive x [] t = t
head_positive x (y ∷ r) t = and_l (positive x) (le x y && rises (y ∷ r)) t

tail-rises : (x : Float) (r : List Float) → T (rises (x ∷ r)) → T (rises r)
unfolding rises
tail-rises x [] t = tt
tail-rises x (y ∷ r) t = and_r (le x y) (rises (y ∷ r)) (and_r (positive x) (le x y && rises (y ∷ r)) t)

next_le : (x y : Float) (r : List Float) → T (rises (x ∷ y ∷ r)) → T (le x y)
unfolding rises
next_le x y r t = and_l (le x y) (rises (y ∷ r)) (and_r (positive x) (le x y && rises (y ∷ r)) t)

yes_or_no : (b : Bool) → T b ⊎ T (not b)
yes_or_no true = inl tt
yes_or_no false = inr tt

clash : (b : Bool) → T b → T (not b) → ⊥
clash true t n = n
clash false t n = t

one_more : (n : ℕ) → 1 + n ≡ suc n
one_more n = omega arith

count_yes : (v x : Float) (r : List Float) → T (le x v) → count_le v (x ∷ r) ≡ suc (count_le v r)
unfolding count_le
count_yes v x r t = go (le x v) t
  where
    go : (b : Bool) → T b → cond b 1 0 + count_le v r ≡ suc (count_le v r)
    go true t = one_more (count_le v r)
    go false t = absurd t

count_no : (v x : Float) (r : List Float) → T (not (le x v)) → count_le v (x ∷ r) ≡ count_le v r
unfolding count_le
count_no v x r t = go (le x v) t
  where
    go : (b : Bool) → T (not b) → cond b 1 0 + count_le v r ≡ count_le v r
    go true t = absurd t
    go false t = zero-add (count_le v r)

-- past an entry above v there is none that is at most v
none_after : (v x : Float) (r : List Float) → T (rises (x ∷ r)) → T (not (le x v)) → count_le v r ≡ 0
unfolding count_le
none_after v x [] t n = refl
none_after v x (y ∷ r) t n =
    let m : T (not (le y v)) = flip (le x v) (le y v) (λ k. le_through x y v (head_positive x (y ∷ r) t) (head_positive y r (tail-rises x (y ∷ r) t))
    (next_le x y r t) k) n in
    count_no v y r m ∙ none_after v y r (tail-rises x (y ∷ r) t) m
  where
    flip : (a b : Bool) → (T b → T a) → T (not a) → T (not b)
    flip a true f n = absurd (clash a (f tt) n)
    flip a false f n = tt

abbrev At : Float → List Float → ℕ → Type 0
At v xs k = (T (le (get_or xs k nan) v) → k < count_le v xs) × (T (not (le (get_or xs k nan) v)) → count_le v xs ≤ k)

at_most : (v : Float) (xs : List Float) → T (rises xs) → (k : ℕ) → k < length xs → At v xs k
at_most v [] t k h = absurd (not-suc-le-zero h)
at_most v (x ∷ r) t zero h = (
  (λ y. subst (λ (n : ℕ). 0 < n) (sym (count_yes v x r y)) (suc-le-suc zero-le)),
  (λ n. subst (λ (m : ℕ). m ≤ 0) (sym (count_no v x r n ∙ none_after v x r t n)) zero-le),
)
at_most v (x ∷ r) t (suc k) h = go (at_most v r (tail-rises x r t) k (le_of_suc-le-suc h)) (yes_or_no (le x v))
  where
    go : At v r k → T (le x v) ⊎ T (not (le x v)) → At v (x ∷ r) (suc k)
    go ih (inl y) = (
      (λ p. subst (λ (n : ℕ). suc k < n) (sym (count_yes v x r y)) (suc-le-suc (ih.0 p))),
      (λ n. subst (λ (m : ℕ). m ≤ suc k) (sym (count_yes v x r y)) (suc-le-suc (ih.1 n))),
    )
    go ih (inr n) =
        let z : count_le v r ≡ 0 = none_after v x r t n in (
          (λ p. absurd (not-suc-le-zero (subst (λ (m : ℕ). k < m) z (ih.0 p)))),
          (λ q. subst (λ (m : ℕ). m ≤ suc k) (sym (count_no v x r n ∙ z)) zero-le),
        )

-- ---- the table
table-rises : T (rises (take 63 scaling_table))
unfolding rises scaling_table of_bits le
table-rises = tt

below_63 : (k : ℕ) → k < 63 → k < length (take 63 scaling_table)
unfolding scaling_table
below_63 k h = h

-- the k-th entry is at most v where k is below v's factor, and above v otherwise
pub entry_at-most : (v : Float) (k : ℕ) → k < 63 → le (get_or scaling_table k nan) v ≡ true → k < factor_of v
unfolding factor_of
entry_at-most v k h e =
    (at_most v (take 63 scaling_table) table-rises k (below_63 k h)).0
    (subst T (sym (ap (λ (x : Float). le x v) (get_or-take 63 scaling_table k nan h) ∙ e)) tt)

pub entry-above : (v : Float) (k : ℕ) → k < 63 → le (get_or scaling_table k nan) v ≡ false → factor_of v ≤ k
unfolding factor_of
entry-above v k h e =
    (at_most v (take 63 scaling_table) table-rises k (below_63 k h)).1
    (subst (λ (b : Bool). T (not b)) (sym (ap (λ (x : Float). le x v) (get_or-take 63 scaling_table k nan h) ∙ e)) tt)
