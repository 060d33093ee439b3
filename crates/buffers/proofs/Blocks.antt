-- A loop that fills a list block by block, each block lent as a part. Assumes nothing.
use mathlib.Core.Path.{◌≡◌, refl, ap, sym, ◌∙◌}
use mathlib.Core.List.{List, ◌++◌, append_assoc, append-nil}
use Prim.Native.Nat.{ℕ, zero, suc, ◌+◌, ◌-◌, ◌*◌, ◌≤◌, ◌<◌}
use mathlib.Core.Logic.{⊎_elim}
use native.Mathlib.Nat.{zero-mul, suc-mul, not-suc-le-zero, le_of_suc-le-suc, eq-or-lt_of_le, le_of_lt}
use native.Mathlib.Numerals.{add-one}
use native.Mathlib.Omega.{arith}
use lib.ListN.{length, take, drop, length-append, length-drop, drop_of_length-le}
use lib.Seq.{take_at, drop-drop, drop_at}
use Rattle.buffers.specs.Walk.{blocks}
use Rattle.buffers.proofs.Build.{back-width}

module _ {A : Type 0} (g : ℕ → List A) where
  pub blocks-suc : (n : ℕ) → blocks g (suc n) ≡ blocks g n ++ g n
  unfolding blocks
  blocks-suc n = refl

  pub blocks_start : (d : List A) → d ≡ blocks g 0 ++ drop 0 d
  unfolding blocks
  blocks_start d = refl

-- blocks of one size, k, of which there are m
module _ {A : Type 0} (g : ℕ → List A) (k m : ℕ) (size : (c : ℕ) → c < m → length (g c) ≡ k) where
  pub length-blocks : (n : ℕ) → n ≤ m → length (blocks g n) ≡ n * k
  unfolding blocks
  length-blocks zero h = sym (zero-mul k)
  length-blocks (suc n) h = length-append (blocks g n) (g n) ∙ rw (length-blocks n (le_of_lt h), size n h, suc-mul n k)

  -- the part that a turn lends, and what comes back
  pub blocks-part : (n : ℕ) (d : List A) → n ≤ m → take (n * k) (blocks g n ++ drop (n * k) d) ≡ blocks g n
  blocks-part n d h = take_at (blocks g n) (drop (n * k) d) (n * k) (length-blocks n h)

  pub blocks-rest : (n : ℕ) (d : List A) → n ≤ m → drop (n * k) (blocks g n ++ drop (n * k) d) ≡ drop (n * k) d
  blocks-rest n d h = drop_at (blocks g n) (drop (n * k) d) (n * k) (length-blocks n h)

  pub blocks-back : (n : ℕ) (d : List A) → n ≤ m →
      take (n * k) (blocks g n ++ drop (n * k) d) ++ (g n ++ drop k (drop (n * k) (blocks g n ++ drop (n * k) d)))
      ≡ blocks g (n + 1) ++ drop ((n + 1) * k) d
  blocks-back n d h =
      rw (
        blocks-part n d h,
        blocks-rest n d h,
        drop-drop k (n * k) d,
        add-one n,
        blocks-suc g n,
        append_assoc (blocks g n) (g n) (drop (suc n * k) d),
        suc-mul n k,
      )

  pub length_blocked : (n : ℕ) (d : List A) → n ≤ m → n * k ≤ length d → length (blocks g n ++ drop (n * k) d) ≡ length d
  length_blocked n d h q = simp (length-append, length-drop) (omega (arith, length-blocks n h))

  -- a block is read back
  pub blocks_at : (n c : ℕ) (r : List A) → n ≤ m → c < n → take k (drop (c * k) (blocks g n ++ r)) ≡ g c
  blocks_at zero c r q h = absurd (not-suc-le-zero h)
  blocks_at (suc n) c r q h =
      rw (blocks-suc g n, append_assoc (blocks g n) (g n) r)
      (⊎_elim
      (λ (e : c ≡ n). rw (e, drop_at (blocks g n) (g n ++ r) (n * k) (length-blocks n (le_of_lt q)), take_at (g n) r k (size n q)))
      (λ (lt : c < n). blocks_at n c (g n ++ r) (le_of_lt q) lt)
      (eq-or-lt_of_le (le_of_suc-le-suc h)))

-- what a loop that fills it block by block keeps
abbrev pub Blocked : {A : Type 0} → (ℕ → List A) → ℕ → List A → ℕ → List A → Type 0
Blocked g k d n xs = (length xs ≡ length d) × (xs ≡ blocks g n ++ drop (n * k) d)

pub blocked_none : {A : Type 0} (g : ℕ → List A) (k : ℕ) (d : List A) → Blocked g k d 0 d
blocked_none g k d = (refl, rw (zero-mul k) (blocks_start g d))

pub blocked_all : {A : Type 0} (g : ℕ → List A) (k : ℕ) (d : List A) (n m : ℕ) (xs : List A) → m ≤ n → n ≤ m → Blocked g k d n xs → xs ≡ blocks g m
    ++ drop (m * k) d
blocked_all g k d n m xs h h' w = let q : n ≡ m = omega arith in w.1 ∙ rw q

-- of a list that has no more than its m blocks
pub blocked_exact : {A : Type 0} (g : ℕ → List A) (k : ℕ) (d : List A) (n m : ℕ) (xs : List A) → length d ≡ m * k → m ≤ n → n ≤ m → Blocked g k d n xs → xs
    ≡ blocks g m
blocked_exact g k d n m xs e h h' w =
    let z : length d ≤ m * k = omega arith in
    blocked_all g k d n m xs h h' w ∙ rw (drop_of_length-le d z, append-nil (blocks g m))

module _ {A : Type 0} (g : ℕ → List A) (k m : ℕ) (d : List A) (size : (c : ℕ) → c < m → length (g c) ≡ k) (n : ℕ) (xs : List A) (h : n < m)
    (w : Blocked g k d n xs) where
  -- what a turn is lent is as it was at first
  pub blocked_lent : take (n * k + k - n * k) (drop (n * k) xs) ≡ take k (drop (n * k) d)
  blocked_lent = rw (back-width (n * k) k, w.1, blocks-rest g k m size n d (le_of_lt h))

  -- a turn lends the part from n * k to n * k + k, and it comes back as ys
  pub blocked_more : (ys : List A) → (n + 1) * k ≤ length d → ys ≡ g n →
      Blocked g k d (n + 1) (take (n * k) xs ++ (ys ++ drop (n * k + k - n * k) (drop (n * k) xs)))
  blocked_more ys q e =
      let z : take (n * k) xs ++ (ys ++ drop (n * k + k - n * k) (drop (n * k) xs)) ≡ blocks g (n + 1) ++ drop ((n + 1) * k) d =
      rw (back-width (n * k) k, w.1, e) (blocks-back g k m size n d (le_of_lt h)) in
      (ap length z ∙ length_blocked g k m size (n + 1) d (omega arith) q, z)
