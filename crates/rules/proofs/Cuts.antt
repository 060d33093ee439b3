-- Rows of a fixed length in a buffer, and lists that are judged element by element. Assumes nothing.
use mathlib.Core.Path.{◌≡◌, refl, sym, ◌∙◌, ap, ap₂}
use mathlib.Core.List.{List, [], ◌∷◌, ◌++◌, append-nil, append_assoc}
use mathlib.Core.Bool.{Bool}
use Prim.Native.Nat.{ℕ, zero, suc, ◌+◌, ◌-◌, ◌*◌, ◌≤◌, ◌<◌}
use native.Mathlib.Nat.{suc-mul, zero-mul, mul-le-mul_right}
use native.Mathlib.Omega.{arith}
use borrow.Author.Tests.{ltb-true, ltb-false}
use lib.Dec.{ltb}
use lib.ListN.{length, take, drop, get_or, set, replicate, length-append, length-drop, length-replicate, get_or-append}
use lib.Seq.{take-take, take_at, take_all, take-add, drop_at, drop-drop, drop-append-add, length-take-le, get_or-take, get_or-append-add, ext_get_or}
use Rattle.buffers.specs.Walk.{build, blocks, every}
use Rattle.buffers.proofs.Tests.{cond_both}
use Rattle.buffers.proofs.Build.{back-width}
use Rattle.buffers.proofs.Blocks.{blocks_at}
use Rattle.rules.specs.Format.{Each, times}
use Rattle.rules.specs.Layout.{part}
use Rattle.rules.specs.Record.{pad}

-- below n or not
pub by_order : {P : Type 0} (i n : ℕ) → (i < n → P) → (n ≤ i → P) → P
by_order {P} i n f g = cond_both (λ _. P) {a = zero} {b = zero} (ltb i n) (λ e. f (ltb-true i n e)) (λ e. g (ltb-false i n e))

-- ---- walks that agree below their end

pub build-same : {A : Type 0} (f g : ℕ → A) (n : ℕ) → ((i : ℕ) → i < n → f i ≡ g i) → build f n ≡ build g n
unfolding build
build-same f g zero h = refl
build-same f g (suc n) h = ap₂ (λ xs x. xs ++ (x ∷ [])) (build-same f g n (λ i lt. h i (omega arith))) (h n (omega arith))

pub blocks-same : {A : Type 0} (f g : ℕ → List A) (n : ℕ) → ((i : ℕ) → i < n → f i ≡ g i) → blocks f n ≡ blocks g n
unfolding blocks
blocks-same f g zero h = refl
blocks-same f g (suc n) h = ap₂ (λ xs x. xs ++ x) (blocks-same f g n (λ i lt. h i (omega arith))) (h n (omega arith))

pub every-same : (p q : ℕ → Bool) (n : ℕ) → ((i : ℕ) → i < n → p i ≡ q i) → every p n ≡ every q n
unfolding every
every-same p q zero h = refl
every-same p q (suc n) h = rw (every-same p q n (λ i lt. h i (omega arith)), h n (omega arith))

-- ---- parts

-- row c ends within n rows
pub row_end : (k n c : ℕ) → c < n → c * k + k ≤ n * k
row_end k n c h = omega (arith, mul-le-mul_right k h, suc-mul c k)

module _ {A : Type 0} where
  -- a part of a buffer's front is the buffer's part
  part-front : (a n m : ℕ) (xs : List A) → a + n ≤ m → take n (drop a (take m xs)) ≡ take n (drop a xs)
  part-front zero n m xs h = take-take n m xs (omega arith)
  part-front (suc a) n zero xs h = absurd (omega arith)
  part-front (suc a) n (suc m) [] h = refl
  part-front (suc a) n (suc m) (x ∷ xs) h = part-front a n m xs (omega arith)

  pub part-of-front : (k n c : ℕ) (xs : List A) → c < n → part k (take (n * k) xs) c ≡ part k xs c
  part-of-front k n c xs h = part-front (c * k) k (n * k) xs (row_end k n c h)

  pub length_part : (k n c : ℕ) (xs : List A) → n * k ≤ length xs → c < n → length (part k xs c) ≡ k
  length_part k n c xs l h = length-take-le k (drop (c * k) xs) (omega (arith, length-drop (c * k) xs, row_end k n c h))

  -- a buffer is its parts
  parts_front : (k n : ℕ) (xs : List A) → blocks (part k xs) n ≡ take (n * k) xs
  unfolding blocks
  parts_front k zero xs = rw (zero-mul k)
  parts_front k (suc n) xs = rw (suc-mul n k, parts_front k n xs) (sym (take-add (n * k) k xs))

  pub parts_all : (k n : ℕ) (xs : List A) → length xs ≡ n * k → blocks (part k xs) n ≡ xs
  parts_all k n xs e = parts_front k n xs ∙ take_all (n * k) xs (omega arith)

  -- a block is its part, whatever stands after the blocks
  pub block_part : (g : ℕ → List A) (k n c : ℕ) → ((i : ℕ) → i < n → length (g i) ≡ k) → c < n → part k (blocks g n) c ≡ g c
  block_part g k n c size h = ap (λ xs. part k xs c) (sym (append-nil (blocks g n))) ∙ blocks_at g k n size n c [] (omega arith) h

-- subframe s of channel c, in one cut
pub subframe_cut : {A : Type 0} (xs : List A) (c s : ℕ) → s < 8 → part 128 (part 1024 xs c) s ≡ take 128 (drop (c * 1024 + s * 128) xs)
subframe_cut xs c s h = part-of-front 128 8 s (drop (c * 1024) xs) h ∙ ap (take 128) (drop-drop (s * 128) (c * 1024) xs)

-- ---- row j of a buffer, lent and stored anew as ys

abbrev pub renewed : {A : Type 0} → ℕ → ℕ → List A → List A → List A
renewed k j xs ys = take (j * k) xs ++ (ys ++ drop (j * k + k - j * k) (drop (j * k) xs))

module _ {A : Type 0} (k j : ℕ) (xs ys : List A) (h : j * k + k ≤ length xs) (e : length ys ≡ k) where
  abbrev behind : List A
  behind = drop (j * k + k - j * k) (drop (j * k) xs)

  length_front : length (take (j * k) xs) ≡ j * k
  length_front = length-take-le (j * k) xs (omega arith)

  pub renewed-length : length (renewed k j xs ys) ≡ length xs
  renewed-length = rw (back-width (j * k) k) (simp (length-append, length-drop) (omega (arith, length_front)))

  pub row_new : part k (renewed k j xs ys) j ≡ ys
  row_new = rw (drop_at (take (j * k) xs) (ys ++ behind) (j * k) length_front) (take_at ys behind k e)

  drop_past : (m : ℕ) → drop (j * k + k + m) (renewed k j xs ys) ≡ drop (j * k + k + m) xs
  drop_past m =
      let w : length (take (j * k) xs ++ ys) ≡ j * k + k = length-append (take (j * k) xs) ys ∙ rw (length_front, e) in
      ap₂ (λ n zs. drop (n + m) zs) (sym w) (sym (append_assoc (take (j * k) xs) ys behind))
      ∙ drop-append-add (take (j * k) xs ++ ys) behind m
      ∙ ap (λ n. drop m (drop n (drop (j * k) xs))) (back-width (j * k) k)
      ∙ ap (drop m) (drop-drop k (j * k) xs) ∙ drop-drop m (j * k + k) xs

  pub row_old : (i : ℕ) → (i ≡ j → ⊥) → part k (renewed k j xs ys) i ≡ part k xs i
  row_old i n =
      by_order i j
      (λ l. sym (part-of-front k j i (renewed k j xs ys) l)
      ∙ ap (λ zs. part k zs i) (take_at (take (j * k) xs) (ys ++ behind) (j * k) length_front) ∙ part-of-front k j i xs l)
      (λ l.
      let q : j * k + k + (i * k - (j * k + k)) ≡ i * k = omega (arith, row_end k i j (later i j l n)) in
      ap (take k) (ap (λ m. drop m (renewed k j xs ys)) (sym q) ∙ drop_past (i * k - (j * k + k)) ∙ ap (λ m. drop m xs) q))
    where
      later : (i j : ℕ) → j ≤ i → (i ≡ j → ⊥) → j < i
      later i j l n = omega arith

-- ---- rows padded to a length

pub get_or_copies : {A : Type 0} (d : A) (n i : ℕ) → get_or (replicate n d) i d ≡ d
get_or_copies d zero i = refl
get_or_copies d (suc n) zero = refl
get_or_copies d (suc n) (suc i) = get_or_copies d n i

module _ {A : Type 0} (d : A) (k : ℕ) where
  pub length-pad : (xs : List A) → length (pad d k xs) ≡ k
  length-pad xs = length-take-le k (xs ++ replicate k d) (omega (arith, length-append xs (replicate k d), length-replicate k d))

  pub pad-take : (n : ℕ) (xs : List A) → length xs ≡ n → n ≤ k → take n (pad d k xs) ≡ xs
  pad-take n xs e h = take-take n k (xs ++ replicate k d) h ∙ take_at xs (replicate k d) n e

  -- past its end a padded row is blank
  pub pad-blank : (xs : List A) (i : ℕ) → length xs ≤ i → i < k → get_or (pad d k xs) i d ≡ d
  pad-blank xs i h g =
      let e : length xs + (i - length xs) ≡ i = omega arith in
      get_or-take k (xs ++ replicate k d) i d g
      ∙ ap (λ j. get_or (xs ++ replicate k d) j d) (sym e) ∙ get_or-append-add xs (replicate k d) (i - length xs) d ∙ get_or_copies d k (i - length xs)

  pub pad-written : (xs : List A) (i : ℕ) → i < length xs → i < k → get_or (pad d k xs) i d ≡ get_or xs i d
  pad-written xs i h g = get_or-take k (xs ++ replicate k d) i d g ∙ get_or-append xs (replicate k d) d i h

  -- a row that is blank from n on is its first n elements, padded
  pub pad-back : (n : ℕ) (xs : List A) → length xs ≡ k → n ≤ k → ((i : ℕ) → n ≤ i → i < k → get_or xs i d ≡ d) → pad d k (take n xs) ≡ xs
  pad-back n xs e h f =
      let l : length (take n xs) ≡ n = length-take-le n xs (omega arith) in
      ext_get_or d (pad d k (take n xs)) xs (length-pad (take n xs) ∙ sym e)
      (λ i lt. let z : i < k = omega (arith, length-pad (take n xs)) in
      by_order i n
      (λ q. pad-written (take n xs) i (omega arith) z ∙ get_or-take n xs i d q)
      (λ q. pad-blank (take n xs) i (omega arith) z ∙ sym (f i q z)))

-- ---- lists judged element by element

-- a store keeps what holds of every number and of the new one
pub set_keeps : (P : ℕ → Type 0) (v : ℕ) → P v → (xs : List ℕ) (j i : ℕ) → P (get_or xs i 0) → P (get_or (set xs j v) i 0)
set_keeps P v p [] j i h = h
set_keeps P v p (x ∷ xs) zero zero h = p
set_keeps P v p (x ∷ xs) zero (suc i) h = h
set_keeps P v p (x ∷ xs) (suc j) zero h = h
set_keeps P v p (x ∷ xs) (suc j) (suc i) h = set_keeps P v p xs j i h

module _ {X A : Type 0} (L : X → A → Type 0) where
  pub each-length : (xs : List X) (ys : List A) → Each L xs ys → length ys ≡ length xs
  each-length [] [] h = refl
  each-length [] (y ∷ ys) h = absurd h
  each-length (x ∷ xs) [] h = absurd h
  each-length (x ∷ xs) (y ∷ ys) h = ap suc (each-length xs ys h.1)

  pub each_at : (d : X) (e : A) (xs : List X) (ys : List A) → Each L xs ys → (i : ℕ) → i < length xs → L (get_or xs i d) (get_or ys i e)
  each_at d e [] ys h i g = absurd (omega arith)
  each_at d e (x ∷ xs) [] h i g = absurd h
  each_at d e (x ∷ xs) (y ∷ ys) h zero g = h.0
  each_at d e (x ∷ xs) (y ∷ ys) h (suc i) g = each_at d e xs ys h.1 i (omega arith)

  pub each_of : (d : X) (e : A) (xs : List X) (ys : List A) → length ys ≡ length xs → ((i : ℕ) → i < length xs → L (get_or xs i d) (get_or ys i e)) → Each L xs ys
  each_of d e [] [] l h = tt
  each_of d e [] (y ∷ ys) l h = absurd (omega arith)
  each_of d e (x ∷ xs) [] l h = absurd (omega arith)
  each_of d e (x ∷ xs) (y ∷ ys) l h = (h 0 (omega arith), each_of d e xs ys (omega arith) (λ i g. h (suc i) (omega arith)))

-- the same judgement n times
length-times : (n : ℕ) → length (times n) ≡ n
length-times n = length-replicate n tt

module _ {A : Type 0} (L : A → Type 0) (n : ℕ) (ys : List A) where
  pub times-length : Each (λ _. L) (times n) ys → length ys ≡ n
  times-length h = each-length (λ _. L) (times n) ys h ∙ length-times n

  pub times-at : (e : A) → Each (λ _. L) (times n) ys → (i : ℕ) → i < n → L (get_or ys i e)
  times-at e h i g = each_at (λ _. L) tt e (times n) ys h i (omega (arith, length-times n))

  pub times-of : (e : A) → length ys ≡ n → ((i : ℕ) → i < n → L (get_or ys i e)) → Each (λ _. L) (times n) ys
  times-of e l h = each_of (λ _. L) tt e (times n) ys (l ∙ sym (length-times n)) (λ i g. h i (omega (arith, length-times n)))
