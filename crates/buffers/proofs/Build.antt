-- A loop that fills a list element by element, from the front or from a place on. Assumes nothing.
use mathlib.Core.Path.{◌≡◌, refl, ap, sym, ◌∙◌}
use mathlib.Core.List.{List, [], ◌∷◌, ◌++◌, map, append_assoc, append-nil, map-append}
use Prim.Native.Nat.{ℕ, zero, suc, ◌+◌, ◌-◌, ◌≤◌, ◌<◌}
use mathlib.Core.Logic.{⊎_elim}
use native.Mathlib.Nat.{not-suc-le-zero, le_of_suc-le-suc, eq-or-lt_of_le}
use native.Mathlib.Numerals.{add-one}
use native.Mathlib.Omega.{arith}
use lib.ListN.{length, drop, set, get_or, replicate, length-append, length-set, drop_of_length-le, replicate-append-replicate, get_or-append}
use lib.Seq.{set_at, drop-cons, get_or_at, ext_get_or}
use Rattle.buffers.specs.Walk.{build}

module _ {A : Type 0} (f : ℕ → A) where
  pub build-none : build f 0 ≡ []
  unfolding build
  build-none = refl

  pub build-suc : (n : ℕ) → build f (suc n) ≡ build f n ++ (f n ∷ [])
  unfolding build
  build-suc n = refl

  pub build_more : (n : ℕ) → build f (n + 1) ≡ build f n ++ (f n ∷ [])
  build_more n = rw add-one (build-suc n)

  pub length-build : (n : ℕ) → length (build f n) ≡ n
  unfolding build
  length-build zero = refl
  length-build (suc n) = length-append (build f n) (f n ∷ []) ∙ (ap (λ (k : ℕ). k + 1) (length-build n) ∙ add-one n)

  -- none stored, one store more, all stored
  pub build-start : (d : List A) → d ≡ build f 0 ++ drop 0 d
  unfolding build
  build-start d = refl

  pub build_store : (n : ℕ) (d : List A) → n < length d → set (build f n ++ drop n d) n (f n) ≡ build f (n + 1) ++ drop (n + 1) d
  build_store n d h =
      rw (
        drop-cons d n (f n) h,
        set_at (build f n) (get_or d n (f n)) (drop (suc n) d) (f n) n (length-build n),
        build_more n,
        append_assoc (build f n) (f n ∷ []) (drop (n + 1) d),
        add-one n,
      )

  pub build-all : (n : ℕ) (d : List A) → length d ≤ n → build f n ++ drop n d ≡ build f n
  build-all n d h = rw (drop_of_length-le d h, append-nil (build f n))

-- from a list equation to its elements, and back
pub build-at : {A : Type 0} (f : ℕ → A) (n i : ℕ) (d : A) → i < n → get_or (build f n) i d ≡ f i
build-at f zero i d h = absurd (not-suc-le-zero h)
build-at f (suc n) i d h =
    rw (build-suc f n)
    (⊎_elim
    (λ (e : i ≡ n). rw e (get_or_at (build f n) (f n) [] d n (length-build f n)))
    (λ (lt : i < n). get_or-append (build f n) (f n ∷ []) d i (rw (length-build f n) lt) ∙ build-at f n i d lt)
    (eq-or-lt_of_le (le_of_suc-le-suc h)))

pub build-of : {A : Type 0} (f : ℕ → A) (n : ℕ) (d : A) (xs : List A) → length xs ≡ n → ((i : ℕ) → i < n → get_or xs i d ≡ f i) → xs ≡ build f n
build-of f n d xs e h = ext_get_or d xs (build f n) (e ∙ sym (length-build f n)) (λ i lt. h i (rw e at lt) ∙ sym (build-at f n i d (rw e at lt)))

-- each element mapped
pub map-build : {A B : Type 0} (g : A → B) (f : ℕ → A) (n : ℕ) → map g (build f n) ≡ build (λ i. g (f i)) n
unfolding build
map-build g f zero = refl
map-build g f (suc n) = map-append g (build f n) (f n ∷ []) ∙ ap (λ xs. xs ++ (g (f n) ∷ [])) (map-build g f n)

-- one value throughout
pub build_const : {A : Type 0} (x : A) (n : ℕ) → build (λ (i : ℕ). x) n ≡ replicate n x
unfolding build
build_const x zero = refl
build_const x (suc n) = rw (build_const x n) (replicate-append-replicate n 1 x ∙ ap (λ (k : ℕ). replicate k x) (add-one n))

-- what a loop that fills a list keeps: as long as at first, and the first n elements are f's
abbrev pub Filled : {A : Type 0} → (ℕ → A) → List A → ℕ → List A → Type 0
Filled f d n xs = (length xs ≡ length d) × (xs ≡ build f n ++ drop n d)

pub filled_none : {A : Type 0} (f : ℕ → A) (d : List A) → Filled f d 0 d
filled_none f d = (refl, build-start f d)

pub filled_more : {A : Type 0} (f : ℕ → A) (d : List A) (n : ℕ) (xs : List A) (v : A) → n < length d → Filled f d n xs → v ≡ f n
    → Filled f d (n + 1) (set xs n v)
filled_more f d n xs v h w e = (length-set xs n v ∙ w.0, rw (w.1, e) (build_store f n d h))

pub filled-all : {A : Type 0} (f : ℕ → A) (d : List A) (n m : ℕ) (xs : List A) → length d ≡ m → m ≤ n → n ≤ m → Filled f d n xs → xs ≡ build f m
filled-all f d n m xs e h h' w =
    let q : n ≡ m = omega arith in
    let z : length d ≤ m = omega arith in
    w.1 ∙ rw q (build-all f m d z)

-- the same of one value
pub filled-same : {A : Type 0} (x : A) (d : List A) (n : ℕ) (xs : List A) → length d ≤ n → n ≤ length d → Filled (λ (i : ℕ). x) d n xs → xs
    ≡ replicate (length d) x
filled-same x d n xs h h' w = filled-all (λ (i : ℕ). x) d n (length d) xs refl h h' w ∙ build_const x (length d)

-- the width of a part that starts at n
pub back-width : (n k : ℕ) → n + k - n ≡ k
back-width n k = omega arith
