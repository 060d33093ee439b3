-- Fields written one after the other are blocks, one for each index. Assumes nothing.
use mathlib.Core.Path.{◌≡◌, refl, sym, ◌∙◌, ap}
use mathlib.Core.List.{List, [], ◌∷◌, ◌++◌, foldl, append_assoc, append-nil}
use mathlib.Core.Bool.{Bool}
use Prim.Native.Nat.{ℕ, zero, suc, ◌≤◌}
use native.Mathlib.Omega.{arith}
use lib.ListN.{length, take, get_or}
use lib.Seq.{get_or-take, length-take-le}
use Rattle.buffers.specs.Walk.{build, blocks}
use Rattle.buffers.proofs.Build.{length-build, build-of, build_const}
use Rattle.rules.specs.Format.{walk_bits, each_bits, stay, times}

-- one more value at the end
walk_snoc : {S X A : Type 0} (next : S → A → S) (w : S → X → A → List Bool) (s : S) (xs : List X) (x : X) (ys : List A) (y : A) → length xs ≡ length ys →
    walk_bits next w s (xs ++ (x ∷ [])) (ys ++ (y ∷ [])) ≡ walk_bits next w s xs ys ++ w (foldl next s ys) x y
walk_snoc next w s [] x [] y e = append-nil (w s x y)
walk_snoc next w s [] x (b ∷ ys) y e = absurd (omega arith)
walk_snoc next w s (a ∷ xs) x [] y e = absurd (omega arith)
walk_snoc next w s (a ∷ xs) x (b ∷ ys) y e =
    ap (λ t. w s a b ++ t) (walk_snoc next w (next s b) xs x ys y (omega arith))
    ∙ sym (append_assoc (w s a b) (walk_bits next w (next s b) xs ys) (w (foldl next (next s b) ys) x y))

-- the state before each value
pub foldl_snoc : {S A : Type 0} (next : S → A → S) (s : S) (ys : List A) (y : A) → foldl next s (ys ++ (y ∷ [])) ≡ next (foldl next s ys) y
foldl_snoc next s [] y = refl
foldl_snoc next s (b ∷ ys) y = foldl_snoc next (next s b) ys y

pub walk-blocks : {S X A : Type 0} (next : S → A → S) (w : S → X → A → List Bool) (s : S) (f : ℕ → X) (g : ℕ → A) (n : ℕ) →
    walk_bits next w s (build f n) (build g n) ≡ blocks (λ i. w (foldl next s (build g i)) (f i) (g i)) n
unfolding build blocks
walk-blocks next w s f g zero = refl
walk-blocks next w s f g (suc n) =
    walk_snoc next w s (build f n) (f n) (build g n) (g n) (length-build f n ∙ sym (length-build g n))
    ∙ ap (λ t. t ++ w (foldl next s (build g n)) (f n) (g n)) (walk-blocks next w s f g n)

pub each-blocks : {X A : Type 0} (w : X → A → List Bool) (f : ℕ → X) (g : ℕ → A) (n : ℕ) → each_bits w (build f n) (build g n) ≡ blocks (λ i. w (f i) (g i)) n
each-blocks w f g n = walk-blocks stay (λ _. w) tt f g n

-- the front of a list, by its elements
pub front : {A : Type 0} (d : A) (xs : List A) (n : ℕ) → n ≤ length xs → take n xs ≡ build (λ i. get_or xs i d) n
front d xs n h = build-of (λ i. get_or xs i d) n d (take n xs) (length-take-le n xs h) (λ i lt. get_or-take n xs i d lt)

pub front-blocks : {X A : Type 0} (w : X → A → List Bool) (d : X) (e : A) (xs : List X) (ys : List A) (n : ℕ) → n ≤ length xs → n ≤ length ys →
    each_bits w (take n xs) (take n ys) ≡ blocks (λ i. w (get_or xs i d) (get_or ys i e)) n
front-blocks w d e xs ys n h k = rw (front d xs n h, front e ys n k) (each-blocks w (λ i. get_or xs i d) (λ i. get_or ys i e) n)

pub times-blocks : {A : Type 0} (w : A → List Bool) (g : ℕ → A) (n : ℕ) → each_bits (λ _. w) (times n) (build g n) ≡ blocks (λ i. w (g i)) n
times-blocks w g n = rw (← build_const (tt {0}) n) (each-blocks (λ _. w) (λ _. tt {0}) g n)
