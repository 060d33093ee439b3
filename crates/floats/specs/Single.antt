-- The words of the float leaves' contracts, over the values of `lib.Ieee`; each operation is rounded once. Definitions only.
use Rattle.std.specs.Prelude.{ℕ, zero, suc, ◌+◌, ◌*◌, ◌/◌, min, pos, T, eqb, List, false, cond, get_or, Float}
use Rattle.std.specs.Float.{nan, inf, fin, binary32}
use Rattle.std.specs.Float.Ieee.{up, down, le, lt, add, div, of_int}
use Rattle.floats.specs.declared.Average.{Average}

-- 0.0 and 1.0
abbrev pub zero_f : Float
zero_f = fin false 0 (pos 0)

abbrev pub one_f : Float
one_f = fin false 1 (pos 0)

-- |x|: Rust's `abs`
unfoldable pub abs_f : (x : Float) → Float
abs_f nan = nan
abs_f (inf s) = inf false
abs_f (fin s m e) = fin false m e

-- x held within low and high: Rust's `clamp`
unfoldable pub held_f : (low high x : Float) → Float
held_f low high x = cond (lt x low) low (cond (lt high x) high x)

-- the whole part of |x|, or c where it is above c
unfoldable pub cut_to : (c : ℕ) (x : Float) → ℕ
cut_to c nan = 0
cut_to c (inf s) = c
cut_to c (fin s m e) = min (m * up e / down e) c

-- from 1 up, and below 4,096
pub record Short (y : Float) : Type 0 where
  pub least : T (le one_f y)
  pub most : T (lt y (fin false 1 (pos 12)))

-- the larger and the smaller of two values; the first where neither is below the other
unfoldable pub max_f : (a b : Float) → Float
max_f a b = cond (lt a b) b a

unfoldable pub min_f : (a b : Float) → Float
min_f a b = cond (lt b a) b a

-- n values of xs, `stride` apart from `at` on, taken into s one after the other
unfoldable pub folded : (op : Float → Float → Float) (xs : List Float) (start stride count : ℕ) (s : Float) → Float
folded op xs start stride zero s = s
folded op xs start stride (suc n) s = folded op xs (start + stride) stride n (op s (get_or xs start nan))

-- the sum with one magnitude more, and the larger of s and a magnitude
abbrev pub add_abs : (s x : Float) → Float
add_abs s x = add binary32 s (abs_f x)

abbrev pub max_abs : (s x : Float) → Float
max_abs s x = max_f s (abs_f x)

-- a sum over its count, 0.0 where the count is 0
unfoldable pub mean_f : (s : Float) (n : ℕ) → Float
mean_f s n = cond (eqb n 0) zero_f (div binary32 s (of_int binary32 (pos n)))

-- a running average: of no values, with the magnitude of one more, with those of eight more, and its value
unfoldable pub no_average : Average
no_average = record { sum = zero_f; count = 0 }

unfoldable pub with_one : (a : Average) (x : Float) → Average
with_one a x = record { sum = add_abs a.sum x; count = a.count + 1 }

unfoldable pub with_eight : (xs : List Float) (start stride : ℕ) (a : Average) → Average
with_eight xs start stride a = record { sum = folded add_abs xs start stride 8 a.sum; count = a.count + 8 }

unfoldable pub mean : (a : Average) → Float
mean a = mean_f a.sum a.count
