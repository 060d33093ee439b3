-- A chunk of a list that is cut into chunks of n elements. Assumes nothing.
use mathlib.Core.Path.{◌≡◌, sym, ap, ◌∙◌}
use mathlib.Core.List.{List, []}
use Prim.Native.Nat.{ℕ, zero, suc, ◌*◌, ◌<◌}
use native.Mathlib.Nat.{zero-mul, add-mul}
use native.Mathlib.Omega.{arith}
use lib.ListN.{get_or, take, drop}
use lib.Seq.{drop-drop}
use Rattle.std.specs.Simd.{first_chunks}
use Rattle.rules.specs.Layout.{part}

pub chunk-at : (n k i : ℕ) (xs : List ℕ) → i < k → get_or (first_chunks n k xs) i [] ≡ part n xs i
chunk-at n zero i xs h = absurd (omega arith)
chunk-at n (suc k) zero xs h = ap (λ m. take n (drop m xs)) (sym (zero-mul n))
chunk-at n (suc k) (suc i) xs h =
    chunk-at n k i (drop n xs) (omega arith)
    ∙ ap (take n) (drop-drop (i * n) n xs ∙ ap (λ m. drop m xs) (omega (arith, add-mul i 1 n)))
