-- A chunk of a list is its part of that index. Assumes nothing.
use mathlib.Core.Path.{◌≡◌, sym, ap, ◌∙◌}
use mathlib.Core.Bool.{Bool}
use mathlib.Core.List.{List, []}
use Prim.Native.Nat.{ℕ, zero, suc, ◌+◌, ◌*◌, ◌<◌}
use native.Mathlib.Nat.{suc-mul, zero-mul}
use native.Mathlib.Omega.{arith}
use lib.IntN.{ℤ}
use lib.ListN.{take, drop, get_or}
use lib.Seq.{drop-drop}
use Rattle.std.specs.Simd.{first_chunks}
use Rattle.rules.specs.Layout.{part}
use Rattle.rules.specs.Record.{legal_subframe}

pub chunk_at : {A : Type 0} (n k i : ℕ) (xs : List A) → i < k → get_or (first_chunks n k xs) i [] ≡ part n xs i
chunk_at n zero i xs h = absurd (omega arith)
chunk_at n (suc k) zero xs h = ap (λ m. take n (drop m xs)) (sym (zero-mul n))
chunk_at n (suc k) (suc i) xs h =
    let z : n + i * n ≡ suc i * n = omega (arith, suc-mul i n) in
    chunk_at n k i (drop n xs) (omega arith) ∙ ap (take n) (drop-drop (i * n) n xs) ∙ ap (λ m. take n (drop m xs)) z

-- .. so a subframe that was judged as a chunk is the part of that index
pub subframe_judged : (rs : List ℕ) (cs : List ℤ) (i : ℕ) {k : ℕ} {chunks : List (List ℤ)} {t : Bool} → chunks ≡ first_chunks 128 k cs → i < k
    → t ≡ legal_subframe rs (get_or chunks i []) → legal_subframe rs (part 128 cs i) ≡ t
subframe_judged rs cs i {k} {chunks} f h e = sym (e ∙ ap (legal_subframe rs) (ap (λ l. get_or l i []) f ∙ chunk_at 128 k i cs h))
