-- When two slices name a layout, and when a kind for each channel is there. Assumes nothing.
use mathlib.Core.Path.{◌≡◌, refl, sym, ◌∙◌, ap}
use mathlib.Core.List.{List}
use mathlib.Core.Bool.{Bool, true, false, cond, ◌&&◌}
use Prim.Native.Nat.{ℕ, zero, suc, ◌+◌, ◌≤◌}
use native.Mathlib.Omega.{arith}
use borrow.Author.Tests.{le-leb, lt-leb, leb-true, ltb-true, ltb-false}
use lib.Dec.{leb, ltb}
use lib.ListN.{length, get_or, take, drop}
use Rattle.std.proofs.Math.Seq.{drop-cons}
use Rattle.std.specs.List.{list_all}
use Rattle.buffers.specs.Walk.{first, first_from}
use Rattle.buffers.proofs.Tests.{and_fst}
use Rattle.hca_layout.specs.Layouts.{bad_kind, is_layout}

pub named_five : (numbers kinds : List ℕ) → is_layout numbers kinds ≡ true → 5 ≤ length numbers
unfolding is_layout
named_five numbers kinds e = leb-true _ _ (and_fst (leb 5 (length numbers)) _ e)

-- m kinds from the i-th on are none above 2 where none of them is found to be bad
kinds_from : (kinds : List ℕ) (m i : ℕ) → i + m ≤ length kinds
    → list_all (λ k. leb k 2) (take m (drop i kinds)) ≡ leb (i + m) (first_from (bad_kind kinds) i m)
unfolding first_from bad_kind
kinds_from kinds zero i h = sym (le-leb (i + 0) i (omega arith))
kinds_from kinds (suc m) i h = rw (drop-cons kinds i 0 (omega arith)) (by_kind (kinds_from kinds m (suc i) (omega arith)) (ltb 2 (get_or kinds i 0)) refl)
  where
    by_kind : list_all (λ k. leb k 2) (take m (drop (suc i) kinds)) ≡ leb (suc i + m) (first_from (bad_kind kinds) (suc i) m)
        → (b : Bool) → ltb 2 (get_or kinds i 0) ≡ b
        → (leb (get_or kinds i 0) 2 && list_all (λ k. leb k 2) (take m (drop (suc i) kinds)))
        ≡ leb (i + suc m) (cond b i (first_from (bad_kind kinds) (suc i) m))
    by_kind next true e = rw (lt-leb (get_or kinds i 0) 2 (ltb-true 2 (get_or kinds i 0) e), lt-leb (i + suc m) i (omega arith))
    by_kind next false e =
        let z : suc i + m ≡ i + suc m = omega arith in
        rw (le-leb (get_or kinds i 0) 2 (ltb-false 2 (get_or kinds i 0) e)) (next ∙ ap (λ n. leb n (first_from (bad_kind kinds) (suc i) m)) z)

-- all of the first n
pub kinds-all : (kinds : List ℕ) (n : ℕ) → n ≤ length kinds → list_all (λ k. leb k 2) (take n kinds) ≡ leb n (first (bad_kind kinds) n)
kinds-all kinds n h =
    let z : 0 + n ≡ n = omega arith in
    kinds_from kinds n 0 (omega arith) ∙ ap (λ m. leb m (first (bad_kind kinds) n)) z
