-- Fields in a row of words and lengths.
-- Assumes nothing.
use mathlib.Core.Path.{◌≡◌, sym, ap, ◌∙◌}
use mathlib.Core.List.{List, [], ◌∷◌, ◌++◌, append_assoc, append-nil}
use mathlib.Core.Bool.{Bool}
use Prim.Native.Nat.{ℕ, zero, suc, ◌+◌, ◌<◌}
use native.Mathlib.Numerals.{add-one}
use native.Mathlib.Omega.{arith}
use lib.ListN.{length, get_or, take, length-append}
use Rattle.bits.specs.Bits.{bits}
use Rattle.bits.proofs.Numbers.{length-bits}
use Rattle.emission.specs.Run.{field_bits}

-- field i
abbrev at : (ls ws : List ℕ) (i : ℕ) → List Bool
at ls ws i = bits (get_or ls i 0) (get_or ws i 0)

fields-suc : (ls ws : List ℕ) (i : ℕ) → i < length ls → i < length ws → field_bits (take (suc i) ls) (take (suc i) ws) ≡ field_bits (take i ls) (take i ws)
    ++ at ls ws i
fields-suc [] ws i h g = absurd (omega arith)
fields-suc (l ∷ ls) [] i h g = absurd (omega arith)
fields-suc (l ∷ ls) (w ∷ ws) zero h g = append-nil (bits l w)
fields-suc (l ∷ ls) (w ∷ ws) (suc i) h g = ap (λ t. bits l w ++ t) (fields-suc ls ws i (omega arith) (omega arith)) ∙ sym (append_assoc (bits l w) _ _)

pub fields_more : (ls ws : List ℕ) (i : ℕ) → i < length ls → i < length ws → field_bits (take (i + 1) ls) (take (i + 1) ws) ≡ field_bits (take i ls) (take i ws)
    ++ at ls ws i
fields_more ls ws i h g = rw (add-one i) (fields-suc ls ws i h g)

regroup : (x a b c d : List Bool) → (((x ++ a) ++ b) ++ c) ++ d ≡ x ++ ((a ++ b) ++ (c ++ d))
regroup x a b c d = simp append_assoc

pub four_more : (ls ws : List ℕ) (i : ℕ) → i + 3 < length ls → i + 3 < length ws
    → field_bits (take (i + 4) ls) (take (i + 4) ws) ≡ field_bits (take i ls) (take i ws)
    ++ ((at ls ws i ++ at ls ws (i + 1)) ++ (at ls ws (i + 2) ++ at ls ws (i + 3)))
four_more ls ws i h g =
    let e1 : i + 1 + 1 ≡ i + 2 = omega arith in
    let e2 : i + 2 + 1 ≡ i + 3 = omega arith in
    let e3 : i + 3 + 1 ≡ i + 4 = omega arith in
    let m1 : field_bits (take (i + 2) ls) (take (i + 2) ws) ≡ field_bits (take (i + 1) ls) (take (i + 1) ws)
    ++ at ls ws (i + 1) = rw e1 at (fields_more ls ws (i + 1) (omega arith) (omega arith)) in
    let m2 : field_bits (take (i + 3) ls) (take (i + 3) ws) ≡ field_bits (take (i + 2) ls) (take (i + 2) ws)
    ++ at ls ws (i + 2) = rw e2 at (fields_more ls ws (i + 2) (omega arith) (omega arith)) in
    let m3 : field_bits (take (i + 4) ls) (take (i + 4) ws) ≡ field_bits (take (i + 3) ls) (take (i + 3) ws)
    ++ at ls ws (i + 3) = rw e3 at (fields_more ls ws (i + 3) h g) in
    rw (m3, m2, m1, fields_more ls ws i (omega arith) (omega arith))
    (regroup (field_bits (take i ls) (take i ws)) (at ls ws i) (at ls ws (i + 1)) (at ls ws (i + 2)) (at ls ws (i + 3)))

pub four-length : (ls ws : List ℕ) (i : ℕ) → length ((at ls ws i ++ at ls ws (i + 1)) ++ (at ls ws (i + 2) ++ at ls ws (i + 3)))
    ≡ (get_or ls i 0 + get_or ls (i + 1) 0) + (get_or ls (i + 2) 0 + get_or ls (i + 3) 0)
four-length ls ws i = simp (length-append, length-bits)
