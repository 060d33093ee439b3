-- **Check**, for callers: a frame passes the test only if it is its body with the check behind it, and each such frame passes.
-- Assumes nothing.
use mathlib.Core.Path.{◌≡◌, sym, ap, ap₂, ◌∙◌}
use mathlib.Core.Bool.{true}
use mathlib.Core.List.{List, [], ◌∷◌, ◌++◌}
use Prim.Native.Nat.{ℕ, ◌+◌, ◌-◌, ◌*◌, ◌/◌, ◌%◌, ◌≤◌}
use native.Mathlib.Omega.{arith}
use borrow.Author.Tests.{eqb-true, eq-eqb}
use lib.ListN.{length, get_or, length-append}
use lib.Seq.{take_at, get_or-append-add}
use Rattle.bits.specs.Bits.{Bytes}
use Rattle.bits.proofs.Parts.{bytes_at_lem, bytes-append}
use Rattle.crc.specs.Check.{checksum}
use Rattle.crc.specs.Sealed.{body, check, sealed, is_sealed}
use Rattle.crc.proofs.Theorems.{checksum-lt}
use Rattle.crc.proofs.Ends.{body_then_last_two}

pub length-sealed : (m : List ℕ) → length (sealed m) ≡ length m + 2
length-sealed m = length-append m (check m)

pub body-sealed : (m : List ℕ) → body (sealed m) ≡ m
body-sealed m = take_at m (check m) (length (sealed m) - 2) (omega (arith, length-sealed m))

-- ---- bytes

pub bytes-sealed : (m : List ℕ) → Bytes m → Bytes (sealed m)
bytes-sealed m h = bytes-append m (check m) h (omega (arith, checksum-lt m), (omega arith, tt))

-- ---- the test

check-at : (m : List ℕ) (i j : ℕ) → i ≡ length m + j → get_or (sealed m) i 0 ≡ get_or (check m) j 0
check-at m i j e = ap (λ k. get_or (sealed m) k 0) e ∙ get_or-append-add m (check m) j 0

pub is_sealed-sealed : (m : List ℕ) → is_sealed (sealed m) ≡ true
unfolding is_sealed
is_sealed-sealed m =
    let l : length (sealed m) ≡ length m + 2 = length-sealed m in
    let whole : checksum m / 256 * 256 + checksum m % 256 ≡ checksum m = omega arith in
    eq-eqb _ _
    (ap₂ (λ x y. x * 256 + y) (check-at m _ 0 (omega arith)) (check-at m _ 1 (omega arith))
    ∙ whole
    ∙ ap checksum (sym (body-sealed m)))

pub is_sealed_only : (f : List ℕ) → Bytes f → 2 ≤ length f → is_sealed f ≡ true → f ≡ sealed (body f)
unfolding is_sealed
is_sealed_only f b h t =
    let s : ℕ = checksum (body f) in
    let n : ℕ = length f - 2 in
    let last : length f - 1 ≡ n + 1 = omega arith in
    let e : get_or f n 0 * 256 + get_or f (length f - 1) 0 ≡ s = eqb-true _ _ t in
    let low : get_or f (n + 1) 0 ≡ s % 256 = ap (λ i. get_or f i 0) (sym last) ∙ omega (arith, bytes_at_lem f b (length f - 1)) in
    let high : get_or f n 0 ≡ s / 256 = omega (arith, bytes_at_lem f b (length f - 1)) in
    body_then_last_two f h ∙ ap₂ (λ x y. body f ++ (x ∷ y ∷ [])) high low
