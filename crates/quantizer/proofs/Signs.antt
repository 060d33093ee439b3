-- Signed numbers: the size of a sum and of a difference, what is held to a range, and a code's place. Assumes nothing.
use mathlib.Core.Path.{◌≡◌, refl, ap, ◌∙◌}
use mathlib.Core.Bool.{Bool, true, false, cond}
use Prim.Native.Nat.{ℕ, zero, suc, ◌+◌, ◌-◌, ◌≤◌, ◌<◌, min, zero-le}
use native.Mathlib.Nat.{le_refl}
use native.Mathlib.Omega.{arith}
use borrow.Author.Tests.{lt-ltb, le-ltb, ltb-true, ltb-false}
use lib.Dec.{ltb}
use lib.IntN.{ℤ, pos, negsuc, neg_ℤ, ◌+ℤ◌, ◌-ℤ◌, nat_abs}
use lib.Signed.{lt_z}
use Rattle.rules.specs.Signed.{held_z}
use Rattle.rules.specs.Code.{code_place}

-- held to plus or minus n: what lies at an end or past it is that end
pub held_below : (n k : ℕ) → n ≤ k → held_z (neg_ℤ (pos n)) (pos n) (negsuc k) ≡ neg_ℤ (pos n)
unfolding held_z
held_below zero k h = refl
held_below (suc n) k h = rw (lt-ltb n k h)

pub held-above : (n k : ℕ) → n ≤ k → held_z (neg_ℤ (pos n)) (pos n) (pos k) ≡ pos n
unfolding held_z
held-above n k h = start n ∙ go (ltb n k) refl
  where
    start : (n : ℕ) → cond (lt_z (pos k) (neg_ℤ (pos n))) (neg_ℤ (pos n)) (cond (ltb n k) (pos n) (pos k)) ≡ cond (ltb n k) (pos n) (pos k)
    start zero = rw (le-ltb k 0 zero-le)
    start (suc n) = refl

    go : (t : Bool) → ltb n k ≡ t → cond t (pos n) (pos k) ≡ pos n
    go true e = refl
    go false e = let l : k ≤ n = ltb-false n k e in ap pos (omega arith)

-- within -8..7 nothing is held
pub held-few : (z : ℤ) → nat_abs z ≤ 7 → held_z (negsuc 7) (pos 7) z ≡ z
unfolding held_z
held-few (pos k) h = rw (le-ltb 7 k h)
held-few (negsuc k) h = rw (le-ltb 7 k (omega arith))

-- held to 0..top
module _ (top n : ℕ) where
  held-over : top < n → held_z (pos 0) (pos top) (pos n) ≡ pos top
  unfolding held_z
  held-over h = rw (le-ltb n 0 zero-le, lt-ltb top n h)

  held_in : n ≤ top → held_z (pos 0) (pos top) (pos n) ≡ pos n
  unfolding held_z
  held_in h = rw (le-ltb n 0 zero-le, le-ltb top n h)

abbrev held_to : ℕ → ℤ → ℤ
held_to top z = held_z (pos 0) (pos top) z

pub held_nat : (top : ℕ) (z : ℤ) → (held_to top z ≡ pos (nat_abs (held_to top z))) × (nat_abs (held_to top z) ≤ top)
held_nat top (pos n) = go (ltb top n) refl
  where
    go : (t : Bool) → ltb top n ≡ t → (held_to top (pos n) ≡ pos (nat_abs (held_to top (pos n)))) × (nat_abs (held_to top (pos n)) ≤ top)
    go true e = rw (held-over top n (ltb-true top n e)) (refl, le_refl top)
    go false e = rw (held_in top n (ltb-false top n e)) (refl, ltb-false top n e)
held_nat top (negsuc n) = unfold held_z in (refl, zero-le)

-- a code's place: held to -8..7 and moved up by 8
pub place-le : (z : ℤ) → code_place z ≤ 15
unfolding code_place
place-le z = (held_nat 15 (pos 8 +ℤ z)).1

-- the place of a whole number less r + 1: 8 - (r + 1) higher, at most 15; of a negative one at most as high as of 0
held-min : (top n : ℕ) → nat_abs (held_to top (pos n)) ≡ min n top
held-min top n = go (ltb top n) refl
  where
    go : (t : Bool) → ltb top n ≡ t → nat_abs (held_to top (pos n)) ≡ min n top
    go true e = let h : top < n = ltb-true top n e in rw (held-over top n h) (omega arith)
    go false e = let h : n ≤ top = ltb-false top n e in rw (held_in top n h) (omega arith)

pub place-pos : (r w : ℕ) → r < 8 → code_place (pos w -ℤ pos (suc r)) ≡ min (7 - r + w) 15
unfolding code_place
place-pos r w h = go (ltb w (suc r)) refl
  where
    go : (t : Bool) → ltb w (suc r) ≡ t → nat_abs (held_to 15 (pos 8 +ℤ cond t (negsuc (suc r - suc w)) (pos (w - suc r)))) ≡ min (7 - r + w) 15
    go true e =
        let k : w < suc r = ltb-true w (suc r) e in
        let z : suc (suc r - suc w) ≤ 8 = omega arith in
        rw (le-ltb 8 (suc (suc r - suc w)) z) (held-min 15 (8 - suc (suc r - suc w)) ∙ omega arith)
    go false e = let k : suc r ≤ w = ltb-false w (suc r) e in held-min 15 (8 + (w - suc r)) ∙ omega arith

pub place-neg : (r n : ℕ) → r < 8 → code_place (negsuc n -ℤ pos (suc r)) ≤ 7 - r
unfolding code_place held_z
place-neg r n h = go (ltb 8 (suc (suc (n + r)))) refl
  where
    go : (t : Bool) → ltb 8 (suc (suc (n + r))) ≡ t → nat_abs (held_to 15 (cond t (negsuc (suc (suc (n + r)) - suc 8)) (pos (8 - suc (suc (n + r)))))) ≤ 7 - r
    go true e = zero-le
    go false e = let k : suc (suc (n + r)) ≤ 8 = ltb-false 8 (suc (suc (n + r))) e in let z = held-min 15 (8 - suc (suc (n + r))) in omega arith
