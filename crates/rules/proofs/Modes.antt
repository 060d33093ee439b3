-- A layout's mode (request A9): below resolution 8 the estimate counts just the bits that are written, in both modes and of every float; in held mode every
-- code
-- lies in its range. Assumes nothing.
use mathlib.Core.Path.{◌≡◌, refl, sym, ap, ◌∙◌}
use mathlib.Core.Bool.{Bool, true, false, cond}
use mathlib.Core.List.{[]}
use Prim.Native.Nat.{ℕ, zero, suc, ◌+◌, ◌-◌, ◌≤◌, ◌<◌}
use native.Mathlib.Nat.{le_refl}
use native.Mathlib.Omega.{arith}
use borrow.Author.Tests.{lt-ltb, le-ltb, ltb-true, ltb-false, ne_eqb}
use lib.Dec.{ltb}
use lib.IntN.{ℤ, pos, negsuc, neg_ℤ, ◌+ℤ◌, nat_abs}
use lib.Ieee.{Float}
use lib.ListN.{length, get_or}
use lib.Signed.{lt_z}
use Rattle.bits.proofs.Numbers.{length-bits}
use Rattle.buffers.proofs.Tests.{cond_both}
use Rattle.rules.specs.Tables.{spectrum_bits, spectrum_value}
use Rattle.rules.specs.Signed.{held_z}
use Rattle.rules.specs.Code.{raw_code, limited_code, code_limit, code_of, recorded_code, code_place}
use Rattle.rules.specs.Estimate.{value_bits}
use Rattle.rules.specs.Fields.{small_bits, code_bits}
use Rattle.rules.specs.Record.{code_range}
use Rattle.rules.specs.declared.Mode.{Mode}
use Rattle.rules.specs.declared.Mode.TheVariants.{Rust, Held}
use Rattle.rules.proofs.Cuts.{get_or_copies}

-- ---- what is held to plus or minus n is no larger
pub held-within : (n : ℕ) (z : ℤ) → nat_abs (held_z (neg_ℤ (pos n)) (pos n) z) ≤ n
unfolding held_z
held-within n z =
    cond_both (λ y. nat_abs y ≤ n) (lt_z z (neg_ℤ (pos n))) (λ _. low n)
    (λ a. cond_both (λ y. nat_abs y ≤ n) (lt_z (pos n) z) (λ _. le_refl n) (λ b. inside n z a b))
  where
    low : (n : ℕ) → nat_abs (neg_ℤ (pos n)) ≤ n
    low zero = omega arith
    low (suc n) = omega arith

    inside : (n : ℕ) (z : ℤ) → lt_z z (neg_ℤ (pos n)) ≡ false → lt_z (pos n) z ≡ false → nat_abs z ≤ n
    inside n (pos k) a b = ltb-false n k b
    inside zero (negsuc k) a b = absurd (let h : ◌≡◌ {A = ℕ} 0 1 = cc in omega arith)
    inside (suc n) (negsuc k) a b = omega (arith, ltb-false n k a)

-- ---- a code's place is that of the code held to -8..7
place-held : (z : ℤ) → code_place (held_z (negsuc 7) (pos 7) z) ≡ code_place z
unfolding code_place held_z
place-held (pos k) = go (ltb 7 k) refl
  where
    go : (t : Bool) → ltb 7 k ≡ t → code_place (cond t (pos 7) (pos k)) ≡ code_place (pos k)
    go true e = let h = ltb-true 7 k e in rw (le-ltb (8 + k) 0 (omega arith), lt-ltb 15 (8 + k) (omega arith))
    go false e = refl
place-held (negsuc k) = go (ltb 7 k) refl
  where
    go : (t : Bool) → ltb 7 k ≡ t → code_place (cond t (negsuc 7) (negsuc k)) ≡ code_place (negsuc k)
    go true e = let h = ltb-true 7 k e in rw (lt-ltb 8 (suc k) (omega arith))
    go false e = refl

-- ---- IN PACKING ALIKE: what the estimate counts is what is written
none_at_zero : (p : ℕ) → get_or (get_or spectrum_bits 0 []) p 0 ≡ 0
unfolding spectrum_bits
none_at_zero p = get_or_copies 0 16 p

-- a band of resolution 0 takes none
pub silent-bits : (mode : Mode) (x : Float) → value_bits mode 0 x ≡ 0
unfolding value_bits
silent-bits mode x = none_at_zero (code_place (limited_code mode 0 (raw_code 0 x)))

pub estimate_written : (mode : Mode) (resolution : ℕ) (x : Float) → resolution < 8
    → value_bits mode resolution x ≡ length (code_bits resolution (code_of mode resolution x))
unfolding value_bits code_bits code_of small_bits
estimate_written mode zero x h = none_at_zero (code_place (limited_code mode 0 (raw_code 0 x)))
estimate_written mode (suc r) x h =
    let z : ℤ = limited_code mode (suc r) (raw_code (suc r) x) in
    rw (lt-ltb (suc r) 8 h, ne_eqb (suc r) 0 (λ e. omega arith))
    (sym (ap (λ p. get_or (get_or spectrum_bits (suc r) []) p 0) (place-held z))
    ∙ sym (length-bits (get_or (get_or spectrum_bits (suc r) []) (code_place (held_z (negsuc 7) (pos 7) z)) 0) _))

-- ---- IN HELD MODE: every code in its range
held_twice : (r : ℕ) (z : ℤ) → r < 8 → nat_abs z ≤ r → nat_abs (held_z (negsuc 7) (pos 7) z) ≤ r
unfolding held_z
held_twice r (pos k) h l = rw (le-ltb 7 k (omega arith)) l
held_twice r (negsuc k) h l = rw (le-ltb 7 k (omega arith)) l

pub held_range : (resolution : ℕ) (x : Float) → nat_abs (code_of Held resolution x) ≤ code_range resolution
unfolding code_of code_range
held_range r x =
    go (ltb r 8) refl
  where
    go : (t : Bool) → ltb r 8 ≡ t
        → nat_abs (cond t (held_z (negsuc 7) (pos 7) (limited_code Held r (raw_code r x))) (held_z (neg_ℤ (pos (code_limit r))) (pos (code_limit r)) (raw_code r x)))
        ≤ cond t r (code_limit r)
    go true e = held_twice r (limited_code Held r (raw_code r x)) (ltb-true r 8 e) (held-within r (raw_code r x))
    go false e = held-within (code_limit r) (raw_code r x)

-- as it is recorded
pub held_recorded : (resolution : ℕ) (x : Float) → nat_abs (recorded_code Held resolution x) ≤ code_range resolution
unfolding recorded_code
held_recorded zero x = omega arith
held_recorded (suc r) x = rw (ne_eqb (suc r) 0 (λ e. omega arith)) (held_range (suc r) x)
