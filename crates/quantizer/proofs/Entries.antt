-- The tables' entries, each table by one computed test of all its entries. Assumes nothing.
use mathlib.Core.Path.{◌≡◌, refl, sym, ap, ◌∙◌}
use mathlib.Core.Bool.{Bool, true, cond}
use mathlib.Core.List.{List, [], ◌∷◌, map}
use mathlib.Core.Logic.{⊎_elim}
use Prim.Native.Nat.{ℕ, zero, suc, ◌+◌, ◌-◌, ◌*◌, ◌%◌, ◌^◌, ◌≤◌, ◌<◌}
use native.Mathlib.Nat.{eq-or-lt_of_le}
use native.Mathlib.Omega.{arith}
use borrow.Author.Tests.{leb-true, le-ltb}
use lib.Dec.{leb, ltb}
use lib.IntN.{pos, nat_abs}
use lib.Ieee.{binary32, of_bits, of_int, add, sub, to_signed}
use lib.ListN.{get_or}
use Rattle.buffers.specs.Walk.{build, every}
use Rattle.buffers.proofs.Build.{build-at}
use Rattle.buffers.proofs.Every.{every-at}
use Rattle.rules.specs.Tables.{step_table, max_bit_table, spectrum_bits}
use Rattle.rules.specs.Code.{step_of, step_shift, magnitude_bits}

-- two functions that give the same list
pub build_agrees : {A : Type 0} (f g : ℕ → A) (n : ℕ) → build f n ≡ build g n → (i : ℕ) → i < n → f i ≡ g i
build_agrees f g n e i h = sym (build-at f n i (f i) h) ∙ ap (λ (l : List _). get_or l i (f i)) e ∙ build-at g n i (f i) h

-- none of 0 to n - 1: what the last arm of a match is left with
abbrev pub Others : ℕ → ℕ → Type 0
Others zero r = Unit
Others (suc n) r = Others n r × (r ≡ n → ⊥)

pub last_arm : (n r : ℕ) → r ≤ n → Others n r → r ≡ n
last_arm zero r h o = omega arith
last_arm (suc n) r h o =
    ⊎_elim (λ (e : r ≡ suc n). e) (λ (l : r < suc n). absurd (o.1 (last_arm n r (omega arith) o.0))) (eq-or-lt_of_le h)

-- ---- QUANTIZE_SPECTRUM_BITS
short : ℕ → ℕ → Bool
short r p = leb (get_or (get_or spectrum_bits r []) p 0) 4

all_short : every (λ (r : ℕ). every (short r) 16) 8 ≡ true
unfolding every short spectrum_bits
all_short = refl

pub length-le : (r p : ℕ) → r < 8 → p ≤ 15 → get_or (get_or spectrum_bits r []) p 0 ≤ 4
unfolding short
length-le r p h k = leb-true _ _ (every-at (short r) 16 p (every-at (λ (i : ℕ). every (short i) 16) 8 r all_short h) (omega arith))

-- ---- MAX_BIT_TABLE - 1, and the limit
-- an entry of a table less one
pub one-less : (entries : List ℕ) (r : ℕ) → get_or (map (λ (n : ℕ). n - 1) entries) r 0 ≡ get_or entries r 0 - 1
one-less [] r = refl
one-less (n ∷ entries) zero = refl
one-less (n ∷ entries) (suc r) = one-less entries r

pub bits-le : (r : ℕ) → r ≤ 15 → magnitude_bits r ≤ 11
unfolding every magnitude_bits max_bit_table
bits-le r h = leb-true _ _ (every-at (λ (i : ℕ). leb (magnitude_bits i) 11) 16 r refl (omega arith))

-- a shift by so few bits loses none
pub one_shifted : (m : ℕ) → m ≤ 11 → (1 * 2 ^ m) % 2 ^ 32 ≡ 2 ^ m
unfolding build
one_shifted m h = build_agrees (λ (i : ℕ). (1 * 2 ^ i) % 2 ^ 32) (λ (i : ℕ). 2 ^ i) 12 refl m (omega arith)

pub power_le : (m : ℕ) → m ≤ 11 → (1 ≤ 2 ^ m) × (2 ^ m ≤ 2048)
unfolding every
power_le m h = (
  leb-true _ _ (every-at (λ (i : ℕ). leb 1 (2 ^ i)) 12 m refl (omega arith)),
  leb-true _ _ (every-at (λ (i : ℕ). leb (2 ^ i) 2048) 12 m refl (omega arith)),
)

-- ---- QUANTIZER_INVERSE_STEP_SIZE, and the step + 0.5
pub shift_low : (r : ℕ) → r < 8 → pos (r + 1) ≡ step_shift r
unfolding build step_shift step_of step_table of_bits to_signed add
shift_low r h = build_agrees (λ (i : ℕ). pos (i + 1)) step_shift 8 refl r h

pub shift_high : (r : ℕ) → 8 ≤ r → r ≤ 15 → pos (2 ^ (r - 4)) ≡ step_shift r
unfolding build step_shift step_of step_table of_bits to_signed add
shift_high r l h =
    let z : cond (ltb r 8) (step_shift r) (pos (2 ^ (r - 4)))
    ≡ step_shift r = build_agrees (λ (i : ℕ). cond (ltb i 8) (step_shift i) (pos (2 ^ (i - 4)))) step_shift 16 refl r (omega arith) in
    rw (le-ltb r 8 l) at z

pub shift_nat : (r : ℕ) → r ≤ 15 → (step_shift r ≡ pos (nat_abs (step_shift r))) × (nat_abs (step_shift r) ≤ 2048)
unfolding build every step_shift step_of step_table of_bits to_signed add
shift_nat r h = (
  build_agrees step_shift (λ (i : ℕ). pos (nat_abs (step_shift i))) 16 refl r (omega arith),
  leb-true _ _ (every-at (λ (i : ℕ). leb (nat_abs (step_shift i)) 2048) 16 r refl (omega arith)),
)

pub step-entry : (r : ℕ) → r ≤ 15 → sub binary32 (of_int binary32 (step_shift r)) (of_bits binary32 0x3F000000) ≡ step_of r
unfolding build step_shift step_of step_table of_bits sub of_int to_signed
step-entry r h = build_agrees (λ (i : ℕ). sub binary32 (of_int binary32 (step_shift i)) (of_bits binary32 0x3F000000)) step_of 16 refl r (omega arith)
