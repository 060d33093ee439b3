-- A pattern's integer, and a sample by its depth. Assumes nothing.
use mathlib.Core.Path.{◌≡◌, refl, ap, ◌∙◌}
use mathlib.Core.List.{List}
use mathlib.Core.Logic.{⊎_elim}
use mathlib.Core.Bool.{Bool, true, false, not, cond}
use Prim.Native.Nat.{ℕ, zero, suc, ◌+◌, ◌-◌, ◌≤◌, ◌<◌}
use native.Mathlib.Omega.{arith}
use borrow.Author.Tests.{lt-ltb, le-ltb, ltb-true, ltb-false}
use lib.Dec.{T, ltb, le→leb, lt→ltb}
use lib.IntN.{ℤ, pos, neg_ℤ, nat_abs}
use lib.Ieee.{fin, binary32, div, of_int, of_bits, in_float, nan_bits}
use lib.Ieee.Scale.{finite}
use Rattle.rules_files.specs.Wav.{low_at, is_depth, sample_width, signed_sample, sample_of}
use Rattle.rules_files.proofs.Samples.{depth_cases, sample_exact, finite_pattern}

pub signed_below : (half p : ℕ) → p < half → signed_sample half p ≡ pos p
unfolding signed_sample
signed_below half p h = rw (lt-ltb p half h)

pub signed_above : (half p : ℕ) → half ≤ p → signed_sample half p ≡ neg_ℤ (pos (half + half - p))
unfolding signed_sample
signed_above half p h = rw (le-ltb p half h)

-- its size
abbrev SignedBy : ℤ → Type 0
SignedBy z = (nat_abs z ≤ 8388608) × T (in_float binary32 z)

signed-pos : (n : ℕ) → n ≤ 8388608 → SignedBy (pos n)
unfolding in_float
signed-pos n h = (h, le→leb n 16777216 (omega arith))

signed-neg : (n : ℕ) → n ≤ 8388608 → SignedBy (neg_ℤ (pos n))
unfolding in_float
signed-neg zero h = signed-pos zero h
signed-neg (suc n) h = (h, lt→ltb n 16777216 (omega arith))

pub signed_in : (half p : ℕ) → half ≤ 8388608 → p < half + half → SignedBy (signed_sample half p)
unfolding signed_sample
signed_in half p h q = go (ltb p half) (ltb-true p half) (ltb-false p half)
  where
    go : (b : Bool) → (b ≡ true → p < half) → (b ≡ false → half ≤ p) → SignedBy (cond b (pos p) (neg_ℤ (pos (half + half - p))))
    go true t f = let k : p < half = t refl in signed-pos p (omega arith)
    go false t f = let k : half ≤ p = f refl in signed-neg (half + half - p) (omega arith)

-- ---- a sample by its depth

module _ (wav : List ℕ) (at depth p : ℕ) where
  pub at_16 : depth ≡ 16 → p ≡ low_at wav at 2 → p < 65536 → (z : ℤ) → z ≡ signed_sample 32768 p
      → div binary32 (of_int binary32 z) (fin false 1 (pos 15)) ≡ sample_of depth (low_at wav at (sample_width depth))
  unfolding sample_of
  at_16 e q h z d = rw (e, ← q, d) (sample_exact (signed_sample 32768 p) 15 (omega (arith, (signed_in 32768 p (omega arith) h).0)) (omega arith))

  pub at_24 : depth ≡ 24 → p ≡ low_at wav at 3 → p < 16777216 → (z : ℤ) → z ≡ signed_sample 8388608 p
      → div binary32 (of_int binary32 z) (fin false 1 (pos 23)) ≡ sample_of depth (low_at wav at (sample_width depth))
  unfolding sample_of
  at_24 e q h z d = rw (e, ← q, d) (sample_exact (signed_sample 8388608 p) 23 (omega (arith, (signed_in 8388608 p (omega arith) h).0)) (omega arith))

  module _ (e : depth ≡ 32) (q : p ≡ low_at wav at 4) where
    pub at_32 : of_bits binary32 p ≡ sample_of depth (low_at wav at (sample_width depth))
    unfolding sample_of
    at_32 = rw (e, ← q)

    pub pattern_32 : finite (sample_of depth (low_at wav at (sample_width depth))) ≡ true → T (not (nan_bits binary32 p))
    pattern_32 f = finite_pattern p (ap finite at_32 ∙ f)

-- neither 16 nor 24
pub depth_32 : (depth : ℕ) → is_depth depth ≡ true → (depth ≡ 16 → ⊥) → (depth ≡ 24 → ⊥) → depth ≡ 32
depth_32 depth e n m = ⊎_elim (λ (q : depth ≡ 16). absurd (n q)) (⊎_elim (λ (q : depth ≡ 24). absurd (m q)) (λ q. q)) (depth_cases depth e)
