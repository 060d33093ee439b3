-- A loop that takes eight values, `stride` apart, into one. Assumes nothing.
use mathlib.Core.Path.{◌≡◌, sym, ap, ap₂, ◌∙◌}
use mathlib.Core.List.{List}
use Prim.Native.Nat.{ℕ, suc, ◌+◌, ◌-◌, ◌*◌, ◌≤◌, ◌<◌}
use native.Mathlib.Nat.{mul-le-mul_right, add-mul}
use native.Mathlib.Omega.{arith}
use lib.ListN.{get_or}
use lib.Ieee.{Float, nan}
use Rattle.floats.specs.Single.{folded}

module _ (op : Float → Float → Float) (xs : List Float) (at stride : ℕ) (s₀ : Float) where
  -- what the loop keeps: what is left from the k-th value on, taken into s, gives what all eight give
  abbrev pub ToTake : ℕ → Float → Type 0
  ToTake k s = folded op xs (at + k * stride) stride (8 - k) s ≡ folded op xs at stride 8 s₀

  pub take_none : ToTake 0 s₀
  take_none = let first : at + 0 * stride ≡ at = omega arith in ap (λ (i : ℕ). folded op xs i stride 8 s₀) first

  pub take_more : (k : ℕ) (s s' : Float) → k < 8 → ToTake k s → s' ≡ op s (get_or xs (at + k * stride) nan) → ToTake (k + 1) s'
  unfolding folded
  take_more k s s' h t e =
      let left : 8 - k ≡ suc (8 - (k + 1)) = omega arith in
      let place : at + (k + 1) * stride ≡ at + k * stride + stride = omega (arith, add-mul k 1 stride) in
      ap₂ (λ (i : ℕ) (x : Float). folded op xs i stride (8 - (k + 1)) x) place e
      ∙ sym (ap (λ (m : ℕ). folded op xs (at + k * stride) stride m s) left)
      ∙ t

  pub take_all : (k : ℕ) (s : Float) → 8 ≤ k → ToTake k s → s ≡ folded op xs at stride 8 s₀
  unfolding folded
  take_all k s h t =
      let none_left : 8 - k ≡ 0 = omega arith in
      sym (ap (λ (m : ℕ). folded op xs (at + k * stride) stride m s) none_left) ∙ t

-- the place of the k-th value is at most the last one's
pub reach : (k stride : ℕ) → k < 8 → k * stride ≤ 7 * stride
reach k stride h = mul-le-mul_right stride (omega arith)
