-- Every scaled value of a finite spectrum is within the clip: so what a code by its column asks of it holds. Assumes nothing.
use mathlib.Core.Path.{◌≡◌, refl, sym, ap, ◌∙◌, subst}
use mathlib.Core.Logic.{◌⊎◌, inl, inr}
use Prim.Native.Nat.{ℕ, zero, suc, ◌+◌, ◌*◌, ◌≤◌, ◌<◌}
use native.Mathlib.Nat.{eq-or-lt_of_le}
use native.Mathlib.Omega.{arith}
use mathlib.Core.Bool.{Bool, true, false, not, ◌&&◌, ◌||◌, cond}
use lib.Dec.{T, ltb, eqb, eqb_refl, lt→ltb, nltb→le}
use lib.Ieee.{Float, nan, inf, fin, binary32, up, down, neg, mul, div, round, lt, le, of_bits, is_nan}
use lib.Ieee.Scale.{finite}
use lib.Ieee.Positive.{num, den}
use Rattle.buffers.specs.Walk.{every}
use Rattle.buffers.proofs.Every.{every-at}
use Rattle.floats.specs.Single.{held_f, zero_f}
use Rattle.rules.specs.Tables.{scaling_table}
use Rattle.rules.specs.Scaling.{clip, scale_of, scaled_value}
use Rattle.within.specs.Within.{Within}
use Rattle.within.proofs.WithinLaws.{top, bottom, top-is, bottom-is}
use Rattle.within.proofs.MonoLaws.{clear, Pos, Clear, clear-round, signed, signed_round, mul_is}

-- ---- what is not below is at most
or_l : (a b : Bool) → T a → T (a || b)
or_l true b t = tt
or_l false b t = absurd t

or_r : (a b : Bool) → T b → T (a || b)
or_r true b t = tt
or_r false b t = t

same : (a b : ℕ) (u : Bool) → a ≡ b → T u → T (eqb a b && u)
same a b true e t = subst (λ (n : ℕ). T (eqb a n && true)) e (both (eqb a a) (eqb_refl a))
  where
    both : (c : Bool) → T c → T (c && true)
    both true t = tt
    both false t = t
same a b false e t = absurd t

flip : {p : Bool} → p ≡ false → T (not p)
flip {p} e = subst (λ (b : Bool). T (not b)) (sym e) tt

pub up_to : (a b : ℕ) → ltb b a ≡ false → T (ltb a b || (eqb a b && true))
up_to a b h = go (eq-or-lt_of_le (nltb→le b a (flip h)))
  where
    go : (a ≡ b) ⊎ (a < b) → T (ltb a b || (eqb a b && true))
    go (inl e) = or_r (ltb a b) (eqb a b && true) (same a b true e tt)
    go (inr k) = or_l (ltb a b) (eqb a b && true) (lt→ltb a b k)

pub down_to : (a b : ℕ) → ltb a b ≡ false → T (ltb b a || (eqb a b && true))
down_to a b h = go (eq-or-lt_of_le (nltb→le a b (flip h)))
  where
    go : (b ≡ a) ⊎ (b < a) → T (ltb b a || (eqb a b && true))
    go (inl e) = or_r (ltb b a) (eqb a b && true) (same a b true (sym e) tt)
    go (inr k) = or_l (ltb b a) (eqb a b && true) (lt→ltb b a k)

pub apart : (a b : ℕ) → T (ltb 0 (a + b) || (eqb a b && eqb a 0))
apart zero zero = tt
apart zero (suc b) = or_l (ltb 0 (0 + suc b)) (eqb 0 (suc b) && eqb 0 0) (lt→ltb 0 (0 + suc b) (omega arith))
apart (suc a) b = or_l (ltb 0 (suc a + b)) (eqb (suc a) b && eqb (suc a) 0) (lt→ltb 0 (suc a + b) (omega arith))

from-bottom : (y : Float) → T (not (is_nan y)) → lt y bottom ≡ false → T (le bottom y)
unfolding le lt is_nan
from-bottom nan n h = absurd n
from-bottom (inf true) n h = absurd (subst T h tt)
from-bottom (inf false) n h = tt
from-bottom (fin true m e) n h = down_to (8388607 * down e) (m * up e * 8388608) h
from-bottom (fin false m e) n h = apart (8388607 * down e) (m * up e * 8388608)

to_top : (y : Float) → T (not (is_nan y)) → lt top y ≡ false → T (le y top)
unfolding le lt is_nan
to_top nan n h = absurd n
to_top (inf true) n h = tt
to_top (inf false) n h = absurd (subst T h tt)
to_top (fin true m e) n h = apart (m * up e * 8388608) (8388607 * down e)
to_top (fin false m e) n h = up_to (m * up e * 8388608) (8388607 * down e) h

pub ends : Within clip × Within (neg clip) × Within zero_f
unfolding of_bits neg le
ends = (record { least = tt; most = tt }, record { least = tt; most = tt }, record { least = tt; most = tt })

pub held-within : (y : Float) → T (not (is_nan y)) → Within (held_f (neg clip) clip y)
unfolding held_f
held-within y n = go (lt y (neg clip)) (lt clip y) refl refl
  where
    go : (a b : Bool) → lt y (neg clip) ≡ a → lt clip y ≡ b → Within (cond a (neg clip) (cond b clip y))
    go true b p q = ends.1
    go false true p q = ends.0
    go false false p q = record {
      least = subst (λ (x : Float). T (le x y)) (sym bottom-is) (from-bottom y n (ap (lt y) (sym bottom-is) ∙ p));
      most = subst (λ (x : Float). T (le y x)) (sym top-is) (to_top y n (ap (λ (x : Float). lt x y) (sym top-is) ∙ q));
    }

-- ---- a finite value times a positive one is no NaN
number-round : (t : Bool) (a b : ℕ) → T (not (is_nan (round binary32 t a b)))
unfolding is_nan
number-round t a b = subst (λ (v : Float). T (not (is_nan v))) (sym (signed_round binary32 t a b)) (go (round binary32 false a b) (clear-round binary32 a b))
  where
    go : (v : Float) → Clear v → T (not (is_nan (signed t v)))
    go nan c = c
    go (inf s) c = tt
    go (fin s m e) c = tt

number-mul : (x s : Float) → T (finite x) → Pos s → T (not (is_nan (mul binary32 x s)))
number-mul nan s f p = absurd f
number-mul (inf t) s f p = absurd f
number-mul (fin t m e) s f p = subst (λ (v : Float). T (not (is_nan v))) (sym (mul_is binary32 t m e s p)) (number-round t (m * up e * num s) (down e * den s))

-- ---- the scales: one computed test
scales_clear : every (λ (f : ℕ). clear (scale_of f)) 64 ≡ true
unfolding every scale_of scaling_table of_bits div
scales_clear = refl

-- ---- a scaled value
pub scaled-within : (f : ℕ) → f ≤ 63 → (x : Float) → T (finite x) → Within (scaled_value f x)
unfolding scaled_value
scaled-within f h x t = go (eqb f 0)
  where
    in_table : (f : ℕ) → f ≤ 63 → f < 64
    in_table f h = omega arith

    scale : Pos (scale_of f)
    scale = subst T (sym (every-at (λ (k : ℕ). clear (scale_of k)) 64 f scales_clear (in_table f h))) tt

    go : (b : Bool) → Within (cond b zero_f (held_f (neg clip) clip (mul binary32 x (scale_of f))))
    go true = ends.2
    go false = held-within (mul binary32 x (scale_of f)) (number-mul x (scale_of f) t scale)
