-- `floats::truncate` meets its contract: the quick way by what `whole` ensures, the other by the sign's bit and what `cut` ensures. Assumes nothing.
use mathlib.Core.Path.{◌≡◌, sym, ap, ◌∙◌, subst}
use Prim.Native.Nat.{ℕ, ◌≤◌, ◌<◌, ◌^◌, min}
use native.Mathlib.Omega.{arith}
use lib.Dec.{T}
use lib.IntN.{pos, neg_ℤ}
use lib.Ieee as Ieee
use lib.Ieee.{binary32, of_bits}
use mir.Syntax.{w64}
use mir.Facts.{to_z-of_z, to_z_pos}
use Rattle.floats.specs.Single.{cut_to}
use Rattle.floats.proofs.AbsLaws.{no_nan, abs-of_bits}
use Rattle.floats.proofs.CutLaws.{cut_abs, cut_le, signed_yes, signed_no, signed-nan, bits-top}
use Rattle.floats.proofs.SignedLaws.{negated, negated_fits}
use Rattle.floats.proofs.truncate.Lts as lts
use Rattle.floats.proofs.truncate.Tie as tie
use Rattle.floats.proofs.truncate.Reads as reads
use Rattle.floats.proofs.truncate.Goals as goal

-- what owning an `f32` tells: the format holds it
held : (c : lts.Start tie.the-claims reads.Pre reads.Post tie.handed_clauses) → T (Ieee.fits binary32 c.args.x)
held c = subst T (sym c.well_formed.0.1) tt

-- what `cut` gives is the whole part of |x|, up to 2 ^ 31
got : (c : lts.After-cut tie.the-claims reads.Pre reads.Post tie.handed_clauses) → c.cut-n.result ≡ cut_to (2 ^ 31) c.args.x
got c =
    let x = c.args.x in
    c.cut-n.ensures ∙ ap (cut_to (2 ^ 31)) (abs-of_bits binary32 x (held c.before.before.before.before) (no_nan x (sym c.is_nan.ensures.value ∙ c.if-is_nan.false))) ∙ cut_abs (2 ^ 31) x

small : (c : lts.After-cut tie.the-claims reads.Pre reads.Post tie.handed_clauses) → c.cut-n.result ≤ 2147483648
small c = subst (λ (n : ℕ). n ≤ 2147483648) (sym (got c)) (cut_le (2 ^ 31) c.args.x)

fits : (c : lts.After-cut tie.the-claims reads.Pre reads.Post tie.handed_clauses) → c.cut-n.result < 2 ^ 63
fits c = omega (arith, small c)

low_end : (n : ℕ) → n < 2147483648 → n ≡ min n 2147483647
low_end n h = omega arith

high_end : (n : ℕ) → 2147483648 ≤ n → 2147483647 ≡ min n 2147483647
high_end n h = omega arith

-- ---- the quick way
pub whole-requires : goal.whole-requires
unfolding of_bits
whole-requires c = record { least = subst T (sym c.if-x.true) tt; most = subst T (sym c.if-x-2.true) tt }

pub returns-then-x-2 : goal.returns-then-x-2
returns-then-x-2 c = to_z_pos w64 (omega (arith, c.whole.ensures.1)) ∙ c.whole.ensures.0

-- ---- every float
pub returns-then-is_nan : goal.returns-then-is_nan
returns-then-is_nan c = signed-nan c.args.x (sym c.is_nan.ensures.value ∙ c.if-is_nan.true)

pub float_to_bits-bits : goal.float_to_bits-bits
float_to_bits-bits c = no_nan c.args.x (sym c.is_nan.ensures.value ∙ c.if-is_nan.false)

pub cut-n-requires : goal.cut-n-requires
cut-n-requires c =
    let x = c.args.x in
    bits-top x (held c.before.before.before) (no_nan x (sym c.is_nan.ensures.value ∙ c.if-is_nan.false))

pub overflow_sub-result : goal.overflow_sub-result
overflow_sub-result c = negated_fits w64 c.cut-n.result (fits c.before)

pub returns-then-bits-ge2147483648 : goal.returns-then-bits-ge2147483648
returns-then-bits-ge2147483648 c =
    to_z-of_z (negated_fits w64 c.cut-n.result (fits c.before))
    ∙ negated w64 c.cut-n.result (fits c.before)
    ∙ ap (λ (n : ℕ). neg_ℤ (pos n)) (got c.before)
    ∙ sym (signed_yes c.args.x (held c.before.before.before.before.before) c.if-bits-ge2147483648.true)

pub returns-then-n-lt2147483648 : goal.returns-then-n-lt2147483648
returns-then-n-lt2147483648 c =
    to_z_pos w64 (omega arith)
    ∙ ap pos (low_end c.cut-n.result c.if-n-lt2147483648.true ∙ ap (λ (n : ℕ). min n 2147483647) (got c.before.before))
    ∙ sym (signed_no c.args.x (held c.before.before.before.before.before.before) c.if-bits-ge2147483648.false)

pub returns : goal.returns
returns c =
    ap pos (high_end c.cut-n.result c.if-n-lt2147483648.false ∙ ap (λ (n : ℕ). min n 2147483647) (got c.before.before))
    ∙ sym (signed_no c.args.x (held c.before.before.before.before.before.before) c.if-bits-ge2147483648.false)
