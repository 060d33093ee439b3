-- `factors::find_scale_factor` meets its contract, by the laws of the guess. Assumes nothing.
use mathlib.Core.Path.{◌≡◌, sym, ap, ◌∙◌, subst}
use Prim.Native.Nat.{ℕ, ◌+◌, ◌≤◌}
use native.Mathlib.Omega.{arith}
use borrow.Author.Rules.{rules}
use lib.Dec.{T}
use lib.ListN.{get_or}
use lib.Ieee.{Float, nan, binary32, of_bits, to_bits, fits, le, nan_bits}
use lib.Ieee.Positive.{above}
use Rattle.floats.specs.Single.{max_f}
use Rattle.rules.specs.Factor.{factor_of}
use Rattle.rules.specs.Tables.{scaling_table}
use Rattle.factors.proofs.OrderLaws.{above-number}
use Rattle.factors.proofs.GuessLaws.{raised-above, raised-fits, raised-bits, raised_factor, one_more, as_guessed}
use Rattle.factors.proofs.find_scale_factor.Lts as lts
use Rattle.factors.proofs.find_scale_factor.Tie as tie
use Rattle.factors.proofs.find_scale_factor.Reads as reads
use Rattle.factors.proofs.find_scale_factor.Goals as goal

-- what owning an `f32` tells: the format holds it
held : (c : lts.Start tie.the-claims reads.Pre reads.Post) → T (fits binary32 c.args.value)
held c = subst T (sym c.well_formed.0.1) tt

-- what `larger` gives
raised : (c : lts.After-larger tie.the-claims reads.Pre reads.Post) → c.larger-v.result ≡ max_f (of_bits binary32 0x342A8D25) c.args.value
raised c = c.larger-v.ensures

fine : (c : lts.After-larger tie.the-claims reads.Pre reads.Post) → T (fits binary32 c.larger-v.result)
fine c = subst (λ (v : Float). T (fits binary32 v)) (sym (raised c)) (raised-fits c.args.value (held c.before))

high : (c : lts.After-larger tie.the-claims reads.Pre reads.Post) → T (above c.larger-v.result)
high c = subst (λ (v : Float). T (above v)) (sym (raised c)) (raised-above c.args.value)

same-factor : (c : lts.After-larger tie.the-claims reads.Pre reads.Post) → factor_of c.larger-v.result ≡ factor_of c.args.value
same-factor c = ap factor_of (raised c) ∙ raised_factor c.args.value

pub float_from_bits-larger : goal.float_from_bits-larger
unfolding nan_bits
float_from_bits-larger c = search rules

pub float_to_bits-v : goal.float_to_bits-v
float_to_bits-v c = above-number c.larger-v.result (high c)

pub guess-g-requires : goal.guess-g-requires
guess-g-requires c = subst (λ (v : Float). 0x34153066 ≤ to_bits binary32 v) (sym (raised c)) (raised-bits c.args.value (held c.before))

pub returns-then-scaling_entry-v : goal.returns-then-scaling_entry-v
returns-then-scaling_entry-v c =
    let v = c.larger-v.result in
    let t = ap (λ (g : ℕ). le (get_or scaling_table g nan) v) (sym c.guess-g.ensures.0) ∙ ap (λ (x : Float). le x v) (sym c.scaling_entry.ensures) in
    let e = one_more v (fine c.before.before.before) (high c.before.before.before) (t ∙ c.if-scaling_entry-v.true) in
    (ap (λ (g : ℕ). g + 1) c.guess-g.ensures.0 ∙ sym e ∙ same-factor c.before.before.before, omega arith)

pub returns-else-scaling_entry-v : goal.returns-else-scaling_entry-v
returns-else-scaling_entry-v c =
    let v = c.larger-v.result in
    let t = ap (λ (g : ℕ). le (get_or scaling_table g nan) v) (sym c.guess-g.ensures.0) ∙ ap (λ (x : Float). le x v) (sym c.scaling_entry.ensures) in
    let e = as_guessed v (fine c.before.before.before) (high c.before.before.before) (t ∙ c.if-scaling_entry-v.false) in
    (c.guess-g.ensures.0 ∙ sym e ∙ same-factor c.before.before.before, omega arith)
