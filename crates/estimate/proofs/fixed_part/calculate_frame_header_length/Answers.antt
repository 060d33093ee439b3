use mathlib.Core.Path.{◌≡◌, sym, ap, ◌∙◌}
use Prim.Native.Nat.{ℕ, ◌+◌, ◌*◌}
use native.Mathlib.Omega.{arith}
use borrow.Author.Rules.{rules}
use Rattle.buffers.proofs.Build.{back-width}
use Rattle.buffers.proofs.Scan.{sum-none, sum-turn}
use Rattle.rules.specs.Estimate.{fixed_bits}
use Rattle.estimate.proofs.fixed_part.calculate_frame_header_length.Goals as goal

pub loop-c-init : goal.loop-c-init
loop-c-init c = (search rules, sym (sum-none _))

pub loop-c-preserved : goal.loop-c-preserved
loop-c-preserved c =
    (search rules, sum-turn _ _ _ _ c.loop-c.invariant.1 (c.channel_header-sum.ensures.0 ∙ rw (back-width (c.loop-c.c * 128) 128)))

pub returns : goal.returns
unfolding fixed_bits
returns c =
    let e : c.loop-c.c ≡ c.args.layout.channels = omega arith in
    (ap (λ (n : ℕ). 48 + n) (c.loop-c.invariant.1 ∙ rw e), search rules)
