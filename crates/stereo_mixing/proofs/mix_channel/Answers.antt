-- `stereo_mixing::mix_channel` meets its contract. The pair is lent as one part, and comes back in its place. Assumes nothing.
use mathlib.Core.Path.{sym, ◌∙◌}
use native.Mathlib.Omega.{arith}
use Rattle.stereo_mixing.proofs.Steps.{paired-next, channel_mixed_lem, channel_not}
use Rattle.stereo_mixing.proofs.mix_channel.Goals as goal

pub slice_bounds-mix_pair-end : goal.slice_bounds-mix_pair-end
slice_bounds-mix_pair-end c = omega (arith, paired-next _ _ (sym c.paired.ensures ∙ c.if-paired.true))

pub slice_bounds-mix_pair-end-then-paired : goal.slice_bounds-mix_pair-end-then-paired
slice_bounds-mix_pair-end-then-paired c = omega (arith, paired-next _ _ (sym c.paired.ensures ∙ c.if-paired.true))

pub returns-then-paired : goal.returns-then-paired
returns-then-paired c = channel_mixed_lem _ _ _ _ _ _ (sym c.paired.ensures
    ∙ c.if-paired.true) c.mix_pair.ensures

pub returns-else-paired : goal.returns-else-paired
returns-else-paired c = channel_not _ _ _ _ (sym c.paired.ensures ∙ c.if-paired.false)
