-- `hfr::channel_side` meets its contract. Assumes nothing.
use mathlib.Core.Path.{sym, ◌∙◌}
use Prim.Native.Nat.{◌*◌}
use Rattle.buffers.proofs.Build.{back-width}
use Rattle.hfr.proofs.Side.{of-secondary, of_other}
use Rattle.hfr.proofs.channel_side.Goals as goal

pub returns-then-is_secondary : goal.returns-then-is_secondary
returns-then-is_secondary c =
    let width = back-width (c.args.channel * 8) 8 in
    (rw width at c.copy_intensities.ensures) ∙ sym (of-secondary _ _ _ _ _ (sym c.is_secondary.ensures ∙ c.if-is_secondary.true))

pub returns-else-is_secondary : goal.returns-else-is_secondary
returns-else-is_secondary c =
    let width = back-width (c.args.channel * 1024) 1024 in
    (rw width at c.fill_scales.ensures) ∙ sym (of_other _ _ _ _ _ (sym c.is_secondary.ensures ∙ c.if-is_secondary.false))
