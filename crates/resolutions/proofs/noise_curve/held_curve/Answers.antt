use mathlib.Core.Path.{sym, ◌∙◌, ap}
use Prim.Native.Nat.{ℕ, min, max}
use native.Mathlib.Omega.{arith}
use Rattle.buffers.proofs.Build.{filled_none, filled_more}
use Rattle.resolutions.proofs.Stretches.{held_part, as_it_was, table_is}
use Rattle.resolutions.proofs.noise_curve.held_curve.Goals as goal

pub slice_bounds-entry-items-end : goal.slice_bounds-entry-items-end
slice_bounds-entry-items-end c = sym (held_part _ c.plain_curve-table.ensures)

pub loop-entry-init : goal.loop-entry-init
loop-entry-init c = filled_none _ _

pub loop-entry-preserved : goal.loop-entry-preserved
loop-entry-preserved c =
    let l = c.args.layout in
    filled_more _ _ _ _ _ (omega arith) c.loop-entry.invariant
    (c.min.ensures
    ∙ ap (λ (n : ℕ). min n l.maximum) (c.max.ensures
    ∙ ap (λ (n : ℕ). max n l.minimum) (as_it_was _ _ _ _ c.loop-entry.invariant)))

pub returns : goal.returns
returns c =
    table_is c.args.layout c.plain_curve-table.result _ c.loop-entry.entry-index c.plain_curve-table.ensures
    (omega (arith, held_part _ c.plain_curve-table.ensures)) c.requires.highest c.loop-entry.invariant
