-- `scaling::scale_four` meets its contract. Assumes nothing.
use mathlib.Core.Path.{sym, ap, ◌∙◌}
use Prim.Native.Nat.{◌+◌}
use Rattle.scaling.specs.Bands.{stored_band}
use Rattle.scaling.proofs.Stored.{stored_split}
use Rattle.scaling.proofs.scale_four.Goals as goal

pub returns : goal.returns
returns c =
    let a = c.args in
    c.scale_two-2.ensures
    ∙ ap (stored_band a.spectra.now a.factor (a.i + 256) (a.at + 2) 2) c.scale_two.ensures
    ∙ sym (stored_split a.spectra.now a.factor a.i a.at 2 2 a.scaled.now)
