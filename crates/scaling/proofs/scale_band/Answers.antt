-- `scaling::scale_band` meets its contract. Assumes nothing.
use mathlib.Core.Path.{sym, ap, ◌∙◌}
use Prim.Native.Nat.{◌+◌}
use Rattle.scaling.specs.Bands.{stored_band}
use Rattle.scaling.proofs.Stored.{stored_split}
use Rattle.scaling.proofs.scale_band.Goals as goal

pub returns : goal.returns
returns c =
    let a = c.args in
    c.scale_four-2.ensures
    ∙ ap (stored_band a.spectra.now a.factor (a.b + 512) (a.at + 4) 4) c.scale_four.ensures
    ∙ sym (stored_split a.spectra.now a.factor a.b a.at 4 4 a.scaled.now)
