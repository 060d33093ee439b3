use mathlib.Core.Path.{refl, sym, ap, subst}
use Prim.Native.Nat.{◌+◌}
use native.Mathlib.Omega.{arith}
use lib.Ieee.{binary32, of_bits, div}
use Rattle.floats.specs.Single.{one_f}
use Rattle.rules.specs.Scaling.{scale_of}
use Rattle.scaling.specs.Bands.{entry_at, Scaled}
use Rattle.scaling.proofs.Stored.{scaled_more}
use Rattle.scaling.proofs.scale_bands.Goals as goal

pub loop-b-init : goal.loop-b-init
unfolding Scaled
loop-b-init c = (c.requires.spectra_len.1, λ b s h g. absurd (omega arith))

pub scale_band-requires-clause-scale_value : goal.scale_band-requires-clause-scale_value
unfolding scale_of entry_at of_bits
scale_band-requires-clause-scale_value c = ap (div binary32 one_f) (c.requires.by_index c.loop-b.b (omega arith))

pub loop-b-preserved : goal.loop-b-preserved
loop-b-preserved c =
    let a = c.args in
    subst (Scaled a.spectra.now a.used.now (c.loop-b.b + 1)) (sym c.scale_band.ensures)
    (scaled_more a.spectra.now a.used.now c.loop-b.b _ c.loop-b.scaled c.loop-b.invariant (omega arith) refl)
