-- `scaling::scale_channel` meets its contract. Assumes nothing.
use mathlib.Core.Path.{subst}
use Prim.Native.Nat.{ℕ, ◌*◌}
use native.Mathlib.Omega.{arith}
use Rattle.scaling.specs.Bands.{Scaled}
use Rattle.scaling.proofs.Scaled.{used_small, entries-count, entries_are, channel_laid}
use Rattle.scaling.proofs.scale_channel.Goals as goal

pub fill_entries-requires-clause-by_index : goal.fill_entries-requires-clause-by_index
fill_entries-requires-clause-by_index c = used_small _ _ _ c.coded_factors-used.ensures c.requires.by_index

pub scale_bands-requires-clause-by_index : goal.scale_bands-requires-clause-by_index
scale_bands-requires-clause-by_index c = entries_are _ _ _ _ (omega arith) c.fill_entries.ensures

pub returns : goal.returns
returns c =
    let n = c.div_ceil-n.result * 8 in
    let bands = subst (λ (k : ℕ). Scaled c.args.spectra.now c.coded_factors-used.result k c.scale_bands.new.scaled)
    (entries-count _ n _ _ (omega arith) c.fill_entries.ensures) c.scale_bands.ensures in
    channel_laid _ _ _ c.coded_factors-used.ensures _ n (omega arith) (omega arith) _ bands _ c.clear.ensures
