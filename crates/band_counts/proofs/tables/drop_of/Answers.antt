-- `band_counts::tables::drop_of` meets its contract: the column by one computed test in each mode. Assumes nothing.
use mathlib.Core.Path.{refl}
use Rattle.buffers.specs.Walk.{build}
use Rattle.buffers.proofs.Build.{build-at}
use Rattle.rules.specs.Tables.{max_bit_table, spectrum_bits}
use Rattle.rules.specs.Signed.{held_z}
use Rattle.rules.specs.Code.{magnitude_bits, code_place}
use Rattle.rules.specs.declared.Mode.TheVariants.{Rust, Held}
use Rattle.quantizer.specs.Marks.{high_at, drop_at}
use Rattle.quantizer.proofs.Entries.{build_agrees}
use Rattle.within.specs.Zones.{clip_past, zone_drop}
use Rattle.band_counts.proofs.tables.drop_of.Goals as goal

pub returns-in-Rust : goal.returns-in-Rust
unfolding build high_at drop_at clip_past zone_drop spectrum_bits code_place held_z magnitude_bits max_bit_table
returns-in-Rust c = rw c.in-Rust.is (build-at (zone_drop Rust) 8 c.args.k 0 c.requires)

pub returns-in-Held : goal.returns-in-Held
unfolding build high_at drop_at clip_past zone_drop spectrum_bits code_place held_z magnitude_bits max_bit_table
returns-in-Held c = rw c.in-Held.is (build_agrees (λ _. 0) (zone_drop Held) 8 refl c.args.k c.requires)
