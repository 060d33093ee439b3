-- `band_counts::eight::wide_count` meets its contract, by `eight_wide`. Assumes nothing.
use mathlib.Core.Path.{◌≡◌, ap₂, ◌∙◌}
use Prim.Native.Nat.{◌+◌}
use native.Mathlib.Omega.{arith}
use Rattle.quantizer.proofs.Entries.{bits-le}
use Rattle.band_counts.proofs.Zones.{eight_wide}
use Rattle.band_counts.specs.Counts.{eight_reached}
use Rattle.band_counts.proofs.eight.wide_count.Goals as goal

pub overflow_add-result : goal.overflow_add-result
overflow_add-result c = omega (arith, bits-le (c.args.k + 8) (omega arith), c.wide_of.ensures, c.eight_reached.ensures.1)

pub returns : goal.returns
returns c =
    let n : c.eight_reached.result ≡ _ = c.eight_reached.ensures.0 ∙ ap₂ eight_reached c.dead_of.ensures c.requires.0 in (
      ap₂ ◌+◌ c.wide_of.ensures n ∙ eight_wide c.args.mode (c.args.k + 8) (omega arith) c.args.e,
      omega (arith, bits-le (c.args.k + 8) (omega arith), c.wide_of.ensures, c.eight_reached.ensures.1),
    )
