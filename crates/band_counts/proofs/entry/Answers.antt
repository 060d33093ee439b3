-- `band_counts::entry` meets its contract. Assumes nothing.
use mathlib.Core.Path.{ap, ap₂, ◌∙◌}
use Prim.Native.Nat.{ℕ, ◌+◌, ◌*◌}
use native.Mathlib.Omega.{arith}
use lib.IntN.{pos}
use mir.Syntax.{w32}
use mir.Facts.{to_z_pos}
use Rattle.band_counts.specs.Counts.{entry_of}
use Rattle.band_counts.proofs.entry.Goals as goal

pub small_count-small-requires : goal.small_count-small-requires
small_count-small-requires c =
    let h = c.requires.each_within in record { each_within = (h.0, h.1, h.3); k_bound = c.requires.k_bound }

pub wide_count-wide-requires : goal.wide_count-wide-requires
wide_count-wide-requires c = (c.requires.each_within.2, c.requires.k_bound)

pub returns : goal.returns
unfolding entry_of
returns c =
    let small = c.small_count-small in
    to_z_pos w32 {n = small.result + 256 * c.wide_count-wide.result} (omega (arith, small.ensures.1, c.wide_count-wide.ensures.1))
    ∙ ap pos (ap₂ (λ (a b : ℕ). a + 256 * b) small.ensures.0 c.wide_count-wide.ensures.0)
