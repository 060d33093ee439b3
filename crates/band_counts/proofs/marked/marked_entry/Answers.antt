-- `band_counts::marked::marked_entry` meets its contract. Assumes nothing.
use mathlib.Core.Path.{ap, ap₂, ◌∙◌}
use Prim.Native.Nat.{ℕ, ◌+◌, ◌*◌}
use native.Mathlib.Omega.{arith}
use lib.IntN.{pos}
use mir.Syntax.{w32}
use mir.Facts.{to_z_pos}
use Rattle.band_counts.specs.Counts.{entry_of}
use Rattle.band_counts.proofs.marked.marked_entry.Goals as goal

pub returns : goal.returns
unfolding entry_of
returns c =
    let small = c.marked_small-small in
    to_z_pos w32 {n = small.result + 256 * c.marked_wide-wide.result} (omega (arith, small.ensures.1, c.marked_wide-wide.ensures.1))
    ∙ ap pos (ap₂ (λ (a b : ℕ). a + 256 * b) small.ensures.0 c.marked_wide-wide.ensures.0)
