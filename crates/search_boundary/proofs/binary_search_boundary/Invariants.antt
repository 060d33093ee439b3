-- `search_boundary::binary_search_boundary` meets its contract. The invariant: the search from here on finds what the whole one does, and the bits are those
-- of low. Assumes nothing.
use mathlib.Core.Path.{◌≡◌}
use Prim.Native.Nat.{◌≤◌, ◌-◌, ◌*◌}
use Rattle.rules.specs.Layout.{frame_size}
use Rattle.rules.specs.Estimate.{used_bits, exceeds}
use Rattle.rules.specs.Boundary.{narrow, search_boundary}
use Rattle.search_boundary.proofs.binary_search_boundary.Given as goal

abbrev pub invariant-loop-low : goal.invariant-loop-low
invariant-loop-low l =
    (l.low ≤ l.high) × (l.high ≤ 127) × (l.low ≤ 126)
    × (search_boundary (exceeds l.probe.layout l.probe.scaled.now l.probe.factors.now l.level) ≡ narrow (exceeds l.probe.layout l.probe.scaled.now l.probe.factors.now l.level) (l.high - l.low) l.low l.high)
    × (l.bits ≡ used_bits l.probe.layout l.probe.scaled.now l.probe.factors.now l.level l.low) × (l.bits ≤ 8 * frame_size l.probe.layout)

abbrev pub decreases-loop-low : goal.decreases-loop-low
decreases-loop-low l = l.high - l.low
