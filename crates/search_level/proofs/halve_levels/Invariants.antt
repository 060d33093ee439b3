-- `search_level::halve_levels` meets its contract. The invariant: the halving from here on finds what the whole one does, and what is kept is the highest
-- level left, unless no probe has fitted. Assumes nothing.
use Rattle.std.proofs.Common.{◌≡◌, ◌*◌, ◌≤◌, IfSome, IsNone, ◌-◌}
use Rattle.rules.specs.Layout.{frame_size}
use Rattle.rules.specs.Estimate.{used_bits}
use Rattle.rules.specs.Level.{halve, level_of}
use Rattle.search_level.proofs.Searching.{over_at}
use Rattle.search_level.proofs.halve_levels.Given as goal

abbrev pub invariant-loop-low : goal.invariant-loop-low
invariant-loop-low l =
    (l.low ≤ l.high) × (l.high ≤ 255) × (level_of (over_at l.probe.layout l.probe.scaled.now l.probe.factors.now) ≡ halve (over_at l.probe.layout l.probe.scaled.now l.probe.factors.now) (l.high - l.low) l.low l.high)
    × IfSome l.found (λ f. (f.level ≡ l.high) × (l.high ≤ 254) × (f.used ≡ used_bits l.probe.layout l.probe.scaled.now l.probe.factors.now l.high 0) × (f.used ≤ 8 * frame_size l.probe.layout))
    × (IsNone l.found → l.high ≡ 255)

abbrev pub decreases-loop-low : goal.decreases-loop-low
decreases-loop-low l = l.high - l.low
