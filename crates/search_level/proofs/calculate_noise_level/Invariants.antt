-- `search_level::calculate_noise_level` meets its contract. The invariant: the removal from here on finds what the whole one does. Assumes nothing.
use Rattle.std.proofs.Common.{◌≡◌, ◌+◌, ◌*◌, ◌≤◌, length, ◌-◌}
use Rattle.buffers.specs.Walk.{AtMost}
use Rattle.rules.specs.Level.{remove}
use Rattle.rules.specs.Stage.{level_found}
use Rattle.search_level.proofs.Searching.{over_at}
use Rattle.search_level.proofs.calculate_noise_level.Given as goal

abbrev pub invariant-loop-found : goal.invariant-loop-found
invariant-loop-found l =
    (length l.factors ≡ length l.initial.factors) × (2 * l.pairs + l.top ≤ 128) × AtMost 63 l.factors
    × (level_found l.layout l.scaled l.initial.factors ≡ remove l.layout (over_at l.layout l.scaled) (64 - l.pairs) l.top l.pairs l.factors)

abbrev pub decreases-loop-found : goal.decreases-loop-found
decreases-loop-found l = l.top
