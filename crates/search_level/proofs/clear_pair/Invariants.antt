-- `search_level::clear_pair` meets its contract. The invariant: the pair is cleared in the first c channels. Assumes nothing.
use Rattle.buffers.proofs.Blocks.{Blocked}
use Rattle.search_level.proofs.Searching.{cleared_at}
use Rattle.search_level.proofs.clear_pair.Given as goal

abbrev pub invariant-loop-c : goal.invariant-loop-c
invariant-loop-c l = Blocked (cleared_at l.initial.factors l.band) 128 l.initial.factors l.c l.factors
