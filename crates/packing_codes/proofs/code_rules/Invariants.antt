-- `packing_codes::code_rules` meets its contract. Assumes nothing.
use lib.ListN.{get_or}
use Rattle.buffers.proofs.Build.{Filled}
use Rattle.packing_codes.specs.Columns.{rule_of}
use Rattle.packing_codes.proofs.code_rules.Given as goal

abbrev pub invariant-loop-i : goal.invariant-loop-i
invariant-loop-i l = Filled (λ k. rule_of (get_or l.resolutions k 0)) l.initial.rows l.i l.rows
