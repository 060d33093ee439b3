-- The gate's answer as refusals 1, 18 and 2 of request A5.
use Rattle.std.specs.Prelude.{[], Result, Ok, Err, ⊤}
use Rattle.std.proofs.Math.Option.{Option, none, some}
use Rattle.rules.specs.Refusals.{Outcome, delivered, refused}
use Rattle.rules_line.specs.declared.LineRefusal.{LineRefusal}
use Rattle.rules_line.specs.declared.LineRefusal.TheVariants.{BadLayout, BadBatch, ShortBuffer, Frame}

-- it refuses no frame: what would stand there is none of its answers
unfoldable pub line_gate_outcome : {R : Type 0} (answer : Result ⊤ (LineRefusal R)) → Option Outcome
line_gate_outcome (Ok done) = none
line_gate_outcome (Err BadLayout) = some (refused 1 0)
line_gate_outcome (Err BadBatch) = some (refused 18 0)
line_gate_outcome (Err ShortBuffer) = some (refused 2 0)
line_gate_outcome (Err (Frame k r)) = some (delivered [])
