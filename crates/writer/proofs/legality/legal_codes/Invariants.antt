-- `writer::legality::legal_codes` meets its contract. The invariant: the first s subframes are legal. Assumes nothing.
use mathlib.Core.Path.{◌≡◌}
use mathlib.Core.Bool.{Bool, true}
use mathlib.Core.List.{List}
use Prim.Native.Nat.{ℕ}
use lib.IntN.{ℤ}
use Rattle.buffers.specs.Walk.{every}
use Rattle.rules.specs.Layout.{part}
use Rattle.rules.specs.Record.{legal_subframe}
use Rattle.writer.proofs.legality.legal_codes.Given as goal

abbrev pub legal : List ℕ → List ℤ → ℕ → Bool
legal rs cs s = legal_subframe rs (part 128 cs s)

abbrev pub invariant-loop-subframe : goal.invariant-loop-subframe
invariant-loop-subframe l = every (legal l.resolutions l.codes) l.subframe-index ≡ true
