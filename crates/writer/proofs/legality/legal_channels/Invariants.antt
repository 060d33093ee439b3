-- `writer::legality::legal_channels` meets its contract. The invariant: the first c channels are legal. Assumes nothing.
use mathlib.Core.Path.{◌≡◌}
use mathlib.Core.Bool.{Bool, true}
use mathlib.Core.List.{List}
use Prim.Native.Nat.{ℕ}
use lib.IntN.{ℤ}
use Rattle.buffers.specs.Walk.{every}
use Rattle.rules.specs.Layout.{part}
use Rattle.rules.specs.declared.Layout.{Layout}
use Rattle.rules.specs.Record.{legal_channel}
use Rattle.writer.proofs.legality.legal_channels.Given as goal

abbrev pub legal : Layout → List ℕ → List ℕ → List ℤ → List ℕ → ℕ → Bool
legal l F S C R c = legal_channel l c (part 128 F c) (part 8 S c) (part 1024 C c) (part 128 R c)

abbrev pub invariant-loop-c : goal.invariant-loop-c
invariant-loop-c l = every (legal l.layout l.factors l.side l.codes l.resolutions) l.c ≡ true
