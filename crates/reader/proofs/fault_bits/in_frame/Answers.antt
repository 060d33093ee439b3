-- `reader::fault_bits::in_frame` gives the refusal of each fault. Assumes nothing.
use mathlib.Core.Path.{sym, ap}
use Prim.Native.Nat.{◌+◌}
use Rattle.rules.specs.Refusals.{refused, reader_outcome}
use Rattle.reader_channels.specs.Steps.{fault_number, fault_bit}
use Rattle.reader.proofs.fault_bits.in_frame.Goals as goal

pub returns-in-BadWidth : goal.returns-in-BadWidth
unfolding reader_outcome
returns-in-BadWidth c = ap (λ f. refused (fault_number f) (fault_bit f + 16)) (sym c.in-BadWidth.is)

pub returns-in-BadFactor : goal.returns-in-BadFactor
unfolding reader_outcome
returns-in-BadFactor c = ap (λ f. refused (fault_number f) (fault_bit f + 16)) (sym c.in-BadFactor.is)

pub returns-in-PastEnd : goal.returns-in-PastEnd
unfolding reader_outcome
returns-in-PastEnd c = ap (λ f. refused (fault_number f) (fault_bit f + 16)) (sym c.in-PastEnd.is)
