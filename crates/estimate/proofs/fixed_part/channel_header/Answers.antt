-- `estimate::fixed_part::channel_header` meets its contract. Assumes nothing.
use borrow.Author.Rules.{rules}
use Rattle.rules.specs.Estimate.{header_bits}
use Rattle.estimate.proofs.fixed_part.channel_header.Goals as goal

pub returns : goal.returns
unfolding header_bits
returns c =
    (rw (c.calculate_optimal_delta_length-width.ensures.1, c.side_bits.ensures.0, c.coded_count-coded.ensures.0), search rules)
