-- `file_header::numbers_at::loop_at` meets its contract. Assumes nothing.
use Rattle.file_header.proofs.Readings.{loop_made}
use Rattle.file_header.proofs.numbers_at.loop_at.Goals as goal

pub returns : goal.returns
returns c = (
  loop_made _ _ c.number_at.ensures.0 c.number_at-3.ensures.0 c.number_at-2.ensures.0 c.number_at-4.ensures.0,
  record {
    first = c.number_at.ensures.1;
    last = c.number_at-2.ensures.1;
    delay = c.number_at-3.ensures.1;
    padding = c.number_at-4.ensures.1;
  },
)
