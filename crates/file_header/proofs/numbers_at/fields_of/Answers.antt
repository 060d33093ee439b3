-- `file_header::numbers_at::fields_of` meets its contract. Assumes nothing.
use Rattle.file_header.proofs.Readings.{fields_made}
use Rattle.file_header.proofs.numbers_at.fields_of.Goals as goal

pub returns : goal.returns
returns c = (
  fields_made _ _ _ _ _ _ _ _ _ _ _ _ c.size_at.ensures.0 c.size_at-6.ensures.0 c.size_at-7.ensures.0 c.size_at-5.ensures.0
      c.size_at-2.ensures.0 c.size_at-3.ensures.0 c.size_at-4.ensures.0 c.number_at.ensures.0 c.number_at-2.ensures.0
      c.number_at-3.ensures.0 c.points_of.ensures.0,
  record {
    channels = c.size_at.ensures.1;
    base = c.size_at-6.ensures.1;
    stereo = c.size_at-7.ensures.1;
    total = c.size_at-5.ensures.1;
    size = c.size_at-2.ensures.1;
    minimum = c.size_at-3.ensures.1;
    maximum = c.size_at-4.ensures.1;
    rate = c.number_at.ensures.1;
    frames = c.number_at-2.ensures.1;
    padding = c.number_at-3.ensures.1;
    points = c.points_of.ensures.1;
  },
)
