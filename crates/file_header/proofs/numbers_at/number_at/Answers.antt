-- `file_header::numbers_at::number_at` meets its contract. Assumes nothing.
use native.Mathlib.Nat.{lt_of_lt_of_le, pow-le-pow_right, zero-lt-suc}
use Rattle.rules_files.specs.HeaderReading.{number_at}
use Rattle.file_header.proofs.numbers_at.number_at.Goals as goal

pub returns : goal.returns
unfolding number_at
returns c = (c.get_high.ensures.0, lt_of_lt_of_le c.get_high.ensures.1 (pow-le-pow_right (zero-lt-suc 255) c.requires.1))
