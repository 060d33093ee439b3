-- `wav::samples::values::is_finite_pattern` meets its contract. Assumes nothing.
use Rattle.rules_files.proofs.Samples.{pattern_finite}
use Rattle.wav.proofs.samples.values.is_finite_pattern.Goals as goal

pub returns : goal.returns
returns c = pattern_finite c.args.pattern
