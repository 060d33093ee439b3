-- `wav::samples::is_depth` meets its contract. Assumes nothing.
use borrow.Author.Rules.{rules}
use Rattle.rules_files.specs.Wav.{is_depth}
use Rattle.wav.proofs.samples.is_depth.Goals as goal

pub returns-in-16 : goal.returns-in-16
unfolding is_depth
returns-in-16 c = search rules

pub returns-in_default : goal.returns-in_default
unfolding is_depth
returns-in_default c = search rules
