-- `wav::samples::whole_samples` meets its contract. Assumes nothing.
use native.Mathlib.Omega.{arith}
use Rattle.rules_files.proofs.Samples.{width-within}
use Rattle.wav.proofs.Taking.{counted}
use Rattle.wav.proofs.samples.whole_samples.Goals as goal

pub nonzero_div-result-2 : goal.nonzero_div-result-2
nonzero_div-result-2 c = omega (arith, width-within _ c.requires.0)

pub returns : goal.returns
returns c = counted _ c.args.found c.requires.1 _ c.min-present.ensures
