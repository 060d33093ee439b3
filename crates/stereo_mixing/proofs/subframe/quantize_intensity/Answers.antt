-- `stereo_mixing::subframe::quantize_intensity` meets its contract. Each exit by the tests on the way. Assumes nothing.
use lib.Ieee.{of_bits}
use Rattle.rules_stereo.specs.Mixed.{combined_of, stored_of}
use Rattle.stereo_mixing.proofs.Searches.{mixing_silent, mixing_held, mixing_one}
use Rattle.stereo_mixing.proofs.subframe.quantize_intensity.Goals as goal

pub returns-then-combined : goal.returns-then-combined
unfolding combined_of of_bits
returns-then-combined c = mixing_silent _ c.if-combined.true

pub returns-then-e : goal.returns-then-e
unfolding combined_of stored_of of_bits
returns-then-e c = mixing_held _ _ _ c.if-combined.false c.if-e.true
    c.bound-value.ensures c.hold-ratio.ensures

pub returns : goal.returns
unfolding combined_of stored_of of_bits
returns c = mixing_one _ _ c.if-combined.false c.if-e.false c.bound-value.ensures
