-- `wav::samples::loudness::Loudness::with` meets its contract. Assumes nothing.
use Rattle.wav.proofs.Growing.{with_larger, with_other}
use Rattle.wav.proofs.samples.loudness.Loudness.with.Goals as goal

pub returns-then-self-m : goal.returns-then-self-m
returns-then-self-m c = with_larger _ _ _ _ c.magnitude-m.ensures c.with_one-average.ensures c.if-self-m.true

pub returns : goal.returns
returns c = with_other _ _ _ _ c.magnitude-m.ensures c.with_one-average.ensures c.if-self-m.false
