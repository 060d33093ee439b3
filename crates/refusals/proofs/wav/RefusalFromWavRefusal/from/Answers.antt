-- `refusals::wav::RefusalFromWavRefusal::from` meets its contract. Assumes nothing.
use Rattle.rules_files.specs.Wav.{wav_outcome}
use Rattle.refusals.specs.Refusals.{refusal_of}
use Rattle.refusals.proofs.wav.RefusalFromWavRefusal.from.Goals as goal

pub returns-in-NotWave : goal.returns-in-NotWave
unfolding refusal_of wav_outcome
returns-in-NotWave c = rw c.in-NotWave.is c.refused.ensures

pub returns-in-NoData : goal.returns-in-NoData
unfolding refusal_of wav_outcome
returns-in-NoData c = rw c.in-NoData.is c.refused-in-NoData.ensures

pub returns-in-BadDepth : goal.returns-in-BadDepth
unfolding refusal_of wav_outcome
returns-in-BadDepth c = rw c.in-BadDepth.is c.refused-in-BadDepth.ensures

pub returns-in-TooMany : goal.returns-in-TooMany
unfolding refusal_of wav_outcome
returns-in-TooMany c = rw c.in-TooMany.is c.refused-in-TooMany.ensures

pub returns-in-ShortBuffer : goal.returns-in-ShortBuffer
unfolding refusal_of wav_outcome
returns-in-ShortBuffer c = rw c.in-ShortBuffer.is c.refused-in-ShortBuffer.ensures

pub returns-in-NotFinite : goal.returns-in-NotFinite
unfolding refusal_of wav_outcome
returns-in-NotFinite c = rw c.in-NotFinite.is c.refused-in-NotFinite.ensures
