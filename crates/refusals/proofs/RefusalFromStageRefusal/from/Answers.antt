-- `refusals::RefusalFromStageRefusal::from` meets its contract. Assumes nothing.
use Rattle.rules.specs.Refusals.{stage_outcome}
use Rattle.refusals.specs.Refusals.{refusal_of}
use Rattle.refusals.proofs.RefusalFromStageRefusal.from.Goals as goal

pub returns-in-BadLayout : goal.returns-in-BadLayout
unfolding refusal_of stage_outcome
returns-in-BadLayout c = rw c.in-BadLayout.is c.refused.ensures

pub returns-in-ShortBuffer : goal.returns-in-ShortBuffer
unfolding refusal_of stage_outcome
returns-in-ShortBuffer c = rw c.in-ShortBuffer.is c.refused-in-ShortBuffer.ensures

pub returns-in-BadIntensity : goal.returns-in-BadIntensity
unfolding refusal_of stage_outcome
returns-in-BadIntensity c = rw c.in-BadIntensity.is c.refused-in-BadIntensity.ensures

pub returns-in-BadSpectrum : goal.returns-in-BadSpectrum
unfolding refusal_of stage_outcome
returns-in-BadSpectrum c = rw c.in-BadSpectrum.is c.refused-in-BadSpectrum.ensures

pub returns-in-NoLevel : goal.returns-in-NoLevel
unfolding refusal_of stage_outcome
returns-in-NoLevel c = rw c.in-NoLevel.is c.refused-in-NoLevel.ensures

pub returns-in-TooLong : goal.returns-in-TooLong
unfolding refusal_of stage_outcome
returns-in-TooLong c = rw c.in-TooLong.is c.refused-in-TooLong.ensures
