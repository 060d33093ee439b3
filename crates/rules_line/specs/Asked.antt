-- What the code of a line asks, as facts: how far the counts are, that answers fit their places, `batch_fits` and `line_has_room`. No rule stands here.
use Rattle.std.specs.Prelude.{ℕ, ◌+◌, ◌*◌, ◌^◌, ◌≤◌, ◌<◌, get_or, Ok}
use Rattle.rules.specs.Layout.{frame_size, spectrum_length, factor_length, side_length}
use Rattle.rules.specs.Refusals.{Outcome, stage_outcome}
use Rattle.rules.specs.declared.Delivery.{Delivery}
use Rattle.rules.specs.declared.Layout.{Layout}
use Rattle.rules.specs.declared.StageRoom.{StageRoom}
use Rattle.rules_line.specs.Line.{answers_of}
use Rattle.rules_line.specs.declared.Tally.{Tally}

-- a tally on the way: 65,535 frames of under 2^20 bits each raise no count by 2^36
pub record OnTheWay (tally : Tally) : Type 0 where
  pub frames : tally.frames ≤ 2 ^ 63 + 2 ^ 36
  pub bits : tally.bits ≤ 2 ^ 63 + 2 ^ 36
  pub pairs : tally.pairs ≤ 2 ^ 63 + 2 ^ 36

-- what the single call answers that delivers d
abbrev pub delivered_outcome : (d : Delivery) → Outcome
delivered_outcome d = stage_outcome (Ok d)

-- a delivered frame's answers fit their places
unfoldable pub AnswersFit : (o : Outcome) → Type 0
AnswersFit o = (i : ℕ) → get_or (answers_of o) i 0 < 2 ^ 32

-- `batch_fits` and `line_has_room` as facts
pub record Batch (count : ℕ) (tally : Tally) : Type 0 where
  pub few : count ≤ 65535
  pub frames : tally.frames ≤ 2 ^ 63
  pub bits : tally.bits ≤ 2 ^ 63
  pub pairs : tally.pairs ≤ 2 ^ 63

pub record LineHasRoom (l : Layout) (count : ℕ) (room : StageRoom) (places : ℕ) : Type 0 where
  pub spectra : count * spectrum_length l ≤ room.spectra
  pub intensities : count * side_length l ≤ room.intensities
  pub scaled : spectrum_length l ≤ room.scaled
  pub factors : factor_length l ≤ room.stored.factors
  pub side : side_length l ≤ room.stored.side
  pub codes : spectrum_length l ≤ room.stored.codes
  pub frames : count * frame_size l ≤ room.stored.frame
  pub answers : count * 4 ≤ places
