-- A refusal is told by two numbers. Assumes nothing.
use mathlib.Core.Path.{◌≡◌, sym, subst}
use mathlib.Core.List.{List}
use Prim.Native.Nat.{ℕ, ◌≤◌, ◌<◌}
use native.Mathlib.Omega.{arith}
use Rattle.std.specs.Prelude.{Err}
use Rattle.rules.specs.Refusals.{Outcome, refused, stage_outcome, writer_outcome, reader_outcome}
use Rattle.rules.specs.declared.StageRefusal.{StageRefusal}
use Rattle.rules.specs.declared.StageRefusal.TheVariants as stage
use Rattle.rules.specs.declared.WriteRefusal.{WriteRefusal}
use Rattle.rules.specs.declared.WriteRefusal.TheVariants as write
use Rattle.rules.specs.declared.ReadRefusal.{ReadRefusal}
use Rattle.rules.specs.declared.ReadRefusal.TheVariants as read
use Rattle.rules_stereo.specs.Stereo.{stereo_outcome}
use Rattle.rules_stereo.specs.declared.StereoRefusal.{StereoRefusal}
use Rattle.rules_stereo.specs.declared.StereoRefusal.TheVariants.{TooLoud, Stage}
use Rattle.refusals.specs.Refusals.{refusal_of}
use Rattle.refusals.specs.declared.Refusal.{Refusal}
use Rattle.hca_answers.specs.Outcomes.{Small, AnswerStored}
use Rattle.hca_answers.proofs.Fitting.{of-refused}

-- a refusal, its number at most 17
pub data Refuses : Outcome → Type 0 where
  refuses : (number beside : ℕ) → number ≤ 17 → Refuses (refused number beside)

-- ---- each call's

pub stage_refuses : (r : StageRefusal) → Refuses (stage_outcome (Err r))
unfolding stage_outcome
stage_refuses stage.BadLayout = refuses 1 0 (omega arith)
stage_refuses stage.ShortBuffer = refuses 2 0 (omega arith)
stage_refuses (stage.BadIntensity i) = refuses 3 i (omega arith)
stage_refuses (stage.BadSpectrum i) = refuses 4 i (omega arith)
stage_refuses (stage.NoLevel pairs) = refuses 5 pairs (omega arith)
stage_refuses (stage.TooLong bits) = refuses 7 bits (omega arith)

pub stereo_refuses : (r : StereoRefusal) → Refuses (stereo_outcome (Err r))
unfolding stereo_outcome
stereo_refuses TooLoud = refuses 17 0 (omega arith)
stereo_refuses (Stage r) = stage_refuses r

pub write_refuses : (r : WriteRefusal) → Refuses (writer_outcome (Err r))
unfolding writer_outcome
write_refuses write.BadLayout = refuses 1 0 (omega arith)
write_refuses write.ShortBuffer = refuses 2 0 (omega arith)
write_refuses write.NotLegal = refuses 15 0 (omega arith)
write_refuses (write.TooLong bits) = refuses 7 bits (omega arith)

pub read_refuses : (r : ReadRefusal) → Refuses (reader_outcome (Err r))
unfolding reader_outcome
read_refuses read.BadLayout = refuses 1 0 (omega arith)
read_refuses read.ShortBuffer = refuses 2 0 (omega arith)
read_refuses read.WrongCheck = refuses 8 0 (omega arith)
read_refuses read.WrongSync = refuses 9 0 (omega arith)
read_refuses (read.BadWidth bit) = refuses 11 bit (omega arith)
read_refuses (read.BadFactor bit) = refuses 12 bit (omega arith)
read_refuses (read.PastEnd bit) = refuses 13 bit (omega arith)
read_refuses (read.FillNotZero bit) = refuses 14 bit (omega arith)

-- ---- what is told of it

pub refusal-fits : (o : Outcome) (r : Refusal) → Refuses o → r ≡ refusal_of o → Small o → (r.number < 4294967296) × (r.beside < 4294967296)
unfolding refusal_of
refusal-fits o r (refuses number beside k) e h =
    subst (λ (x : Refusal). (x.number < 4294967296) × (x.beside < 4294967296)) (sym e) (omega arith, of-refused number beside h)

pub refusal-stored : (o : Outcome) (r : Refusal) {result : ℕ} {before after : List ℕ} → Refuses o → r ≡ refusal_of o
    → AnswerStored (refused r.number r.beside) result before after → AnswerStored o result before after
unfolding refusal_of
refusal-stored o r {result} {before} {after} (refuses number beside k) e h =
    subst (λ (x : Refusal). AnswerStored (refused x.number x.beside) result before after) e h
