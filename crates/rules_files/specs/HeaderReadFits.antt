-- Request A14: what a header says fits C's numbers; the bounds that the reader promises beside its answer. No rule of the format stands here.
use Rattle.std.specs.Prelude.{ℕ, ◌<◌, Option, Some, None, Result, Ok, Err}
use Rattle.rules_files.specs.declared.header.LoopFields.{LoopFields}
use Rattle.rules_files.specs.declared.header.FileHeader.{FileHeader}
use Rattle.rules_files.specs.declared.header.HeaderReadRefusal.{HeaderReadRefusal}

abbrev pub Word : (n : ℕ) → Type 0
Word n = n < 4294967296

-- a loop's four numbers
pub record LoopWords (f : LoopFields) : Type 0 where
  pub first : Word f.start_frame
  pub last : Word f.end_frame
  pub delay : Word f.delay
  pub padding : Word f.padding

unfoldable pub LoopFits : (loop : Option LoopFields) → Type 0
LoopFits None = Unit {0}
LoopFits (Some f) = LoopWords f

pub record FieldsFit (f : FileHeader) : Type 0 where
  pub channels : Word f.channels
  pub base : Word f.base
  pub stereo : Word f.stereo
  pub total : Word f.total
  pub size : Word f.frame_size
  pub minimum : Word f.minimum
  pub maximum : Word f.maximum
  pub rate : Word f.rate
  pub frames : Word f.frames
  pub padding : Word f.padding
  pub points : LoopFits f.points

unfoldable pub ReadFits : (answer : Result FileHeader HeaderReadRefusal) → Type 0
ReadFits (Ok f) = FieldsFit f
ReadFits (Err e) = Unit {0}
