-- What stands in a WAV file's fields fits its places: bounds that the code hands on beside the answers.
use Rattle.std.specs.Prelude.{List, ℕ, ◌≤◌, ◌<◌, length, Option, Some, None, Result, Ok, Err}
use Rattle.rules_files.specs.declared.wav.WavFormat.{WavFormat}
use Rattle.rules_files.specs.declared.wav.WavData.{WavData}
use Rattle.rules_files.specs.declared.wav.Take.{Take}
use Rattle.rules_files.specs.declared.wav.WavRefusal.{WavRefusal}

pub record FormatFits (f : WavFormat) : Type 0 where
  pub channels : f.channels < 65536
  pub rate : f.rate < 4294967296
  pub depth : f.depth < 65536

pub record DataFits (wav : List ℕ) (d : WavData) : Type 0 where
  pub fields : FormatFits d.format
  pub body : d.body ≤ length wav
  pub size : d.size < 4294967296

unfoldable pub WalkFits : (wav : List ℕ) (end : Option WavData) → Type 0
WalkFits wav (Some d) = DataFits wav d
WalkFits wav None = Unit {0}

-- every number of a take fits 32 bits
unfoldable pub TakeFits : (answer : Result Take WavRefusal) → Type 0
TakeFits (Ok t) = (t.channels < 65536) × (t.rate < 4294967296) × (t.depth < 65536) × (t.count ≤ 16777216)
TakeFits (Err e) = Unit {0}
