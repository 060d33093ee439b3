-- So many samples from a body on lie in the file.
use Rattle.std.specs.Prelude.{◌≡◌, List, true, ℕ, ◌+◌, ◌*◌, ◌≤◌, length}
use Rattle.rules_files.specs.Wav.{is_depth, sample_width}

pub record SamplesInside (wav : List ℕ) (depth body n : ℕ) : Type 0 where
  pub known : is_depth depth ≡ true
  pub ends : body + n * sample_width depth ≤ length wav
  pub few : n ≤ 16777216
