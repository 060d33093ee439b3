-- The stage behind its gate, in buffers of exactly document 01's lengths: what its parts promise each other.
use Rattle.std.specs.Prelude.{◌≡◌, List, cond, ℕ, ltb, ℤ, Float, length}
use Rattle.rules.specs.Layout.{frame_size, spectrum_length, factor_length, side_length}
use Rattle.rules.specs.Level.{LevelFound}
use Rattle.rules.specs.Resolution.{all_resolutions}
use Rattle.rules.specs.Code.{all_codes}
use Rattle.rules.specs.Record.{rec_of}
use Rattle.rules.specs.Fields.{fields}
use Rattle.rules.specs.Frame.{field_end, frame_of}
use Rattle.rules.specs.Refusals.{Outcome, delivered, refused}
use Rattle.rules.specs.Lent.{no_frame}
use Rattle.rules.specs.Stage.{StageLeft, cleared}
use Rattle.rules.specs.declared.Layout.{Layout}

-- the lengths of what is written
pub record ExactBuffers (l : Layout) (sc co fa si fr : ℕ) : Type 0 where
  pub scaled : sc ≡ spectrum_length l
  pub codes : co ≡ spectrum_length l
  pub factors : fa ≡ factor_length l
  pub side : si ≡ side_length l
  pub frame : fr ≡ frame_size l

-- codes and frame of level, boundary, scaled values, factors and side values, and how many bits the fields are
pub record Delivers (l : Layout) (level boundary : ℕ) (scaled : List Float) (factors side : List ℕ) (n : ℕ) (codes : List ℤ) (frame : List ℕ) : Type 0 where
  pub coded : codes ≡ all_codes l (all_resolutions l level boundary factors) scaled
  pub bits : n ≡ length (fields l (rec_of l level boundary factors side codes))
  pub stored : frame ≡ cond (ltb (field_end l) n) (no_frame l) (frame_of l (rec_of l level boundary factors side codes))

-- a late refusal leaves zeros, a success what it made
unfoldable pub wiped_by : (l : Layout) (o : Outcome) (x : StageLeft) → StageLeft
wiped_by l (delivered ns) x = x
wiped_by l (refused number beside) x = cleared l (refused number beside)

unfoldable pub wiped : (l : Layout) (x : StageLeft) → StageLeft
wiped l x = wiped_by l x.outcome x

abbrev pub found_as : (level pairs : ℕ) (factors : List ℕ) → LevelFound
found_as level pairs factors = record { level = level; pairs = pairs; factors = factors }
