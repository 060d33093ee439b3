-- Request A7, **List beside the bank**: when a frame's own record was handed back, so that its entry has its bits.
use Rattle.std.specs.Prelude.{◌≡◌, take}
use Rattle.rules.specs.Layout.{factor_length, side_length, spectrum_length}
use Rattle.rules.specs.Stage.{StageLent, encode_frame}
use Rattle.rules.specs.Reader.{ReaderLent, read_frame}
use Rattle.rules.specs.declared.Layout.{Layout}

-- the reader left the stage's factors, side and codes, over the stated lengths: the frame's own record
pub record OwnRecord (l : Layout) (t : StageLent) (u : ReaderLent) : Type 0 where
  pub factors : take (factor_length l) (read_frame l u).factors ≡ take (factor_length l) (encode_frame l t).factors
  pub side : take (side_length l) (read_frame l u).side ≡ take (side_length l) (encode_frame l t).side
  pub codes : take (spectrum_length l) (read_frame l u).codes ≡ take (spectrum_length l) (encode_frame l t).codes
