-- A row of a channel, and what reading it tells of a reader's result x. `s` are the bytes after the sync.
use Rattle.std.specs.Prelude.{◌≡◌, List, ℕ, ◌<◌, take, get_or}
use Rattle.rules.specs.Format.{Read}
use Rattle.rules.specs.Record.{pad}
use Rattle.reader_channels.specs.Steps.{Step, Done, if_done}

-- a row: its first `count` values are written, each below 64, and the others are 0
pub record Row (count size : ℕ) (row : List ℕ) : Type 0 where
  pub padded : row ≡ pad 0 size (take count row)
  pub small : (i : ℕ) → get_or row i 0 < 64

-- `count` values that were read into a row
pub record StoredRow (s : List ℕ) (x : Read (List ℕ)) (count size : ℕ) (row : List ℕ) (r : Step) : Type 0 where
  pub done : Done s x (take count row) r
  pub held : if_done r (Row count size row)
