-- What reading the channels tells of a reader's result x. `s` are the bytes after the sync.
use Rattle.std.specs.Prelude.{List, ℕ, ◌<◌}
use Rattle.buffers.specs.Walk.{build}
use Rattle.rules.specs.Format.{Read}
use Rattle.rules.specs.Layout.{coded_count_at, side_count_at, part}
use Rattle.rules.specs.Record.{Chan, chan_in, chan_of}
use Rattle.rules.specs.declared.Layout.{Layout}
use Rattle.reader_channels.specs.Steps.{Step, Done, if_done}
use Rattle.reader_channels.specs.StoredRow.{Row}

-- channel c's factors and side values
pub record StoredChannel (l : Layout) (c : ℕ) (s : List ℕ) (x : Read Chan) (factors side : List ℕ) (r : Step) : Type 0 where
  pub done : Done s x (chan_in l c factors side) r
  pub rows : if_done r (Row (coded_count_at l c) 128 factors × Row (side_count_at l c) 8 side)

-- every channel's, each in its part of the buffers
abbrev pub Rows : (l : Layout) (factors side : List ℕ) (count : ℕ) → Type 0
Rows l factors side count = (c : ℕ) → c < count → Row (coded_count_at l c) 128 (part 128 factors c) × Row (side_count_at l c) 8 (part 8 side c)

pub record StoredChannels (l : Layout) (s : List ℕ) (x : Read (List Chan)) (factors side : List ℕ) (r : Step) : Type 0 where
  pub done : Done s x (build (chan_of l factors side) l.channels) r
  pub rows : if_done r (Rows l factors side l.channels)
