-- **Frame**: subframe by subframe, channel by channel, the codes; in the buffer they lie by channel, subframe and band, C x 1,024.
use Rattle.std.specs.Prelude.{◌≡◌, List, ℕ, ◌+◌, ◌*◌, ◌<◌, ℤ, pos, take}
use Rattle.buffers.specs.Walk.{build, blocks}
use Rattle.rules.specs.Format.{Read, Reader, each, times}
use Rattle.rules.specs.Layout.{coded_count_at, part}
use Rattle.rules.specs.Record.{codes_in, pad}
use Rattle.resolutions.specs.Coded.{coded_resolutions}
use Rattle.rules.specs.Reading.{read_code}
use Rattle.rules.specs.declared.Layout.{Layout}
use Rattle.reader_channels.specs.Steps.{Step, Done, if_done}

-- a row of 128 codes that is zero past its coded count
abbrev pub Blank : (coded : ℕ) (row : List ℤ) → Type 0
Blank coded row = row ≡ pad (pos 0) 128 (take coded row)

-- what reading a row tells of a reader's result x
pub record StoredCodes (frame : List ℕ) (x : Read (List ℤ)) (coded : ℕ) (row : List ℤ) (r : Step) : Type 0 where
  pub done : Done frame x (take coded row) r
  pub blank : if_done r (Blank coded row)

-- the resolutions of every channel's coded bands, from the C x 128 of `rs`
unfoldable pub coded_rows : (l : Layout) (rs : List ℕ) → List (List ℕ)
coded_rows l rs = build (coded_resolutions l rs) l.channels

-- one subframe, channel by channel; and the eight
abbrev pub read_subframe : (l : Layout) (rs : List ℕ) → Reader (List (List ℤ))
read_subframe l rs = each (each read_code) (coded_rows l rs)

abbrev pub read_subframes : (l : Layout) (rs : List ℕ) → Reader (List (List (List ℤ)))
read_subframes l rs = each (λ _. read_subframe l rs) (times 8)

-- a channel's row of a subframe
abbrev pub row_of : (codes : List ℤ) (channel subframe : ℕ) → List ℤ
row_of codes channel subframe = part 128 codes (channel * 8 + subframe)

-- the coded codes of a subframe
abbrev pub subframe_in : (l : Layout) (codes : List ℤ) (subframe : ℕ) → List (List ℤ)
subframe_in l codes subframe = build (λ c. take (coded_count_at l c) (row_of codes c subframe)) l.channels

-- what reading subframe s tells of a reader's result x: the subframe's rows are stored, and no other row changes
pub record Subframe (l : Layout) (frame : List ℕ) (x : Read (List (List ℤ))) (s : ℕ) (before after : List ℤ) (r : Step) : Type 0 where
  pub done : Done frame x (subframe_in l after s) r
  pub blank : if_done r ((c : ℕ) → c < l.channels → Blank (coded_count_at l c) (row_of after c s))
  pub kept : if_done r ((c t : ℕ) → c < l.channels → t < 8 → (t ≡ s → ⊥) → row_of after c t ≡ row_of before c t)

-- what reading all eight tells: the buffer holds the codes that were read, and zeros
pub record Subframes (l : Layout) (frame : List ℕ) (x : Read (List (List (List ℤ)))) (codes : List ℤ) (r : Step) : Type 0 where
  pub done : Done frame x (build (λ s. build (codes_in l codes s) l.channels) 8) r
  pub blank : if_done r (codes ≡ blocks (λ c. blocks (λ s. pad (pos 0) 128 (codes_in l codes s c)) 8) l.channels)
