-- Document 01, **Refusal numbers**: what was found, as the rules say what a scan leaves. `s` is the part of a frame between its sync
-- and its check; F, S and C are the factors', the side's and the codes' buffers.
use Rattle.std.specs.Prelude.{◌≡◌, List, Result, Ok, Err, ℕ, ◌+◌, ℤ, length}
use Rattle.bits.specs.Bits.{bits_of}
use Rattle.rules.specs.Format.{pure}
use Rattle.rules.specs.Layout.{factor_length, side_length, spectrum_length}
use Rattle.rules.specs.Record.{Rec, rec_of, store_factors, store_side, store_codes}
use Rattle.rules.specs.Reading.{read_record, Scanned, after_fields}
use Rattle.rules.specs.Lent.{no_factors, no_side, no_codes}
use Rattle.rules.specs.Reader.{ReaderLeft, reader_left}
use Rattle.rules.specs.declared.Layout.{Layout}
use Rattle.rules.specs.declared.RecordDelivery.{RecordDelivery}
use Rattle.rules.specs.declared.ReadRefusal.{ReadRefusal}
use Rattle.reader_channels.specs.Started.{Opened, HeadAgrees}

-- the buffers hold what a record is stored as
pub record Holds (l : Layout) (r : Rec) (F S : List ℕ) (C : List ℤ) : Type 0 where
  pub factors : store_factors l r ≡ F
  pub side : store_side l r ≡ S
  pub codes : store_codes l r ≡ C

-- EVERY FIELD was read: the record lies in the buffers
abbrev pub FieldsRead : (l : Layout) (s F S : List ℕ) (C : List ℤ) (r : Opened) → Type 0
FieldsRead l s F S C r =
    HeadAgrees l s (λ level boundary. pure (rec_of l level boundary F S C)) (λ level boundary. Holds l (rec_of l level boundary F S C) F S C) r

-- THE SCAN of what follows the sync, its bits counted from the frame's first
abbrev pub scan_part : (l : Layout) (s : List ℕ) → Scanned
scan_part l s = after_fields (length (bits_of s) + 16) (read_record l (bits_of s))

-- what is to be left after an answer: the record that lies in the buffers, or zeros
abbrev pub found_left : (l : Layout) (F S : List ℕ) (C : List ℤ) (r : Result RecordDelivery ReadRefusal) → ReaderLeft
found_left l F S C (Ok found) = reader_left (Ok found) F S C
found_left l F S C (Err refusal) = reader_left (Err refusal) (no_factors l) (no_side l) (no_codes l)

-- THE BUFFERS' LENGTHS, just as stated
pub record ReaderLengths (l : Layout) (factor_count side_count code_count : ℕ) : Type 0 where
  pub factors : factor_count ≡ factor_length l
  pub side : side_count ≡ side_length l
  pub codes : code_count ≡ spectrum_length l
