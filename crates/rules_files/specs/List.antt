-- Request A7, **List beside the bank**: its bytes, and each of its four calls whole, refused ones too.
use Rattle.std.specs.Prelude.{List, [], ◌∷◌, ◌++◌, Bool, cond, not, ◌&&◌, ℕ, zero, suc, ◌+◌, ◌*◌, max, leb, ltb, eqb, length, get_or, take, drop}
use Rattle.std.specs.Prelude.{Result, Ok, Err}
use Rattle.buffers.specs.Walk.{sum_to, blocks, every}
use Rattle.numbers.specs.Numbers.{high_first, of_high}
use Rattle.rules.specs.Layout.{part}
use Rattle.rules.specs.Lent.{overwrite}
use Rattle.rules.specs.Refusals.{Outcome, delivered, refused}
use Rattle.rules_files.specs.declared.list.Entry.{Entry}
use Rattle.rules_files.specs.declared.list.Summary.{Summary}
use Rattle.rules_files.specs.declared.list.ListFault.{ListFault}
use Rattle.rules_files.specs.declared.list.ListFault.TheVariants as found
use Rattle.rules_files.specs.declared.list.ListWriteRefusal.{ListWriteRefusal}
use Rattle.rules_files.specs.declared.list.ListWriteRefusal.TheVariants as write
use Rattle.rules_files.specs.declared.list.ListReadRefusal.{ListReadRefusal}
use Rattle.rules_files.specs.declared.list.ListReadRefusal.TheVariants as read
use Rattle.rules_files.specs.declared.list.EntryRefusal.{EntryRefusal}
use Rattle.rules_files.specs.declared.list.EntryRefusal.TheVariants as look
use Rattle.rules_files.specs.declared.list.SummaryRefusal.{SummaryRefusal}
use Rattle.rules_files.specs.declared.list.SummaryRefusal.TheVariants as sum

-- AN ENTRY: level (16 bits), boundary (8), pairs removed (8) and bits written (32), high byte first
unfoldable pub entry_bytes : (entry : Entry) → List ℕ
entry_bytes entry = high_first 2 entry.level ++ (high_first 1 entry.boundary ++ (high_first 1 entry.pairs ++ high_first 4 entry.bits))

-- and back, of its eight bytes
unfoldable pub entry_from : (bytes : List ℕ) → Entry
entry_from bytes = record {
  level = of_high (take 2 bytes);
  boundary = of_high (take 1 (drop 2 bytes));
  pairs = of_high (take 1 (drop 3 bytes));
  bits = of_high (take 4 (drop 4 bytes));
}

-- in memory: four numbers a frame, frame after frame, as the stage answers them
abbrev pub entry_numbers : (entry : Entry) → List ℕ
entry_numbers entry = entry.level ∷ entry.boundary ∷ entry.pairs ∷ entry.bits ∷ []

unfoldable pub entry_at : (entries : List ℕ) (frame : ℕ) → Entry
entry_at entries frame = record {
  level = get_or entries (frame * 4) 0;
  boundary = get_or entries (frame * 4 + 1) 0;
  pairs = get_or entries (frame * 4 + 2) 0;
  bits = get_or entries (frame * 4 + 3) 0;
}

-- refusal 21 is a level above 511, a boundary above 127 or pairs above 63, in any of the frames
unfoldable pub legal_entry : (entry : Entry) → Bool
legal_entry entry = leb entry.level 511 && (leb entry.boundary 127 && leb entry.pairs 63)

unfoldable pub legal_entries : (frames : ℕ) (entries : List ℕ) → Bool
legal_entries frames entries = every (λ i. legal_entry (entry_at entries i)) frames

-- THE LIST: `VFI`, a 16-bit version 1, a 32-bit frame count; then the entries
unfoldable pub list_head : (frames : ℕ) → List ℕ
list_head frames = high_first 3 0x564649 ++ (high_first 2 1 ++ high_first 4 frames)

unfoldable pub list_of : (frames : ℕ) (entries : List ℕ) → List ℕ
list_of frames entries = list_head frames ++ blocks (λ i. entry_bytes (entry_at entries i)) frames

-- and back: the frames that its head counts, and their 4n numbers
abbrev pub frames_in : (list : List ℕ) → ℕ
frames_in list = of_high (take 4 (drop 5 list))

abbrev pub entry_in : (list : List ℕ) (frame : ℕ) → Entry
entry_in list frame = entry_from (part 8 (drop 9 list) frame)

unfoldable pub entries_of : (list : List ℕ) → List ℕ
entries_of list = blocks (λ i. entry_numbers (entry_in list i)) (frames_in list)

-- THE JUDGEMENT that reader, lookup and summary share
-- refusal 19 is under 9 bytes, a wrong mark or a wrong version
unfoldable pub is_marked : (list : List ℕ) → Bool
is_marked list = leb 9 (length list) && (eqb (of_high (take 3 list)) 0x564649 && eqb (of_high (take 2 (drop 3 list))) 1)

-- 19, then 20: a length that does not match the count; then 21
unfoldable pub judged_list : (list : List ℕ) → Result ℕ ListFault
judged_list list =
    cond (not (is_marked list)) (Err found.BadMark)
    (cond (not (eqb (length list) (9 + frames_in list * 8))) (Err found.BadLength)
    (cond (not (legal_entries (frames_in list) (entries_of list))) (Err (found.BadEntry (frames_in list))) (Ok (frames_in list))))

-- THE SUMMARY: the highest level, the most pairs, the total of bits, each from 0
unfoldable pub max_to : (f : ℕ → ℕ) (n : ℕ) → ℕ
max_to f zero = 0
max_to f (suc n) = max (max_to f n) (f n)

unfoldable pub summary_of : (frames : ℕ) (entries : List ℕ) → Summary
summary_of frames entries = record {
  level = max_to (λ i. (entry_at entries i).level) frames;
  pairs = max_to (λ i. (entry_at entries i).pairs) frames;
  bits = sum_to (λ i. (entry_at entries i).bits) frames;
}

abbrev pub summary_numbers : (s : Summary) → List ℕ
summary_numbers s = s.level ∷ s.pairs ∷ s.bits ∷ []

-- WHAT A FAULT IS TO A CALL THAT REFUSES FOR IT
-- the reader has so many places: where the count is known, 2 comes first
abbrev pub read_refusal_of : (fault : ListFault) (places : ℕ) → ListReadRefusal
read_refusal_of found.BadMark places = read.BadMark
read_refusal_of found.BadLength places = read.BadLength
read_refusal_of (found.BadEntry n) places = cond (ltb places (n * 4)) read.ShortBuffer read.BadEntry

abbrev pub entry_refusal_of : (fault : ListFault) → EntryRefusal
entry_refusal_of found.BadMark = look.BadMark
entry_refusal_of found.BadLength = look.BadLength
entry_refusal_of (found.BadEntry n) = look.BadEntry

abbrev pub summary_refusal_of : (fault : ListFault) → SummaryRefusal
summary_refusal_of found.BadMark = sum.BadMark
summary_refusal_of found.BadLength = sum.BadLength
summary_refusal_of (found.BadEntry n) = sum.BadEntry

-- THE NUMBERS OF EACH ANSWER
-- the writer: 2, 21
unfoldable pub list_written_outcome : (answer : Result (Unit {0}) ListWriteRefusal) → Outcome
list_written_outcome (Ok x) = delivered []
list_written_outcome (Err write.ShortBuffer) = refused 2 0
list_written_outcome (Err write.BadEntry) = refused 21 0

-- the reader: 19, 20, 2, 21
unfoldable pub list_read_outcome : (answer : Result ℕ ListReadRefusal) → Outcome
list_read_outcome (Ok frames) = delivered (frames ∷ [])
list_read_outcome (Err read.ShortBuffer) = refused 2 0
list_read_outcome (Err read.BadMark) = refused 19 0
list_read_outcome (Err read.BadLength) = refused 20 0
list_read_outcome (Err read.BadEntry) = refused 21 0

-- the lookup: 19, 20, 21, 31
unfoldable pub entry_outcome : (answer : Result Entry EntryRefusal) → Outcome
entry_outcome (Ok entry) = delivered (entry_numbers entry)
entry_outcome (Err look.BadMark) = refused 19 0
entry_outcome (Err look.BadLength) = refused 20 0
entry_outcome (Err look.BadEntry) = refused 21 0
entry_outcome (Err look.NoFrame) = refused 31 0

-- the summary: 19, 20, 21
unfoldable pub summary_outcome : (answer : Result Summary SummaryRefusal) → Outcome
summary_outcome (Ok s) = delivered (summary_numbers s)
summary_outcome (Err sum.BadMark) = refused 19 0
summary_outcome (Err sum.BadLength) = refused 20 0
summary_outcome (Err sum.BadEntry) = refused 21 0

-- EACH CALL WHOLE: its answer, and what is left in a lent buffer. A refusal changes nothing.
pub record ListLeft : Type 0 where
  pub outcome : Outcome
  pub list : List ℕ

abbrev pub list_left : (answer : Result (Unit {0}) ListWriteRefusal) (list : List ℕ) → ListLeft
list_left answer list = record { outcome = list_written_outcome answer; list = list }

-- the writer: 2 for the numbers, 2 for the bytes, 21
unfoldable pub write_list : (frames : ℕ) (entries list : List ℕ) → ListLeft
write_list frames entries list =
    cond (ltb (length entries) (frames * 4)) (record { outcome = refused 2 0; list = list })
    (cond (ltb (length list) (9 + frames * 8)) (record { outcome = refused 2 0; list = list })
    (cond (not (legal_entries frames entries)) (record { outcome = refused 21 0; list = list })
    (record { outcome = delivered []; list = overwrite (list_of frames entries) list })))

pub record EntriesLeft : Type 0 where
  pub outcome : Outcome
  pub entries : List ℕ

abbrev pub entries_left : (answer : Result ℕ ListReadRefusal) (entries : List ℕ) → EntriesLeft
entries_left answer entries = record { outcome = list_read_outcome answer; entries = entries }

-- the reader: 2 stands between 20, where the count is known, and 21
unfoldable pub read_list_as : (judgement : Result ℕ ListFault) (list entries : List ℕ) → EntriesLeft
read_list_as (Err found.BadMark) list entries = record { outcome = refused 19 0; entries = entries }
read_list_as (Err found.BadLength) list entries = record { outcome = refused 20 0; entries = entries }
read_list_as (Err (found.BadEntry n)) list entries = record { outcome = cond (ltb (length entries) (n * 4)) (refused 2 0) (refused 21 0); entries = entries }
read_list_as (Ok n) list entries =
    cond (ltb (length entries) (n * 4)) (record { outcome = refused 2 0; entries = entries })
    (record { outcome = delivered (n ∷ []); entries = overwrite (entries_of list) entries })

unfoldable pub read_list : (list entries : List ℕ) → EntriesLeft
read_list list entries = read_list_as (judged_list list) list entries

-- the lookup: 31 comes after the whole list was judged
unfoldable pub list_entry_as : (judgement : Result ℕ ListFault) (list : List ℕ) (frame : ℕ) → Outcome
list_entry_as (Err found.BadMark) list frame = refused 19 0
list_entry_as (Err found.BadLength) list frame = refused 20 0
list_entry_as (Err (found.BadEntry n)) list frame = refused 21 0
list_entry_as (Ok n) list frame = cond (ltb frame n) (delivered (entry_numbers (entry_in list frame))) (refused 31 0)

unfoldable pub list_entry : (list : List ℕ) (frame : ℕ) → Outcome
list_entry list frame = list_entry_as (judged_list list) list frame

unfoldable pub list_summary_as : (judgement : Result ℕ ListFault) (list : List ℕ) → Outcome
list_summary_as (Err found.BadMark) list = refused 19 0
list_summary_as (Err found.BadLength) list = refused 20 0
list_summary_as (Err (found.BadEntry n)) list = refused 21 0
list_summary_as (Ok n) list = delivered (summary_numbers (summary_of n (entries_of list)))

unfoldable pub list_summary : (list : List ℕ) → Outcome
list_summary list = list_summary_as (judged_list list) list
