-- The list's definitions worked out on request A7's example and on its corners. Assumes nothing.
use mathlib.Core.Path.{◌≡◌, refl, sym, ap}
use mathlib.Core.List.{List, [], ◌∷◌, ◌++◌, map}
use mathlib.Core.Bool.{Bool, true, false}
use Prim.Native.Nat.{ℕ}
use native.Mathlib.Omega.{arith}
use lib.ListN.{length, replicate, length-append}
use Rattle.std.specs.Prelude.{Result, Ok, Err}
use Rattle.buffers.specs.Walk.{sum_to, blocks, every}
use Rattle.numbers.specs.Numbers.{high_first, of_high}
use Rattle.rules.specs.Refusals.{Outcome, delivered, refused}
use Rattle.rules_files.specs.List.{entry_bytes, entry_from, entry_at, legal_entry, legal_entries, list_head, list_of, frames_in, entries_of, is_marked, judged_list}
use Rattle.rules_files.specs.List.{max_to, summary_of, ListLeft, write_list, read_list_as, read_list, list_entry_as, list_entry, list_summary_as, list_summary}
use Rattle.rules_files.specs.List.{list_written_outcome, list_read_outcome, entry_outcome, summary_outcome}
use Rattle.rules_files.specs.declared.list.ListFault.{ListFault}
use Rattle.rules_files.specs.declared.list.ListWriteRefusal.TheVariants as write
use Rattle.rules_files.specs.declared.list.ListReadRefusal.TheVariants as read
use Rattle.rules_files.specs.declared.list.EntryRefusal.TheVariants as look
use Rattle.rules_files.specs.declared.list.SummaryRefusal.TheVariants as sum
use Rattle.numbers.proofs.HighFirst.{high-length}
use Rattle.rules_files.proofs.Lists.{judged-length}

-- (12, 40, 0, 1314), (254, 127, 63, 4294967295), (511, 0, 7, 0)
pub three_entries : List ℕ
three_entries = 12 ∷ 40 ∷ 0 ∷ 1314 ∷ 254 ∷ 127 ∷ 63 ∷ 4294967295 ∷ 511 ∷ 0 ∷ 7 ∷ 0 ∷ []

pub three_bytes : List ℕ
three_bytes =
    (0x56 ∷ 0x46 ∷ 0x49 ∷ 0x00 ∷ 0x01 ∷ 0x00 ∷ 0x00 ∷ 0x00 ∷ 0x03 ∷ [])
    ++ ((0x00 ∷ 0x0c ∷ 0x28 ∷ 0x00 ∷ 0x00 ∷ 0x00 ∷ 0x05 ∷ 0x22 ∷ [])
    ++ ((0x00 ∷ 0xfe ∷ 0x7f ∷ 0x3f ∷ 0xff ∷ 0xff ∷ 0xff ∷ 0xff ∷ []) ++ (0x01 ∷ 0xff ∷ 0x00 ∷ 0x07 ∷ 0x00 ∷ 0x00 ∷ 0x00 ∷ 0x00 ∷ [])))

pub three-written : list_of 3 three_entries ≡ three_bytes
unfolding three_entries three_bytes list_of list_head blocks entry_bytes entry_at high_first
three-written = refl

-- its head, lookups of the second frame and past the last, and its summary
pub three-found : (list_entry three_bytes 1 ≡ delivered (254 ∷ 127 ∷ 63 ∷ 4294967295 ∷ [])) × (list_entry three_bytes 3 ≡ refused 31 0)
unfolding three_bytes list_entry list_entry_as judged_list is_marked legal_entries legal_entry every entries_of blocks entry_at entry_from of_high
three-found = (refl, refl)

pub three_summed : list_summary three_bytes ≡ delivered (511 ∷ 63 ∷ 4294968609 ∷ [])
unfolding three_bytes list_summary list_summary_as summary_of max_to sum_to judged_list is_marked legal_entries legal_entry every entries_of blocks entry_at entry_from of_high
three_summed = refl

-- its head has three, two and four bytes, whatever they hold. Nothing is computed: a mark of 0x564649 bytes would have no end
pub head-length : (frames : ℕ) → length (list_head frames) ≡ 9
unfolding list_head
head-length frames = simp (length-append, high-length) refl

-- no frames
pub none_written : list_of 0 [] ≡ 0x56 ∷ 0x46 ∷ 0x49 ∷ 0x00 ∷ 0x01 ∷ 0x00 ∷ 0x00 ∷ 0x00 ∷ 0x00 ∷ []
unfolding list_of list_head blocks high_first
none_written = refl

pub none_summed : list_summary (0x56 ∷ 0x46 ∷ 0x49 ∷ 0x00 ∷ 0x01 ∷ 0x00 ∷ 0x00 ∷ 0x00 ∷ 0x00 ∷ []) ≡ delivered (0 ∷ 0 ∷ 0 ∷ [])
unfolding list_summary list_summary_as summary_of max_to sum_to judged_list is_marked legal_entries every entries_of blocks of_high
none_summed = refl

-- version 2, and a byte too many: 19 comes before 20
pub version-first : list_summary (0x56 ∷ 0x46 ∷ 0x49 ∷ 0x00 ∷ 0x02 ∷ 0x00 ∷ 0x00 ∷ 0x00 ∷ 0x00 ∷ 0x00 ∷ []) ≡ refused 19 0
unfolding list_summary list_summary_as judged_list is_marked legal_entries every entries_of blocks of_high
version-first = refl

-- level 512 in the last of three, looked up is the first; and of a frame that is not there: 21 comes before 31
pub bad_bytes : List ℕ
bad_bytes =
    (0x56 ∷ 0x46 ∷ 0x49 ∷ 0x00 ∷ 0x01 ∷ 0x00 ∷ 0x00 ∷ 0x00 ∷ 0x03 ∷ [])
    ++ ((0x00 ∷ 0x0c ∷ 0x28 ∷ 0x00 ∷ 0x00 ∷ 0x00 ∷ 0x05 ∷ 0x22 ∷ [])
    ++ ((0x00 ∷ 0xfe ∷ 0x7f ∷ 0x3f ∷ 0xff ∷ 0xff ∷ 0xff ∷ 0xff ∷ []) ++ (0x02 ∷ 0x00 ∷ 0x00 ∷ 0x07 ∷ 0x00 ∷ 0x00 ∷ 0x00 ∷ 0x00 ∷ [])))

pub whole-list-first : (list_entry bad_bytes 0 ≡ refused 21 0) × (list_entry bad_bytes 3 ≡ refused 21 0)
unfolding bad_bytes list_entry list_entry_as judged_list is_marked legal_entries legal_entry every entries_of blocks entry_at entry_from of_high
whole-list-first = (refl, refl)

-- 2 stands between 20 and 21: for three frames eleven places are short, though an entry is bad
pub short-first : (read_list bad_bytes (0 ∷ 0 ∷ 0 ∷ 0 ∷ 0 ∷ 0 ∷ 0 ∷ 0 ∷ 0 ∷ 0 ∷ 0 ∷ [])).outcome ≡ refused 2 0
unfolding bad_bytes read_list read_list_as judged_list is_marked legal_entries legal_entry every entries_of blocks entry_at entry_from of_high
short-first = refl

-- a count of 0x20000001 on seventeen bytes: in 32 bits eight times the count would wrap to 8
pub wrap_bytes : List ℕ
wrap_bytes = 0x56 ∷ 0x46 ∷ 0x49 ∷ 0x00 ∷ 0x01 ∷ 0x20 ∷ 0x00 ∷ 0x00 ∷ 0x01 ∷ 0 ∷ 0 ∷ 0 ∷ 0 ∷ 0 ∷ 0 ∷ 0 ∷ 0 ∷ []

wrap_marked : is_marked wrap_bytes ≡ true
unfolding wrap_bytes is_marked of_high
wrap_marked = refl

wrap_frames : frames_in wrap_bytes ≡ 0x20000001
unfolding wrap_bytes of_high
wrap_frames = refl

wrap_long : length wrap_bytes ≡ 17
unfolding wrap_bytes
wrap_long = refl

pub never_wraps : list_summary wrap_bytes ≡ refused 20 0
unfolding list_summary list_summary_as
never_wraps =
    ap (λ (j : Result ℕ ListFault). list_summary_as j wrap_bytes)
    (sym (judged-length wrap_bytes 0x20000001 wrap_marked (sym wrap_frames) (λ e. omega (arith, wrap_long))))

-- refusal 21's three limits are legal, and the next numbers are not
abbrev heard : (level boundary pairs : ℕ) → Bool
heard level boundary pairs = legal_entry (record { level = level; boundary = boundary; pairs = pairs; bits = 0 })

pub legal_row_lem : heard 511 127 63 ∷ heard 512 0 0 ∷ heard 0 128 0 ∷ heard 0 0 64 ∷ [] ≡ true ∷ false ∷ false ∷ false ∷ []
unfolding legal_entry
legal_row_lem = refl

-- eight bytes; a wrong mark; a wrong version; a byte too many; a byte too few; a bad entry
pub bad_lists : List (List ℕ)
bad_lists =
    (0x56 ∷ 0x46 ∷ 0x49 ∷ 0x00 ∷ 0x01 ∷ 0x00 ∷ 0x00 ∷ 0x00 ∷ [])
    ∷ (0x56 ∷ 0x46 ∷ 0x4A ∷ 0x00 ∷ 0x01 ∷ 0x00 ∷ 0x00 ∷ 0x00 ∷ 0x00 ∷ 0x00 ∷ [])
    ∷ (0x56 ∷ 0x46 ∷ 0x49 ∷ 0x01 ∷ 0x01 ∷ 0x00 ∷ 0x00 ∷ 0x00 ∷ 0x00 ∷ 0x00 ∷ [])
    ∷ (0x56 ∷ 0x46 ∷ 0x49 ∷ 0x00 ∷ 0x01 ∷ 0x00 ∷ 0x00 ∷ 0x00 ∷ 0x00 ∷ 0x00 ∷ [])
    ∷ (0x56 ∷ 0x46 ∷ 0x49 ∷ 0x00 ∷ 0x01 ∷ 0x00 ∷ 0x00 ∷ 0x00 ∷ 0x01 ∷ replicate 7 0)
    ∷ (0x56 ∷ 0x46 ∷ 0x49 ∷ 0x00 ∷ 0x01 ∷ 0x00 ∷ 0x00 ∷ 0x00 ∷ 0x01 ∷ 0x00 ∷ 0x00 ∷ 0x80 ∷ 0x00 ∷ 0x00 ∷ 0x00 ∷ 0x00 ∷ 0x00 ∷ [])
    ∷ []

abbrev their_numbers : List Outcome
their_numbers = refused 19 0 ∷ refused 19 0 ∷ refused 19 0 ∷ refused 20 0 ∷ refused 20 0 ∷ refused 21 0 ∷ []

-- looked up, summed, and read into seven places, which stay
pub bad-entry : map (λ list. list_entry list 0) bad_lists ≡ their_numbers
unfolding bad_lists list_entry list_entry_as judged_list is_marked legal_entries legal_entry every entries_of blocks entry_at entry_from of_high
bad-entry = refl

pub bad_summed : map list_summary bad_lists ≡ their_numbers
unfolding bad_lists list_summary list_summary_as judged_list is_marked legal_entries legal_entry every entries_of blocks entry_at entry_from of_high
bad_summed = refl

pub bad_read : (map (λ list. (read_list list (replicate 7 5)).outcome) bad_lists ≡ their_numbers)
    × (map (λ list. (read_list list (replicate 7 5)).entries) bad_lists ≡ replicate 6 (replicate 7 5))
unfolding bad_lists read_list read_list_as judged_list is_marked legal_entries legal_entry every entries_of blocks entry_at entry_from of_high
bad_read = (refl, refl)

-- the writer: three numbers for one frame, whether its bytes have room or not; sixteen bytes; a level of 512. What is lent stays. Then a longer buffer, whose
-- rest stays
abbrev writing : (entries : List ℕ) (bytes : ℕ) → ListLeft
writing entries bytes = write_list 1 entries (replicate bytes 5)

abbrev kept : (number bytes : ℕ) → ListLeft
kept number bytes = record { outcome = refused number 0; list = replicate bytes 5 }

pub bad-written :
    writing (512 ∷ 0 ∷ 0 ∷ []) 16 ∷ writing (0 ∷ 0 ∷ 0 ∷ []) 17 ∷ writing (512 ∷ 0 ∷ 0 ∷ 0 ∷ []) 16 ∷ writing (512 ∷ 0 ∷ 0 ∷ 0 ∷ []) 17 ∷ []
    ≡ kept 2 16 ∷ kept 2 17 ∷ kept 2 16 ∷ kept 21 17 ∷ []
unfolding write_list legal_entries legal_entry every entry_at
bad-written = refl

pub one_written : writing (0x102 ∷ 3 ∷ 4 ∷ 0x5060708 ∷ []) 18
    ≡ record { outcome = delivered []; list = 0x56 ∷ 0x46 ∷ 0x49 ∷ 0 ∷ 1 ∷ 0 ∷ 0 ∷ 0 ∷ 1 ∷ 1 ∷ 2 ∷ 3 ∷ 4 ∷ 5 ∷ 6 ∷ 7 ∷ 8 ∷ 5 ∷ [] }
unfolding write_list legal_entries legal_entry every entry_at list_of list_head blocks entry_bytes high_first
one_written = refl

-- read back: four numbers, and the rest stays
pub one_read : read_list (0x56 ∷ 0x46 ∷ 0x49 ∷ 0 ∷ 1 ∷ 0 ∷ 0 ∷ 0 ∷ 1 ∷ 1 ∷ 2 ∷ 3 ∷ 4 ∷ 5 ∷ 6 ∷ 7 ∷ 8 ∷ []) (replicate 5 9)
    ≡ record { outcome = delivered (1 ∷ []); entries = 0x102 ∷ 3 ∷ 4 ∷ 0x5060708 ∷ 9 ∷ [] }
unfolding read_list read_list_as judged_list is_marked legal_entries legal_entry every entries_of blocks entry_at entry_from of_high
one_read = refl

-- a bad entry and a good one, read into three and into four places: 2 before 21
abbrev read_into : (boundary places : ℕ) → Outcome
read_into boundary places = (read_list (0x56 ∷ 0x46 ∷ 0x49 ∷ 0 ∷ 1 ∷ 0 ∷ 0 ∷ 0 ∷ 1 ∷ 0 ∷ 0 ∷ boundary ∷ 0 ∷ 0 ∷ 0 ∷ 0 ∷ 0 ∷ []) (replicate places 5)).outcome

pub places_row : read_into 128 3 ∷ read_into 128 4 ∷ read_into 127 3 ∷ read_into 127 4 ∷ [] ≡ refused 2 0 ∷ refused 21 0 ∷ refused 2 0 ∷ delivered (1 ∷ []) ∷ []
unfolding read_list read_list_as judged_list is_marked legal_entries legal_entry every entries_of blocks entry_at entry_from of_high
places_row = refl

-- a mark or a version that is one less
pub marks_row : map is_marked ((0x56 ∷ 0x46 ∷ 0x48 ∷ 0 ∷ 1 ∷ replicate 4 0) ∷ (0x56 ∷ 0x46 ∷ 0x49 ∷ 0 ∷ 0 ∷ replicate 4 0) ∷ []) ≡ false ∷ false ∷ []
unfolding is_marked of_high
marks_row = refl

-- the number of each answer
pub list-numbers :
    (map list_written_outcome (Ok tt ∷ Err write.ShortBuffer ∷ Err write.BadEntry ∷ []) ≡ delivered [] ∷ refused 2 0 ∷ refused 21 0 ∷ [])
    × (map list_read_outcome (Ok 7 ∷ Err read.ShortBuffer ∷ Err read.BadMark ∷ Err read.BadLength ∷ Err read.BadEntry ∷ [])
    ≡ delivered (7 ∷ []) ∷ refused 2 0 ∷ refused 19 0 ∷ refused 20 0 ∷ refused 21 0 ∷ [])
    × (map entry_outcome (Err look.BadMark ∷ Err look.BadLength ∷ Err look.BadEntry ∷ Err look.NoFrame ∷ [])
    ≡ refused 19 0 ∷ refused 20 0 ∷ refused 21 0 ∷ refused 31 0 ∷ [])
    × (map summary_outcome (Err sum.BadMark ∷ Err sum.BadLength ∷ Err sum.BadEntry ∷ []) ≡ refused 19 0 ∷ refused 20 0 ∷ refused 21 0 ∷ [])
unfolding list_written_outcome list_read_outcome entry_outcome summary_outcome
list-numbers = (refl, refl, refl, refl)
