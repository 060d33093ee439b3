-- A list is judged good just where it is the list of legal entries, and its entries are read back. Assumes nothing.
use mathlib.Core.Path.{◌≡◌, refl, sym, ap, ◌∙◌}
use mathlib.Core.List.{List, ◌++◌, append_assoc}
use mathlib.Core.Bool.{true, false, not}
use Prim.Native.Nat.{ℕ, zero, suc, ◌+◌, ◌*◌, ◌≤◌, ◌<◌}
use native.Mathlib.Nat.{zero-lt-suc, pow-le-pow_right}
use native.Mathlib.Omega.{arith}
use borrow.Author.Tests.{le-leb, leb-true, eq-eqb, ne_eqb, eqb-true, not-false}
use lib.Dec.{leb, eqb}
use lib.ListN.{length, take, drop, length-take, length-drop}
use lib.Seq.{get_or-drop}
use Rattle.std.specs.Prelude.{Result, Ok, Err}
use Rattle.bits.specs.Bits.{Bytes}
use Rattle.bits.proofs.Parts.{bytes-all, bytes_at_lem}
use Rattle.buffers.specs.Walk.{blocks, AtMost}
use Rattle.buffers.proofs.Tests.{and_fst, and_snd, and-true, cond_both}
use Rattle.buffers.proofs.Blocks.{length-blocks}
use Rattle.buffers.proofs.Every.{every-at}
use Rattle.buffers.proofs.Most.{blocks-most}
use Rattle.numbers.specs.Numbers.{high_first, of_high}
use Rattle.numbers.proofs.HighFirst.{high-back, high-below}
use Rattle.rules.specs.Layout.{part}
use Rattle.rules.proofs.Cuts.{blocks-same, parts_all, block_part, length_part}
use Rattle.rules_files.specs.List.{entry_bytes, entry_from, entry_numbers, entry_at, legal_entry, legal_entries, list_head, list_of, frames_in, entry_in, entries_of}
use Rattle.rules_files.specs.List.{is_marked, judged_list}
use Rattle.rules_files.specs.declared.list.ListFault.{ListFault}
use Rattle.rules_files.specs.declared.list.ListFault.TheVariants as found
use Rattle.rules_files.proofs.Entries.{legal-limits, entry_length, entry-back, bytes-part, field_restored, next_field, entry_restored, entry-front}
use Rattle.rules_files.proofs.Entries.{legal-front, entries-front, entries_at}

-- ---- the list of n entries

module _ (n : ℕ) (entries : List ℕ) where
  pub list_length : length (list_of n entries) ≡ 9 + n * 8
  unfolding list_of list_head high_first
  list_length = omega (arith, length-blocks (λ i. entry_bytes (entry_at entries i)) 8 n (λ _ _. entry_length _) n (omega arith))

  -- only the first 4n numbers are looked at
  pub list-front : list_of n (take (n * 4) entries) ≡ list_of n entries
  unfolding list_of
  list-front = ap (λ x. list_head n ++ x) (blocks-same _ _ n (λ i h. ap entry_bytes (entry-front n entries i h)))

  list_marked : is_marked (list_of n entries) ≡ true
  unfolding is_marked list_of list_head high_first of_high
  list_marked =
      let long : 9 ≤ length (list_of n entries) = omega (arith, list_length) in
      and-true (le-leb 9 (length (list_of n entries)) long) (and-true refl refl)

  list-part : (i : ℕ) → i < n → part 8 (drop 9 (list_of n entries)) i ≡ entry_bytes (entry_at entries i)
  unfolding list_of list_head high_first
  list-part i h = block_part (λ j. entry_bytes (entry_at entries j)) 8 n i (λ _ _. entry_length _) h

  module _ (few : n < 4294967296) where
    pub list-frames : frames_in (list_of n entries) ≡ n
    unfolding list_of list_head high_first
    list-frames = high-back 4 n few

    -- of legal entries whose numbers fit 32 bits
    module _ (room : n * 4 ≤ length entries) (words : AtMost 4294967295 entries) (legal : legal_entries n entries ≡ true) where
      bits_fit : (i : ℕ) → (entry_at entries i).bits < 4294967296
      unfolding entry_at
      bits_fit i = omega (arith, words (i * 4 + 3))

      pub list_entry_lem : (i : ℕ) → i < n → entry_in (list_of n entries) i ≡ entry_at entries i
      unfolding legal_entries
      list_entry_lem i h =
          ap entry_from (list-part i h)
          ∙ entry-back (entry_at entries i) (legal-limits (entry_at entries i) (every-at (λ j. legal_entry (entry_at entries j)) n i legal h)) (bits_fit i)

      pub list-entries : entries_of (list_of n entries) ≡ take (n * 4) entries
      unfolding entries_of
      list-entries =
          ap (blocks (λ i. entry_numbers (entry_in (list_of n entries) i))) list-frames
          ∙ blocks-same _ _ n (λ i h. ap entry_numbers (list_entry_lem i h)) ∙ entries-front n entries room

      pub list-good : judged_list (list_of n entries) ≡ Ok n
      unfolding judged_list
      list-good = rw (list_marked, list-frames, eq-eqb _ _ list_length, list-entries, legal-front n entries, legal)

-- ---- the judgement, test by test

module _ (list : List ℕ) where
  pub marked_long : is_marked list ≡ true → 9 ≤ length list
  unfolding is_marked
  marked_long e = leb-true _ _ (and_fst (leb 9 (length list)) _ e)

  pub judged_mark : is_marked list ≡ false → Err found.BadMark ≡ judged_list list
  unfolding judged_list
  judged_mark e = rw e

  module _ (n : ℕ) (e : is_marked list ≡ true) (k : n ≡ frames_in list) where
    pub judged-length : (length list ≡ 9 + n * 8 → ⊥) → Err found.BadLength ≡ judged_list list
    unfolding judged_list
    judged-length h = rw (e, ← k, ne_eqb _ _ h)

    module _ (long : length list ≡ 9 + n * 8) where
      pub judged-entry : legal_entries n (entries_of list) ≡ false → Err (found.BadEntry n) ≡ judged_list list
      unfolding judged_list
      judged-entry h = rw (e, ← k, eq-eqb _ _ long, h)

      pub judged-good : legal_entries n (entries_of list) ≡ true → Ok n ≡ judged_list list
      unfolding judged_list
      judged-good h = rw (e, ← k, eq-eqb _ _ long, h)

-- ---- what is judged

-- a list that passes the judgement
pub record Accepted (list : List ℕ) (n : ℕ) : Type 0 where
  pub marked : is_marked list ≡ true
  pub frames : frames_in list ≡ n
  pub long : length list ≡ 9 + n * 8
  pub legal : legal_entries n (entries_of list) ≡ true

-- two judgements that differ
differs : {P : Type 0} {a b : Result ℕ ListFault} (place : Result ℕ ListFault → ℕ) → a ≡ b → (place a ≡ place b → ⊥) → P
differs place e h = absurd (h (ap place e))

abbrev place_of : Result ℕ ListFault → ℕ
place_of (Ok n) = 0
place_of (Err found.BadMark) = 19
place_of (Err found.BadLength) = 20
place_of (Err (found.BadEntry n)) = 21

frames_of : Result ℕ ListFault → ℕ
frames_of (Ok n) = n
frames_of (Err found.BadMark) = 0
frames_of (Err found.BadLength) = 0
frames_of (Err (found.BadEntry n)) = n

module _ (list : List ℕ) (n : ℕ) where
  pub good-accepted : judged_list list ≡ Ok n → Accepted list n
  unfolding judged_list frames_of
  good-accepted =
      let P : Result ℕ ListFault → Type 0 = λ j. j ≡ Ok n → Accepted list n in
      cond_both P (not (is_marked list)) (λ _ e. differs place_of e (λ z. omega arith))
      (λ a. cond_both P (not (eqb (length list) (9 + frames_in list * 8))) (λ _ e. differs place_of e (λ z. omega arith))
      (λ b. cond_both P (not (legal_entries (frames_in list) (entries_of list))) (λ _ e. differs place_of e (λ z. omega arith))
      (λ c e. let k : frames_in list ≡ n = ap frames_of e in
      record {
        marked = not-false _ a;
        frames = k;
        long = eqb-true _ _ (not-false _ b) ∙ rw k;
        legal = rw k at (not-false (legal_entries (frames_in list) (entries_of list)) c);
      })))

  pub accepted-good : Accepted list n → judged_list list ≡ Ok n
  unfolding judged_list
  accepted-good a = rw (a.marked, a.frames, eq-eqb _ _ a.long, a.legal)

  -- a list with a bad entry is of the count that is named
  pub bad-frames : judged_list list ≡ Err (found.BadEntry n) → frames_in list ≡ n
  unfolding judged_list frames_of
  bad-frames =
      let P : Result ℕ ListFault → Type 0 = λ j. j ≡ Err (found.BadEntry n) → frames_in list ≡ n in
      cond_both P (not (is_marked list)) (λ _ e. differs place_of e (λ z. omega arith))
      (λ a. cond_both P (not (eqb (length list) (9 + frames_in list * 8))) (λ _ e. differs place_of e (λ z. omega arith))
      (λ b. cond_both P (not (legal_entries (frames_in list) (entries_of list))) (λ _ e. ap frames_of e)
      (λ _ e. differs place_of e (λ z. omega arith))))

-- ---- and back: an accepted list of bytes is the list of its entries

-- a number of at most four bytes fits 32 bits
high_small : (s : List ℕ) (a k : ℕ) → Bytes s → k ≤ 4 → of_high (take k (drop a s)) ≤ 4294967295
high_small s a k b h =
    let t = take k (drop a s) in
    let l : length t ≤ 4 = omega (arith, length-take k (drop a s)) in
    omega (arith, high-below t (bytes-part s a k b), pow-le-pow_right {n = 256} (zero-lt-suc 255) l)

entry-small : (s : List ℕ) → Bytes s → AtMost 4294967295 (entry_numbers (entry_from s))
unfolding entry_from
entry-small s b zero = high_small s 0 2 b (omega arith)
entry-small s b (suc zero) = high_small s 2 1 b (omega arith)
entry-small s b (suc (suc zero)) = high_small s 3 1 b (omega arith)
entry-small s b (suc (suc (suc zero))) = high_small s 4 4 b (omega arith)
entry-small s b (suc (suc (suc (suc k)))) = omega arith

module _ (list : List ℕ) (b : Bytes list) where
  pub frames_small : frames_in list < 4294967296
  frames_small = omega (arith, high_small list 5 4 b (omega arith))

  behind : Bytes (drop 9 list)
  behind = bytes-all (drop 9 list) (λ k. rw (get_or-drop 9 list k 0) (bytes_at_lem list b (9 + k)))

  pub entries-small : AtMost 4294967295 (entries_of list)
  unfolding entries_of
  entries-small = blocks-most 4294967295 (λ i. entry_numbers (entry_in list i)) (λ i. entry-small _ (bytes-part (drop 9 list) (i * 8) 8 behind)) (frames_in list)

  module _ (n : ℕ) (a : Accepted list n) where
    mark_restored : high_first 3 0x564649 ≡ take 3 list
    unfolding is_marked
    mark_restored =
        let t = eqb-true _ _ (and_fst (eqb (of_high (take 3 list)) 0x564649) _ (and_snd (leb 9 (length list)) _ a.marked)) in
        ap (high_first 3) (sym t) ∙ field_restored list 0 3 b (omega (arith, a.long))

    version_restored : high_first 2 1 ≡ take 2 (drop 3 list)
    unfolding is_marked
    version_restored =
        let t = eqb-true _ _ (and_snd (eqb (of_high (take 3 list)) 0x564649) _ (and_snd (leb 9 (length list)) _ a.marked)) in
        ap (high_first 2) (sym t) ∙ field_restored list 3 2 b (omega (arith, a.long))

    count_restored : high_first 4 n ≡ take 4 (drop 5 list)
    count_restored = ap (high_first 4) (sym a.frames) ∙ field_restored list 5 4 b (omega (arith, a.long))

    rest-long : length (drop 9 list) ≡ n * 8
    rest-long = omega (arith, length-drop 9 list, a.long)

    entries_restored : blocks (λ i. entry_bytes (entry_at (entries_of list) i)) n ≡ drop 9 list
    entries_restored =
        blocks-same _ (part 8 (drop 9 list)) n
        (λ i h. ap entry_bytes (entries_at list i (rw a.frames h))
        ∙ entry_restored (part 8 (drop 9 list) i) (length_part 8 n i (drop 9 list) (omega (arith, rest-long)) h) (bytes-part (drop 9 list) (i * 8) 8 behind))
        ∙ parts_all 8 n (drop 9 list) rest-long

    pub list-is : list_of n (entries_of list) ≡ list
    unfolding list_of list_head
    list-is =
        let fields : list_of n (entries_of list) ≡ (take 3 list ++ (take 2 (drop 3 list) ++ take 4 (drop 5 list))) ++ drop 9 list =
        λ i. (mark_restored i ++ (version_restored i ++ count_restored i)) ++ entries_restored i in
        fields
        ∙ append_assoc (take 3 list) (take 2 (drop 3 list) ++ take 4 (drop 5 list)) (drop 9 list)
        ∙ ap (λ x. take 3 list ++ x) (append_assoc (take 2 (drop 3 list)) (take 4 (drop 5 list)) (drop 9 list))
        ∙ ap (λ x. take 3 list ++ (take 2 (drop 3 list) ++ x)) (next_field list 5 4)
        ∙ ap (λ x. take 3 list ++ x) (next_field list 3 2) ∙ next_field list 0 3
