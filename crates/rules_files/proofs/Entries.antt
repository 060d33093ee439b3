-- An entry of the list in bytes and in memory, there and back. Assumes nothing.
use mathlib.Core.Path.{◌≡◌, refl, sym, ap, ◌∙◌}
use mathlib.Core.List.{List, [], ◌∷◌, ◌++◌}
use mathlib.Core.Bool.{Bool, true, false, ◌&&◌}
use Prim.Native.Nat.{ℕ, ◌+◌, ◌*◌, ◌≤◌, ◌<◌}
use native.Mathlib.Nat.{add-zero}
use native.Mathlib.Omega.{arith}
use borrow.Author.Tests.{leb-true, le-leb}
use lib.Dec.{leb}
use lib.ListN.{length, get_or, take, drop, length-drop, take-append-drop}
use lib.Seq.{length-take-le, take_all, get_or-take, get_or-drop, drop-drop}
use Rattle.bits.specs.Bits.{Bytes}
use Rattle.bits.proofs.Parts.{bytes-all, bytes_at_lem}
use Rattle.buffers.specs.Walk.{blocks, AtMost}
use Rattle.buffers.proofs.Tests.{and_fst, and_snd, and-true, not_true_false}
use Rattle.buffers.proofs.Blocks.{length-blocks}
use Rattle.buffers.proofs.Most.{part-most}
use Rattle.numbers.specs.Numbers.{high_first, of_high}
use Rattle.numbers.proofs.HighFirst.{high-back, high_restored}
use Rattle.rules.specs.Layout.{part}
use Rattle.rules.proofs.Cuts.{blocks-same, every-same, part-of-front, length_part, parts_all, block_part}
use Rattle.rules_files.specs.List.{entry_bytes, entry_from, entry_numbers, entry_at, legal_entry, legal_entries, frames_in, entry_in, entries_of}
use Rattle.rules_files.specs.declared.list.Entry.{Entry}

-- ---- the limits of refusal 21, as facts

pub record Limits (e : Entry) : Type 0 where
  pub levels : e.level ≤ 511
  pub boundaries : e.boundary ≤ 127
  pub removed : e.pairs ≤ 63

pub legal-limits : (e : Entry) → legal_entry e ≡ true → Limits e
unfolding legal_entry
legal-limits e h =
    let k = and_snd (leb e.level 511) (leb e.boundary 127 && leb e.pairs 63) h in
    record {
      levels = leb-true _ _ (and_fst (leb e.level 511) (leb e.boundary 127 && leb e.pairs 63) h);
      boundaries = leb-true _ _ (and_fst (leb e.boundary 127) (leb e.pairs 63) k);
      removed = leb-true _ _ (and_snd (leb e.boundary 127) (leb e.pairs 63) k);
    }

pub limits-legal : (e : Entry) → Limits e → legal_entry e ≡ true
unfolding legal_entry
limits-legal e h = and-true (le-leb _ _ h.levels) (and-true (le-leb _ _ h.boundaries) (le-leb _ _ h.removed))

-- an entry past a limit
pub past-limit : (e : Entry) → (Limits e → ⊥) → false ≡ legal_entry e
past-limit e h = sym (not_true_false (legal_entry e) (λ t. h (legal-limits e t)))

-- ---- in bytes

pub entry_length : (e : Entry) → length (entry_bytes e) ≡ 8
unfolding entry_bytes high_first
entry_length e = refl

pub entry-back : (e : Entry) → Limits e → e.bits < 4294967296 → entry_from (entry_bytes e) ≡ e
unfolding entry_bytes entry_from high_first
entry-back e h b = λ i. record {
  level = high-back 2 e.level (omega (arith, h.levels)) i;
  boundary = high-back 1 e.boundary (omega (arith, h.boundaries)) i;
  pairs = high-back 1 e.pairs (omega (arith, h.removed)) i;
  bits = high-back 4 e.bits b i;
}

pub bytes-part : (s : List ℕ) (a k : ℕ) → Bytes s → Bytes (take k (drop a s))
bytes-part s a k b =
    let low : AtMost 255 s = λ i. omega (arith, bytes_at_lem s b i) in
    bytes-all (take k (drop a s)) (λ j. omega (arith, part-most 255 a k s low j))

-- the k bytes from byte a on, restored from their number
pub field_restored : (s : List ℕ) (a k : ℕ) → Bytes s → a + k ≤ length s → high_first k (of_high (take k (drop a s))) ≡ take k (drop a s)
field_restored s a k b h =
    let t = take k (drop a s) in
    let e : length t ≡ k = length-take-le k (drop a s) (omega (arith, length-drop a s)) in
    ap (λ n. high_first n (of_high t)) (sym e) ∙ high_restored t (bytes-part s a k b)

-- a field and what follows it
pub next_field : {A : Type 0} (s : List A) (a k : ℕ) → take k (drop a s) ++ drop (a + k) s ≡ drop a s
next_field s a k = ap (λ x. take k (drop a s) ++ x) (sym (drop-drop k a s)) ∙ take-append-drop k (drop a s)

pub entry_restored : (s : List ℕ) → length s ≡ 8 → Bytes s → entry_bytes (entry_from s) ≡ s
unfolding entry_bytes entry_from
entry_restored s e b =
    let fields : entry_bytes (entry_from s) ≡ take 2 s ++ (take 1 (drop 2 s) ++ (take 1 (drop 3 s) ++ take 4 (drop 4 s))) =
    λ i. field_restored s 0 2 b (omega arith) i ++ (field_restored s 2 1 b (omega arith) i
    ++ (field_restored s 3 1 b (omega arith) i ++ field_restored s 4 4 b (omega arith) i)) in
    fields
    ∙ ap (λ x. take 2 s ++ (take 1 (drop 2 s) ++ (take 1 (drop 3 s) ++ x))) (take_all 4 (drop 4 s) (omega (arith, length-drop 4 s)))
    ∙ ap (λ x. take 2 s ++ (take 1 (drop 2 s) ++ x)) (next_field s 3 1)
    ∙ ap (λ x. take 2 s ++ x) (next_field s 2 1) ∙ next_field s 0 2

-- ---- in memory

number-part : (xs : List ℕ) (i k : ℕ) → k < 4 → get_or xs (i * 4 + k) 0 ≡ get_or (part 4 xs i) k 0
number-part xs i k h = sym (get_or-take 4 (drop (i * 4) xs) k 0 h ∙ get_or-drop (i * 4) xs k 0)

-- an entry's four numbers are its part
pub entry-part : (entries : List ℕ) (i : ℕ) → entry_at entries i ≡ entry_at (part 4 entries i) 0
unfolding entry_at
entry-part entries i =
    let first : get_or entries (i * 4) 0 ≡ get_or (part 4 entries i) 0 0 =
    ap (λ n. get_or entries n 0) (sym (add-zero (i * 4))) ∙ number-part entries i 0 (omega arith) in
    λ j. record {
      level = first j;
      boundary = number-part entries i 1 (omega arith) j;
      pairs = number-part entries i 2 (omega arith) j;
      bits = number-part entries i 3 (omega arith) j;
    }

four-numbers : (xs : List ℕ) → length xs ≡ 4 → entry_numbers (entry_at xs 0) ≡ xs
unfolding entry_at
four-numbers [] e = absurd (omega arith)
four-numbers (a ∷ []) e = absurd (omega arith)
four-numbers (a ∷ b ∷ []) e = absurd (omega arith)
four-numbers (a ∷ b ∷ c ∷ []) e = absurd (omega arith)
four-numbers (a ∷ b ∷ c ∷ d ∷ []) e = refl
four-numbers (a ∷ b ∷ c ∷ d ∷ x ∷ xs) e = absurd (omega arith)

-- n entries among the 4n numbers at the front
module _ (n : ℕ) (entries : List ℕ) where
  pub entry-front : (i : ℕ) → i < n → entry_at (take (n * 4) entries) i ≡ entry_at entries i
  entry-front i h =
      entry-part (take (n * 4) entries) i ∙ ap (λ xs. entry_at xs 0) (part-of-front 4 n i entries h) ∙ sym (entry-part entries i)

  pub legal-front : legal_entries n (take (n * 4) entries) ≡ legal_entries n entries
  unfolding legal_entries
  legal-front = every-same _ _ _ (λ i h. ap legal_entry (entry-front i (omega arith)))

  pub entries-front : n * 4 ≤ length entries → blocks (λ i. entry_numbers (entry_at entries i)) n ≡ take (n * 4) entries
  entries-front l =
      let long : length (take (n * 4) entries) ≡ n * 4 = length-take-le (n * 4) entries l in
      blocks-same _ (part 4 (take (n * 4) entries)) n
      (λ i h. ap entry_numbers (entry-part entries i) ∙ four-numbers (part 4 entries i) (length_part 4 n i entries l h) ∙ sym (part-of-front 4 n i entries h))
      ∙ parts_all 4 n (take (n * 4) entries) long

-- the numbers that are read out of a list
module _ (list : List ℕ) where
  pub entries-length : length (entries_of list) ≡ frames_in list * 4
  unfolding entries_of
  entries-length = length-blocks (λ i. entry_numbers (entry_in list i)) 4 (frames_in list) (λ _ _. refl) (frames_in list) (omega arith)

  pub entries_at : (i : ℕ) → i < frames_in list → entry_at (entries_of list) i ≡ entry_in list i
  unfolding entries_of entry_at
  entries_at i h =
      entry-part (entries_of list) i
      ∙ ap (λ xs. entry_at xs 0) (block_part (λ i. entry_numbers (entry_in list i)) 4 (frames_in list) i (λ _ _. refl) h)

  -- one of them read and judged
  pub entry-judged : (n i : ℕ) → n ≡ frames_in list → i < n → (e : Entry) (b : Bool) → e ≡ entry_in list i → b ≡ legal_entry e
      → legal_entry (entry_at (entries_of list) i) ≡ b
  entry-judged n i k h e b q r = ap legal_entry (entries_at i (rw k at h) ∙ sym q) ∙ sym r
