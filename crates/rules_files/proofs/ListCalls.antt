-- Request A7 said of the list's four calls: what is written is read back, and what is read is written back. Assumes nothing.
use mathlib.Core.Path.{◌≡◌, refl, sym, ap, ◌∙◌}
use mathlib.Core.Logic.{◌↔◌, ◌⊎◌, inl, inr, ⊎_elim}
use mathlib.Core.List.{List, [], ◌∷◌}
use mathlib.Core.Bool.{true, not}
use Prim.Native.Nat.{ℕ, ◌+◌, ◌*◌, ◌≤◌, ◌<◌}
use native.Mathlib.Nat.{mul-le-mul_right, le_trans}
use native.Mathlib.Omega.{arith}
use borrow.Author.Tests.{ltb-true, ltb-false, lt-ltb, le-ltb, not-false}
use lib.Dec.{ltb}
use lib.ListN.{length, get_or, take, drop}
use lib.Seq.{take_at}
use Rattle.std.specs.Prelude.{Result, Ok, Err}
use Rattle.bits.specs.Bits.{Bytes}
use Rattle.buffers.specs.Walk.{AtMost, sum_to}
use Rattle.buffers.proofs.Tests.{cond_both}
use Rattle.buffers.proofs.Every.{every-at}
use Rattle.buffers.proofs.Scan.{sum_bound}
use Rattle.rules.specs.Lent.{overwrite}
use Rattle.rules.specs.Refusals.{Outcome, delivered, refused}
use Rattle.rules_files.specs.List.{entry_numbers, entry_at, legal_entry, legal_entries, list_of, frames_in, entry_in, entries_of, judged_list, max_to, summary_of}
use Rattle.rules_files.specs.List.{summary_numbers, ListLeft, write_list, EntriesLeft, read_list_as, read_list, list_entry_as, list_entry, list_summary_as}
use Rattle.rules_files.specs.List.{list_summary}
use Rattle.rules_files.specs.declared.list.Entry.{Entry}
use Rattle.rules_files.specs.declared.list.Summary.{Summary}
use Rattle.rules_files.specs.declared.list.ListFault.{ListFault}
use Rattle.rules_files.specs.declared.list.ListFault.TheVariants as found
use Rattle.rules_files.proofs.Entries.{Limits, legal-limits, legal-front, entries-length, entries_at}
use Rattle.rules_files.proofs.Lists.{list_length, list-frames, list_entry_lem, list-entries, list-front, list-good, good-accepted, frames_small}
use Rattle.rules_files.proofs.Lists.{entries-small, list-is}
use Rattle.rules_files.proofs.Summaries.{summary_front, max_bound, max-above, max-some}

-- a refusal is no delivery
refusal : {A : Type 0} {k p : ℕ} {ns : List ℕ} → refused k p ≡ delivered ns → A
refusal e = let z : ◌≡◌ {A = ℕ} 0 1 = cc in absurd (omega arith)

-- ---- when the writer delivers, and what it leaves

pub record ListWrites (n : ℕ) (entries list : List ℕ) : Type 0 where
  pub numbers : n * 4 ≤ length entries
  pub bytes : 9 + n * 8 ≤ length list
  pub legal : legal_entries n entries ≡ true

module _ (n : ℕ) (entries list : List ℕ) where
  pub list-writes : (write_list n entries list).outcome ≡ delivered [] → ListWrites n entries list
  unfolding write_list
  list-writes =
      let P : ListLeft → Type 0 = λ x. x.outcome ≡ delivered [] → ListWrites n entries list in
      cond_both P (ltb (length entries) (n * 4)) (λ _. refusal)
      (λ a. cond_both P (ltb (length list) (9 + n * 8)) (λ _. refusal)
      (λ b. cond_both P (not (legal_entries n entries)) (λ _. refusal)
      (λ c _. record { numbers = ltb-false _ _ a; bytes = ltb-false _ _ b; legal = not-false _ c })))

  pub list_written : ListWrites n entries list → write_list n entries list ≡ record { outcome = delivered []; list = overwrite (list_of n entries) list }
  unfolding write_list
  list_written w = rw (le-ltb _ _ w.numbers, le-ltb _ _ w.bytes, w.legal)

  -- the bytes of the list are the front of what is left
  pub list-written-front : ListWrites n entries list → take (9 + n * 8) (write_list n entries list).list ≡ list_of n entries
  list-written-front w = rw (list_written w) (take_at (list_of n entries) (drop (length (list_of n entries)) list) (9 + n * 8) (list_length n entries))

-- ---- when the others deliver

module _ (list : List ℕ) where
  looks_good : (frame : ℕ) (ns : List ℕ) (j : Result ℕ ListFault) → list_entry_as j list frame ≡ delivered ns
      → (n : ℕ) × (j ≡ Ok n) × (frame < n) × (ns ≡ entry_numbers (entry_in list frame))
  unfolding list_entry_as
  looks_good frame ns (Err found.BadMark) e = refusal e
  looks_good frame ns (Err found.BadLength) e = refusal e
  looks_good frame ns (Err (found.BadEntry n)) e = refusal e
  looks_good frame ns (Ok n) e =
      let P : Outcome → Type 0 = λ o. o ≡ delivered ns → (frame < n) × (ns ≡ entry_numbers (entry_in list frame)) in
      let (l, q) = cond_both P (ltb frame n) (λ h e. (ltb-true _ _ h, (cc))) (λ _. refusal) e in
      (n, refl, l, q)

  sums_good : (ns : List ℕ) (j : Result ℕ ListFault) → list_summary_as j list ≡ delivered ns
      → (n : ℕ) × (j ≡ Ok n) × (ns ≡ summary_numbers (summary_of n (entries_of list)))
  unfolding list_summary_as
  sums_good ns (Err found.BadMark) e = refusal e
  sums_good ns (Err found.BadLength) e = refusal e
  sums_good ns (Err (found.BadEntry n)) e = refusal e
  sums_good ns (Ok n) e = (n, refl, (cc))

  reads-good : (entries ns : List ℕ) (j : Result ℕ ListFault) → (read_list_as j list entries).outcome ≡ delivered ns
      → (n : ℕ) × (j ≡ Ok n) × (n * 4 ≤ length entries) × (ns ≡ n ∷ [])
  unfolding read_list_as
  reads-good entries ns (Err found.BadMark) e = refusal e
  reads-good entries ns (Err found.BadLength) e = refusal e
  reads-good entries ns (Err (found.BadEntry n)) e =
      absurd (cond_both (λ (o : Outcome). o ≡ delivered ns → ⊥) (ltb (length entries) (n * 4)) (λ _. refusal) (λ _. refusal) e)
  reads-good entries ns (Ok n) e =
      let P : EntriesLeft → Type 0 = λ x. x.outcome ≡ delivered ns → (n * 4 ≤ length entries) × (ns ≡ n ∷ []) in
      let (l, q) = cond_both P (ltb (length entries) (n * 4)) (λ _. refusal) (λ h e. (ltb-false _ _ h, (cc))) e in
      (n, refl, l, q)

  reads_this : (entries : List ℕ) (n : ℕ) → (read_list list entries).outcome ≡ delivered (n ∷ []) → (judged_list list ≡ Ok n) × (n * 4 ≤ length entries)
  unfolding read_list
  reads_this entries n e =
      let (m, good, l, q) = reads-good entries (n ∷ []) (judged_list list) e in
      let k : m ≡ n = cc in
      (good ∙ ap Ok k, rw k at l)

  -- what a good list is read, looked up and summed as
  module _ (n : ℕ) (good : judged_list list ≡ Ok n) where
    pub good_read : (entries : List ℕ) → n * 4 ≤ length entries
        → read_list list entries ≡ record { outcome = delivered (n ∷ []); entries = overwrite (entries_of list) entries }
    unfolding read_list read_list_as
    good_read entries h = rw (good, le-ltb _ _ h)

    pub short_read : (entries : List ℕ) → length entries < n * 4 → read_list list entries ≡ record { outcome = refused 2 0; entries = entries }
    unfolding read_list read_list_as
    short_read entries h = rw (good, lt-ltb _ _ h)

    pub good-entry : (frame : ℕ) → frame < n → list_entry list frame ≡ delivered (entry_numbers (entry_in list frame))
    unfolding list_entry list_entry_as
    good-entry frame h = rw (good, lt-ltb _ _ h)

    pub good-past : (frame : ℕ) → n ≤ frame → list_entry list frame ≡ refused 31 0
    unfolding list_entry list_entry_as
    good-past frame h = rw (good, le-ltb _ _ h)

    pub good_summed : list_summary list ≡ delivered (summary_numbers (summary_of n (entries_of list)))
    unfolding list_summary list_summary_as
    good_summed = rw good

-- ---- LIST-BACK: what is written is read back

-- a list of these n entries: read, looked up and summed
pub record ReadBack (n : ℕ) (entries list : List ℕ) : Type 0 where
  -- the same count and the same 4n numbers, in any buffer with room; its rest stays
  pub back : (lent : List ℕ) → n * 4 ≤ length lent → read_list list lent
      ≡ record { outcome = delivered (n ∷ []); entries = overwrite (take (n * 4) entries) lent }
  -- lookup i is entry i, and past the last frame it is refused
  pub entry : (i : ℕ) → i < n → list_entry list i ≡ delivered (entry_numbers (entry_at entries i))
  pub past : (i : ℕ) → n ≤ i → list_entry list i ≡ refused 31 0
  -- the summary is that of the entries
  pub total : list_summary list ≡ delivered (summary_numbers (summary_of n entries))

module _ (n : ℕ) (entries : List ℕ) (few : n < 4294967296) (words : AtMost 4294967295 entries) where
  list_read_back : n * 4 ≤ length entries → legal_entries n entries ≡ true → ReadBack n entries (list_of n entries)
  list_read_back room legal =
      let good = list-good n entries few room words legal in
      let same = list-entries n entries few room words legal in
      record {
        back = λ lent h. good_read (list_of n entries) n good lent h ∙ rw same;
        entry = λ i h. good-entry (list_of n entries) n good i h ∙ ap (λ e. delivered (entry_numbers e)) (list_entry_lem n entries few room words legal i h);
        past = good-past (list_of n entries) n good;
        total = good_summed (list_of n entries) n good
            ∙ ap (λ s. delivered (summary_numbers s)) (ap (summary_of n) same ∙ summary_front n entries);
      }

  pub list_back : (list : List ℕ) → (write_list n entries list).outcome ≡ delivered []
      → ReadBack n entries (take (9 + n * 8) (write_list n entries list).list)
  list_back list e =
      let w = list-writes n entries list e in
      rw (list-written-front n entries list w) (list_read_back w.numbers w.legal)

-- ---- LIST-RESTORED: writing what was read restores every byte

-- from any buffer that holds the numbers that the reader left, into any buffer with room
pub list_restored : (list lent entries buffer : List ℕ) (n : ℕ) → Bytes list → (read_list list lent).outcome ≡ delivered (n ∷ [])
    → n * 4 ≤ length entries → take (n * 4) entries ≡ take (n * 4) (read_list list lent).entries → length list ≤ length buffer
    → write_list n entries buffer ≡ record { outcome = delivered []; list = overwrite list buffer }
list_restored list lent entries buffer n b e long same room =
    let (good, l) = reads_this list lent n e in
    let a = good-accepted list n good in
    let size : length (entries_of list) ≡ n * 4 = entries-length list ∙ ap (λ k. k * 4) a.frames in
    let front : take (n * 4) entries ≡ entries_of list =
    same ∙ rw (good_read list n good lent l) (take_at (entries_of list) (drop (length (entries_of list)) lent) (n * 4) size) in
    let legal : legal_entries n entries ≡ true = sym (legal-front n entries) ∙ rw front a.legal in
    let is : list_of n entries ≡ list = sym (list-front n entries) ∙ ap (list_of n) front ∙ list-is list b n a in
    list_written n entries buffer (record { numbers = long; bytes = omega (arith, a.long); legal = legal }) ∙ rw is

-- ---- LIST-ACCEPTED: exactly the lists of legal entries

-- the list of n entries that are legal, four numbers of 32 bits each
pub record ListFor (n : ℕ) (entries list : List ℕ) : Type 0 where
  pub few : n < 4294967296
  pub size : length entries ≡ n * 4
  pub words : AtMost 4294967295 entries
  pub legal : legal_entries n entries ≡ true
  pub bytes : list ≡ list_of n entries

module _ (list : List ℕ) (n : ℕ) where
  good_for : Bytes list → judged_list list ≡ Ok n → (entries : List ℕ) × ListFor n entries list
  good_for b good =
      let a = good-accepted list n good in (
        entries_of list,
        record {
          few = rw a.frames at (frames_small list b);
          size = entries-length list ∙ ap (λ k. k * 4) a.frames;
          words = entries-small list b;
          legal = a.legal;
          bytes = sym (list-is list b n a);
        },
      )

  for_good : (entries : List ℕ) → ListFor n entries list → judged_list list ≡ Ok n
  for_good entries f = rw f.bytes (list-good n entries f.few (omega (arith, f.size)) f.words f.legal)

-- The reader, lent room enough, delivers n frames just where the bytes are the list of n legal entries,
pub list-accepted : (list lent : List ℕ) (n : ℕ) → Bytes list → n * 4 ≤ length lent
    → ((read_list list lent).outcome ≡ delivered (n ∷ [])) ↔ ((entries : List ℕ) × ListFor n entries list)
list-accepted list lent n b room = (
  (λ e. good_for list n b (reads_this list lent n e).0),
  (λ x. let (entries, f) = x in ap (λ (y : EntriesLeft). y.outcome) (good_read list n (for_good list n entries f) lent room)),
)

-- the lookup of a frame delivers just where they are the list of legal entries, this one among them,
pub lookup_accepted : (list : List ℕ) (frame : ℕ) → Bytes list
    → ((ns : List ℕ) × (list_entry list frame ≡ delivered ns)) ↔ ((n : ℕ) × (frame < n) × ((entries : List ℕ) × ListFor n entries list))
unfolding list_entry
lookup_accepted list frame b = (
  (λ x. let (ns, e) = x in let (n, good, l, _) = looks_good list frame ns (judged_list list) e in (n, l, good_for list n b good)),
  (λ x. let (n, l, y) = x in let (entries, f) = y in (_, good-entry list n (for_good list n entries f) frame l)),
)

-- and the summary just where they are the list of legal entries.
pub summary_accepted : (list : List ℕ) → Bytes list
    → ((ns : List ℕ) × (list_summary list ≡ delivered ns)) ↔ ((n : ℕ) × ((entries : List ℕ) × ListFor n entries list))
unfolding list_summary
summary_accepted list b = (
  (λ x. let (ns, e) = x in let (n, good, _) = sums_good list ns (judged_list list) e in (n, good_for list n b good)),
  (λ x. let (n, y) = x in let (entries, f) = y in (_, good_summed list n (for_good list n entries f))),
)

-- ---- LIST-ONCE: equal lists, equal entries

module _ (n n' : ℕ) (entries entries' : List ℕ) (few : n < 4294967296) (few' : n' < 4294967296)
    (words : AtMost 4294967295 entries) (words' : AtMost 4294967295 entries') where
  pub list_once : (list list' : List ℕ) → (write_list n entries list).outcome ≡ delivered [] → (write_list n' entries' list').outcome ≡ delivered []
      → take (9 + n * 8) (write_list n entries list).list ≡ take (9 + n' * 8) (write_list n' entries' list').list
      → (n ≡ n') × (take (n * 4) entries ≡ take (n' * 4) entries')
  list_once list list' e e' q =
      let w = list-writes n entries list e in
      let w' = list-writes n' entries' list' e' in
      let same : list_of n entries ≡ list_of n' entries' = sym (list-written-front n entries list w) ∙ q ∙ list-written-front n' entries' list' w' in (
        sym (list-frames n entries few) ∙ ap frames_in same ∙ list-frames n' entries' few',
        sym (list-entries n entries few w.numbers words w.legal) ∙ ap entries_of same ∙ list-entries n' entries' few' w'.numbers words' w'.legal,
      )

-- ---- SUMMARY-BOUNDS: within the limits, some entry's or 0, and no entry above it

pub record Summarizes (list : List ℕ) (level pairs bits : ℕ) : Type 0 where
  pub levels : level ≤ 511
  pub removed : pairs ≤ 63
  pub some_level : (level ≡ 0) ⊎ ((i : ℕ) × (e : Entry) × (list_entry list i ≡ delivered (entry_numbers e)) × (e.level ≡ level))
  pub some_pairs : (pairs ≡ 0) ⊎ ((i : ℕ) × (e : Entry) × (list_entry list i ≡ delivered (entry_numbers e)) × (e.pairs ≡ pairs))
  pub each : (i : ℕ) (e : Entry) → list_entry list i ≡ delivered (entry_numbers e) → (e.level ≤ level) × (e.pairs ≤ pairs)
  -- the total never passes 64 bits: at most 2^32 - 1 frames of at most 2^32 - 1 bits
  pub total : Bytes list → bits ≤ 4294967295 * 4294967295

module _ (list : List ℕ) (n : ℕ) (good : judged_list list ≡ Ok n) where
  abbrev its : ℕ → Entry
  its i = entry_at (entries_of list) i

  frames_are : frames_in list ≡ n
  frames_are = (good-accepted list n good).frames

  its_in : (i : ℕ) → i < n → its i ≡ entry_in list i
  its_in i h = entries_at list i (rw frames_are h)

  its-limits : (i : ℕ) → i < n → Limits (its i)
  unfolding legal_entries
  its-limits i h = legal-limits (its i) (every-at (λ j. legal_entry (its j)) n i (good-accepted list n good).legal h)

  -- a number of each entry, the highest of which is m
  module _ (number : Entry → ℕ) (m : ℕ) (is : m ≡ max_to (λ i. number (its i)) n) where
    some-entry : (m ≡ 0) ⊎ ((i : ℕ) × (e : Entry) × (list_entry list i ≡ delivered (entry_numbers e)) × (number e ≡ m))
    some-entry =
        ⊎_elim (λ q. inl (is ∙ q))
        (λ x. let (i, h, q) = x in inr (i, entry_in list i, good-entry list n good i h, ap number (sym (its_in i h)) ∙ q ∙ sym is))
        (max-some (λ i. number (its i)) n)

    none_above : (i : ℕ) → i < n → number (entry_in list i) ≤ m
    none_above i h = rw (is, ← its_in i h) (max-above (λ i. number (its i)) n i h)

    highest : (k : ℕ) → ((i : ℕ) → i < n → number (its i) ≤ k) → m ≤ k
    highest k h = rw is (max_bound (λ i. number (its i)) n k h)

  -- a lookup that delivers is one of the entries
  of_lookup : (i : ℕ) (e : Entry) → list_entry list i ≡ delivered (entry_numbers e) → (i < n) × (e.level ≡ (entry_in list i).level)
      × (e.pairs ≡ (entry_in list i).pairs)
  unfolding list_entry
  of_lookup i e q =
      let (m, g, l, z) = looks_good list i (entry_numbers e) (judged_list list) q in
      let k : m ≡ n = cc in
      (rw k at l, (cc), (cc))

  its-bits : Bytes list → (i : ℕ) → (its i).bits ≤ 4294967295
  unfolding entry_at
  its-bits b i = entries-small list b (i * 4 + 3)

  total-small : Bytes list → sum_to (λ i. (its i).bits) n ≤ 4294967295 * 4294967295
  total-small b =
      let few : n ≤ 4294967295 = omega (arith, frames_small list b, frames_are) in
      le_trans (sum_bound (λ i. (its i).bits) n 4294967295 (λ i _. its-bits b i)) (mul-le-mul_right 4294967295 few)

  bounds : (s : Summary) → s ≡ summary_of n (entries_of list) → Summarizes list s.level s.pairs s.bits
  unfolding summary_of
  bounds s is =
      let l : s.level ≡ max_to (λ i. (its i).level) n = ap (λ (x : Summary). x.level) is in
      let p : s.pairs ≡ max_to (λ i. (its i).pairs) n = ap (λ (x : Summary). x.pairs) is in
      let t : s.bits ≡ sum_to (λ i. (its i).bits) n = ap (λ (x : Summary). x.bits) is in
      record {
        levels = highest (λ e. e.level) s.level l 511 (λ i h. (its-limits i h).levels);
        removed = highest (λ e. e.pairs) s.pairs p 63 (λ i h. (its-limits i h).removed);
        some_level = some-entry (λ e. e.level) s.level l;
        some_pairs = some-entry (λ e. e.pairs) s.pairs p;
        each = λ i e q. let (h, x, y) = of_lookup i e q in
            (rw x (none_above (λ e. e.level) s.level l i h), rw y (none_above (λ e. e.pairs) s.pairs p i h));
        total = λ b. rw t (total-small b);
      }

pub summary_bounds : (list : List ℕ) (level pairs bits : ℕ) → list_summary list ≡ delivered (level ∷ pairs ∷ bits ∷ []) → Summarizes list level pairs bits
unfolding list_summary
summary_bounds list level pairs bits e =
    let (n, good, q) = sums_good list (level ∷ pairs ∷ bits ∷ []) (judged_list list) e in
    let s : Summary = record { level = level; pairs = pairs; bits = bits } in
    bounds list n good s (said (summary_of n (entries_of list)) q)
  where
    said : (x : Summary) → level ∷ pairs ∷ bits ∷ [] ≡ summary_numbers x → record { level = level; pairs = pairs; bits = bits } ≡ x
    said x q = λ i. record { level = get_or (q i) 0 0; pairs = get_or (q i) 1 0; bits = get_or (q i) 2 0 }
