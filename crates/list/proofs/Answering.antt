-- What each call answers, by what the judgement found. Assumes nothing.
use mathlib.Core.Path.{◌≡◌, refl, sym, ap, ◌∙◌}
use mathlib.Core.List.{List}
use Prim.Native.Nat.{ℕ, ◌+◌, ◌*◌, ◌≤◌, ◌<◌}
use native.Mathlib.Omega.{arith}
use mathlib.Core.Bool.{Bool, true, false, cond}
use lib.Dec.{ltb}
use lib.ListN.{length, get_or}
use Rattle.std.specs.Prelude.{Result, Ok, Err, MatchResult, IsErrAnd}
use Rattle.bits.proofs.Parts.{bytes-all}
use Rattle.rules_files.specs.List.{frames_in, judged_list, read_list_as, read_list, list_entry_as, list_entry, list_summary_as, list_summary}
use Rattle.rules_files.specs.declared.list.ListReadRefusal.{ListReadRefusal}
use Rattle.rules_files.specs.declared.list.ListReadRefusal.TheVariants as read
use Rattle.rules.specs.Refusals.{refused}
use Rattle.rules_files.specs.List.{list_read_outcome, entries_left, entry_outcome, summary_outcome, read_refusal_of, entry_refusal_of, summary_refusal_of}
use Rattle.rules_files.specs.declared.list.ListFault.{ListFault}
use Rattle.rules_files.specs.declared.list.ListFault.TheVariants as found
use Rattle.rules_files.proofs.Lists.{good-accepted, bad-frames, frames_small}

-- what a fault is told as
pub entry_refused : (fault : ListFault) (list : List ℕ) (frame : ℕ) → entry_outcome (Err (entry_refusal_of fault)) ≡ list_entry_as (Err fault) list frame
unfolding entry_outcome list_entry_as
entry_refused found.BadMark list frame = refl
entry_refused found.BadLength list frame = refl
entry_refused (found.BadEntry n) list frame = refl

pub summary_refused : (fault : ListFault) (list : List ℕ) → summary_outcome (Err (summary_refusal_of fault)) ≡ list_summary_as (Err fault) list
unfolding summary_outcome list_summary_as
summary_refused found.BadMark list = refl
summary_refused found.BadLength list = refl
summary_refused (found.BadEntry n) list = refl

short_or_bad : (b : Bool) → list_read_outcome (Err (cond b read.ShortBuffer read.BadEntry)) ≡ cond b (refused 2 0) (refused 21 0)
unfolding list_read_outcome
short_or_bad true = refl
short_or_bad false = refl

pub read_refused : (fault : ListFault) (list entries : List ℕ)
    → entries_left (Err (read_refusal_of fault (length entries))) entries ≡ read_list_as (Err fault) list entries
unfolding list_read_outcome read_list_as
read_refused found.BadMark list entries = refl
read_refused found.BadLength list entries = refl
read_refused (found.BadEntry n) list entries =
    ap (λ o. record { outcome = o; entries = entries }) (short_or_bad (ltb (length entries) (n * 4)))

-- a judgement j that is known to be v
module _ (list : List ℕ) (j v : Result ℕ ListFault) (e : j ≡ judged_list list) (said : j ≡ v) where
  pub read_by : (entries : List ℕ) → read_list_as v list entries ≡ read_list list entries
  unfolding read_list
  read_by entries = ap (λ x. read_list_as x list entries) (sym said ∙ e)

  pub entry_by : (frame : ℕ) → list_entry_as v list frame ≡ list_entry list frame
  unfolding list_entry
  entry_by frame = ap (λ x. list_entry_as x list frame) (sym said ∙ e)

  pub summed_by : list_summary_as v list ≡ list_summary list
  unfolding list_summary
  summed_by = ap (λ x. list_summary_as x list) (sym said ∙ e)

  pub judged_by : judged_list list ≡ v
  judged_by = sym e ∙ said

-- what the workers ask of a good list, whose numbers are bytes
module _ (list : List ℕ) (n : ℕ) (good : judged_list list ≡ Ok n) where
  pub good-long : (n ≡ frames_in list) × (9 + n * 8 ≤ length list)
  good-long = let a = good-accepted list n good in (sym a.frames, omega (arith, a.long))

  pub good-few : ((k : ℕ) → get_or list k 0 < 256) → n < 4294967296
  good-few bytes = let a = good-accepted list n good in rw a.frames at (frames_small list (bytes-all list bytes))

pub bad-few : (list : List ℕ) (n : ℕ) → judged_list list ≡ Err (found.BadEntry n) → ((k : ℕ) → get_or list k 0 < 256) → n < 4294967296
bad-few list n bad bytes = rw (bad-frames list n bad) at (frames_small list (bytes-all list bytes))

-- a fault that is told as another error
module _ (P : ListFault → ListReadRefusal → Type 0) (r : Result ℕ ListReadRefusal) where
  pub told_good : (j : Result ℕ ListFault) (n : ℕ) → MatchResult j (λ x. r ≡ Ok x) (λ e. IsErrAnd r (P e)) → r ≡ Ok n → j ≡ Ok n
  told_good (Ok x) n h q = cc
  told_good (Err e) n h q = absurd (rw q at h)

  pub told_fault : (j : Result ℕ ListFault) (d : ListReadRefusal) → MatchResult j (λ x. r ≡ Ok x) (λ e. IsErrAnd r (P e)) → r ≡ Err d
      → (e : ListFault) × (j ≡ Err e) × P e d
  told_fault (Ok x) d h q = cc
  told_fault (Err e) d h q = (e, refl, rw q at h)
