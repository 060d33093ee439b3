-- A count of frames fits 32 bits. Assumes nothing.
use mathlib.Core.Path.{◌≡◌, refl}
use mathlib.Core.List.{List, [], ◌∷◌}
use Prim.Native.Nat.{ℕ, ◌*◌, ◌<◌}
use native.Mathlib.Omega.{arith}
use lib.Dec.{ltb}
use lib.ListN.{length, get_or}
use Rattle.std.specs.Prelude.{Result, Ok, Err}
use Rattle.bits.proofs.Parts.{bytes-all}
use Rattle.buffers.proofs.Tests.{cond_both}
use Rattle.rules.specs.Refusals.{Outcome, delivered}
use Rattle.rules_files.specs.List.{judged_list, EntriesLeft, read_list_as, read_list}
use Rattle.rules_files.specs.declared.list.ListFault.{ListFault}
use Rattle.rules_files.specs.declared.list.ListFault.TheVariants as found
use Rattle.rules_files.proofs.Lists.{good-accepted, frames_small}
use Rattle.hca_answers.specs.Outcomes.{numbers_of, Small}
use Rattle.hca_answers.proofs.Fitting.{small-refused}

small-frames : (n : ℕ) → n < 4294967296 → Small (delivered (n ∷ []))
unfolding Small numbers_of
small-frames n h = small-refused 0 n h

module _ (list entries : List ℕ) where
  by_judgement : (j : Result ℕ ListFault) → ((n : ℕ) → j ≡ Ok n → n < 4294967296) → Small (read_list_as j list entries).outcome
  unfolding read_list_as
  by_judgement (Err found.BadMark) few = small-refused 19 0 (omega arith)
  by_judgement (Err found.BadLength) few = small-refused 20 0 (omega arith)
  by_judgement (Err (found.BadEntry n)) few =
      cond_both (λ (o : Outcome). Small o) (ltb (length entries) (n * 4)) (λ _. small-refused 2 0 (omega arith)) (λ _. small-refused 21 0 (omega arith))
  by_judgement (Ok n) few =
      cond_both (λ (x : EntriesLeft). Small x.outcome) (ltb (length entries) (n * 4)) (λ _. small-refused 2 0 (omega arith))
      (λ _. small-frames n (few n refl))

  pub read_small : ((k : ℕ) → get_or list k 0 < 256) → Small (read_list list entries).outcome
  unfolding read_list
  read_small bytes = by_judgement (judged_list list) (λ n good. rw (good-accepted list n good).frames at (frames_small list (bytes-all list bytes)))
