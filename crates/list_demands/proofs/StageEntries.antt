-- What the stage delivers is a legal entry of the list. Assumes nothing.
use mathlib.Core.Path.{◌≡◌, ap}
use mathlib.Core.List.{List, []}
use mathlib.Core.Bool.{true}
use Prim.Native.Nat.{ℕ, ◌+◌, ◌*◌, ◌≤◌, ◌<◌}
use native.Mathlib.Omega.{arith}
use lib.Dec.{ltb}
use lib.ListN.{length}
use Rattle.buffers.proofs.Tests.{cond_both}
use Rattle.buffers.proofs.Every.{every-all}
use Rattle.rules.specs.Refusals.{Outcome, delivered, refused}
use Rattle.rules.specs.Stage.{StageLent, encode_frame}
use Rattle.rules.specs.declared.Layout.{Layout}
use Rattle.rules_demands.proofs.StageAnswers.{StageBounded, answers_bounded, beside_bounded, stage_bounds}
use Rattle.rules_files.specs.List.{entry_numbers, entry_at, legal_entry, legal_entries, ListLeft, write_list}
use Rattle.rules_files.specs.declared.list.Entry.{Entry}
use Rattle.rules_files.proofs.Entries.{Limits, limits-legal}
use Rattle.rules_files.proofs.ListCalls.{list_written}

-- some call of the stage delivered these four numbers
abbrev pub FromStage : Entry → Type 0
FromStage e = (l : Layout) × (t : StageLent) × ((encode_frame l t).outcome ≡ delivered (entry_numbers e))

bounded : (o : Outcome) → StageBounded o → (e : Entry) → o ≡ delivered (entry_numbers e) → Limits e × (e.bits < 4294967296)
bounded o (answers_bounded level boundary pairs bits a b c d) e q =
    let w : level ≡ e.level = cc in
    let x : boundary ≡ e.boundary = cc in
    let y : pairs ≡ e.pairs = cc in
    let z : bits ≡ e.bits = cc in
    (record { levels = omega arith; boundaries = omega arith; removed = omega arith }, omega arith)
bounded o (beside_bounded k p h) e q = let z : ◌≡◌ {A = ℕ} 0 1 = cc in absurd (omega arith)

-- STAGE-LISTED: what the stage delivers is a legal entry, whose bits fit their field,
pub stage_listed : (e : Entry) → FromStage e → (legal_entry e ≡ true) × (e.bits < 4294967296)
stage_listed e x =
    let (l, t, q) = x in
    let (h, b) = bounded (encode_frame l t).outcome (stage_bounds l t) e q in
    (limits-legal e h, b)

module _ (n : ℕ) (entries list : List ℕ) (made : (i : ℕ) → i < n → FromStage (entry_at entries i)) where
  all-legal : legal_entries n entries ≡ true
  unfolding legal_entries
  all-legal = every-all (λ i. legal_entry (entry_at entries i)) n (λ i h. (stage_listed (entry_at entries i) (made i h)).0)

  -- so the writer, lent the stage's answers, delivers wherever it has room,
  pub stage_list_written : n * 4 ≤ length entries → 9 + n * 8 ≤ length list → (write_list n entries list).outcome ≡ delivered []
  stage_list_written numbers bytes =
      ap (λ (x : ListLeft). x.outcome) (list_written n entries list (record { numbers = numbers; bytes = bytes; legal = all-legal }))

  -- and never answers 21.
  pub never_bad_entry : (p : ℕ) → (write_list n entries list).outcome ≡ refused 21 p → ⊥
  unfolding write_list
  never_bad_entry p =
      let P : ListLeft → Type 0 = λ x. x.outcome ≡ refused 21 p → ⊥ in
      let other : refused 2 0 ≡ refused 21 p → ⊥ = λ e. let z : ◌≡◌ {A = ℕ} 2 21 = cc in omega arith in
      rw all-legal
      (cond_both P (ltb (length entries) (n * 4)) (λ _. other)
      (λ _. cond_both P (ltb (length list) (9 + n * 8)) (λ _. other) (λ _ e. let z : ◌≡◌ {A = ℕ} 0 1 = cc in omega arith)))
