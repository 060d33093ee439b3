-- `list::read_list` meets its contract. Assumes nothing.
use mathlib.Core.Path.{◌≡◌, sym, ap, ◌∙◌}
use mathlib.Core.List.{List, [], ◌∷◌}
use Prim.Native.Nat.{ℕ}
use native.Mathlib.Omega.{arith}
use borrow.Author.Rules.{rules}
use lib.ListN.{length}
use Rattle.std.specs.Prelude.{Err}
use Rattle.rules.specs.Refusals.{delivered}
use Rattle.rules_files.specs.List.{EntriesLeft, list_read_outcome, entries_left, read_refusal_of}
use Rattle.rules_files.proofs.ListCalls.{good_read, short_read}
use Rattle.list.proofs.Answering.{read_by, read_refused, good-long, told_good, told_fault}
use Rattle.list.proofs.read_list.Goals as goal

pub returns-in_err-n : goal.returns-in_err-n
returns-in_err-n c =
    let xs : List ℕ = c.args.entries.now in
    let (fault, j, t) = told_fault _ c.map_err.result c.judge_list.result c.in_err-n.field-0.0 c.map_err.ensures.cases (search rules) in
    let told : c.in_err-n.field-0.0 ≡ read_refusal_of fault (length xs) = search rules in
    let r : c.from_residual.result ≡ Err (read_refusal_of fault (length xs)) = search rules in
    ap (λ a. entries_left a xs) r ∙ read_refused fault c.args.list.now xs ∙ read_by _ _ _ c.judge_list.ensures j xs

pub returns-then-places-n : goal.returns-then-places-n
unfolding list_read_outcome
returns-then-places-n c =
    let good = told_good _ c.map_err.result c.judge_list.result c.in_ok-n.n c.map_err.ensures.cases (search rules) in
    sym (short_read _ _ (sym c.judge_list.ensures ∙ good) _ (omega arith))

pub store_entries-requires : goal.store_entries-requires
store_entries-requires c =
    let good = told_good _ c.map_err.result c.judge_list.result c.in_ok-n.n c.map_err.ensures.cases (search rules) in
    let g = good-long _ _ (sym c.judge_list.ensures ∙ good) in
    (g.0, g.1, omega arith)

pub returns : goal.returns
unfolding list_read_outcome
returns c =
    let good = told_good _ c.map_err.result c.judge_list.result c.in_ok-n.n c.map_err.ensures.cases (search rules) in
    let left : List ℕ → EntriesLeft = λ xs. record { outcome = delivered (c.in_ok-n.n ∷ []); entries = xs } in
    ap left c.store_entries.ensures ∙ sym (good_read _ _ (sym c.judge_list.ensures ∙ good) _ (omega arith))
