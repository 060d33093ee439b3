-- `list::list_summary` meets its contract. Assumes nothing.
use mathlib.Core.Path.{◌≡◌, sym, ap, ◌∙◌}
use native.Mathlib.Omega.{arith}
use borrow.Author.Rules.{rules}
use Rattle.std.specs.Prelude.{Ok, Err}
use Rattle.rules.specs.Refusals.{delivered}
use Rattle.rules_files.specs.List.{summary_numbers, summary_outcome, summary_refusal_of, judged_list}
use Rattle.rules_files.specs.declared.list.Summary.{Summary}
use Rattle.rules_files.proofs.ListCalls.{good_summed}
use Rattle.list.proofs.Answering.{summed_by, summary_refused, good-long, good-few}
use Rattle.list.proofs.list_summary.Goals as goal

pub returns-in_err-n : goal.returns-in_err-n
returns-in_err-n c =
    let j : c.judge_list.result ≡ Err c.in_err-n.field-0.0 = search rules in
    let r : c.from_residual.result ≡ Err (summary_refusal_of c.in_err-n.field-0.0) = search rules in
    ap summary_outcome r ∙ summary_refused _ c.args.list.now ∙ summed_by _ _ _ c.judge_list.ensures j

pub sum_entries-requires : goal.sum_entries-requires
sum_entries-requires c =
    let good : judged_list c.args.list.now ≡ Ok c.in_ok-n.n = search rules in
    let g = good-long _ _ good in
    (g.0, g.1, good-few _ _ good (λ k. omega (arith, c.type_inv.list k)))

pub returns : goal.returns
unfolding summary_outcome
returns c =
    let good : judged_list c.args.list.now ≡ Ok c.in_ok-n.n = search rules in
    ap (λ (s : Summary). delivered (summary_numbers s)) c.sum_entries.ensures ∙ sym (good_summed _ _ good)
