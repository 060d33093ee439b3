-- `list::list_entry` meets its contract. Assumes nothing.
use mathlib.Core.Path.{◌≡◌, sym, ap, ◌∙◌}
use native.Mathlib.Omega.{arith}
use borrow.Author.Rules.{rules}
use Rattle.std.specs.Prelude.{Ok, Err}
use Rattle.rules.specs.Refusals.{delivered}
use Rattle.rules_files.specs.List.{entry_numbers, entry_outcome, entry_refusal_of, judged_list}
use Rattle.rules_files.specs.declared.list.Entry.{Entry}
use Rattle.rules_files.proofs.ListCalls.{good-entry, good-past}
use Rattle.list.proofs.Answering.{entry_by, entry_refused, good-long}
use Rattle.list.proofs.list_entry.Goals as goal

pub returns-in_err-n : goal.returns-in_err-n
returns-in_err-n c =
    let j : c.judge_list.result ≡ Err c.in_err-n.field-0.0 = search rules in
    let r : c.from_residual.result ≡ Err (entry_refusal_of c.in_err-n.field-0.0) = search rules in
    ap entry_outcome r ∙ entry_refused _ c.args.list.now c.args.frame ∙ entry_by _ _ _ c.judge_list.ensures j c.args.frame

pub returns-then-frame-n : goal.returns-then-frame-n
unfolding entry_outcome
returns-then-frame-n c =
    let good : judged_list c.args.list.now ≡ Ok c.in_ok-n.n = search rules in
    sym (good-past _ _ good _ c.if-frame-n.true)

pub entry_in-requires : goal.entry_in-requires
entry_in-requires c =
    let good : judged_list c.args.list.now ≡ Ok c.in_ok-n.n = search rules in
    omega (arith, (good-long _ _ good).1)

pub returns : goal.returns
unfolding entry_outcome
returns c =
    let good : judged_list c.args.list.now ≡ Ok c.in_ok-n.n = search rules in
    ap (λ (e : Entry). delivered (entry_numbers e)) c.entry_in.ensures ∙ sym (good-entry _ _ good _ c.if-frame-n.false)
