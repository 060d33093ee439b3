-- `list::judging::judge_list` meets its contract. Assumes nothing.
use mathlib.Core.Path.{◌≡◌, sym, ◌∙◌}
use mathlib.Core.Bool.{true}
use native.Mathlib.Omega.{arith}
use Rattle.rules_files.specs.List.{is_marked}
use Rattle.rules_files.proofs.Lists.{marked_long, judged_mark, judged-length, judged-entry, judged-good}
use Rattle.list.proofs.judging.judge_list.Lts as lts
use Rattle.list.proofs.judging.judge_list.Tie as tie
use Rattle.list.proofs.judging.judge_list.Reads as reads
use Rattle.list.proofs.judging.judge_list.Goals as goal

pub returns-then-not-is_marked : goal.returns-then-not-is_marked
returns-then-not-is_marked c = judged_mark _ (sym c.is_marked.ensures ∙ c.if-not-is_marked.true)

marked : (c : lts.Else1 tie.the-claims reads.Pre reads.Post) → is_marked c.args.list.now ≡ true
marked c = sym c.is_marked.ensures ∙ c.if-not-is_marked.false

pub frames_in-n-requires : goal.frames_in-n-requires
frames_in-n-requires c = marked_long _ (marked c.before)

pub returns-then-list-n : goal.returns-then-list-n
returns-then-list-n c = judged-length _ _ (marked c.before.before.before) c.frames_in-n.ensures.0 (λ e. omega arith)

pub returns-then-not-are_legal : goal.returns-then-not-are_legal
returns-then-not-are_legal c =
    judged-entry _ _ (marked c.before.before.before.before.before) c.frames_in-n.ensures.0 (omega arith)
    (sym c.are_legal.ensures ∙ c.if-not-are_legal.true)

pub returns : goal.returns
returns c =
    judged-good _ _ (marked c.before.before.before.before.before) c.frames_in-n.ensures.0 (omega arith)
    (sym c.are_legal.ensures ∙ c.if-not-are_legal.false)
