-- `list::write_list` meets its contract. Assumes nothing.
use mathlib.Core.Path.{sym, ap, ◌∙◌}
use borrow.Author.Tests.{lt-ltb, le-ltb}
use mathlib.Core.List.{List, []}
use Prim.Native.Nat.{ℕ}
use Rattle.rules.specs.Refusals.{delivered}
use Rattle.rules_files.specs.List.{ListLeft, list_written_outcome, write_list}
use Rattle.rules_files.proofs.ListCalls.{list_written}
use Rattle.list.proofs.write_list.Goals as goal

pub returns-then-entries-n : goal.returns-then-entries-n
unfolding list_written_outcome write_list
returns-then-entries-n c = rw (lt-ltb _ _ c.if-entries-n.true)

pub returns-then-list-n : goal.returns-then-list-n
unfolding list_written_outcome write_list
returns-then-list-n c = rw (le-ltb _ _ c.if-entries-n.false, lt-ltb _ _ c.if-list-n.true)

pub returns-then-not-entries_legal : goal.returns-then-not-entries_legal
unfolding list_written_outcome write_list
returns-then-not-entries_legal c =
    rw (
      le-ltb _ _ c.if-entries-n.false,
      le-ltb _ _ c.if-list-n.false,
      sym c.entries_legal.ensures
          ∙ c.if-not-entries_legal.true,
    )

pub returns : goal.returns
unfolding list_written_outcome
returns c =
    let left : List ℕ → ListLeft = λ xs. record { outcome = delivered []; list = xs } in
    ap left c.put_list.ensures
    ∙ sym (list_written _ _ _ (record {
      numbers = c.if-entries-n.false;
      bytes = c.if-list-n.false;
      legal = sym c.entries_legal.ensures ∙ c.if-not-entries_legal.false;
    }))
