use mathlib.Core.Path.{refl, ap, ◌∙◌}
use native.Mathlib.Omega.{arith}
use borrow.Author.Rules.{rules}
use Rattle.buffers.proofs.Blocks.{blocked_none, blocked_more, blocked_all}
use Rattle.rules_files.specs.List.{entry_numbers}
use Rattle.list.proofs.Laying.{numbers_laid}
use Rattle.list.proofs.reading.store_entries.Invariants.{numbers_at}
use Rattle.list.proofs.reading.store_entries.Goals as goal

pub loop-i-init : goal.loop-i-init
loop-i-init c = blocked_none _ 4 _

pub loop-i-preserved : goal.loop-i-preserved
loop-i-preserved c =
    blocked_more (numbers_at c.args.list.now) 4 c.args.n c.args.entries.now (λ _ _. refl) c.loop-i.i c.loop-i.entries
    c.loop-i-test.true c.loop-i.invariant _ (omega arith)
    (c.store_entry.ensures ∙ ap entry_numbers c.entry_in-entry.ensures)

pub returns : goal.returns
returns c =
    numbers_laid _ _ c.args.entries.now _ c.requires.0
    (blocked_all _ 4 c.args.entries.now c.loop-i.i _ _ (search rules) (search rules) c.loop-i.invariant)
