use mathlib.Core.Path.{ap, ◌∙◌}
use native.Mathlib.Omega.{arith}
use Rattle.buffers.proofs.Blocks.{blocked_none, blocked_more}
use Rattle.rules_files.specs.List.{entry_bytes}
use Rattle.rules_files.proofs.Entries.{entry_length}
use Rattle.list.proofs.writing.put_entries.Invariants.{bytes_at}
use Rattle.list.proofs.writing.put_entries.Goals as goal

pub loop-i-init : goal.loop-i-init
loop-i-init c = blocked_none _ 8 _

pub loop-i-preserved : goal.loop-i-preserved
loop-i-preserved c =
    blocked_more (bytes_at c.args.entries.now) 8 c.args.n c.args.bytes.now (λ _ _. entry_length _) c.loop-i.i c.loop-i.bytes
    c.loop-i-test.true c.loop-i.invariant _ (omega arith)
    (c.copy_from_slice.ensures.after ∙ c.entry_bytes.ensures ∙ ap entry_bytes c.entry_at-entry.ensures)
