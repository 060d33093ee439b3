use mathlib.Core.Path.{◌≡◌, sym, ap, ap₂, ◌∙◌}
use Prim.Native.Nat.{◌+◌, max}
use native.Mathlib.Omega.{arith}
use borrow.Author.Rules.{rules}
use Rattle.buffers.proofs.Scan.{sum-none, sum_more}
use Rattle.rules_files.specs.List.{summary_of}
use Rattle.rules_files.specs.declared.list.Entry.{Entry}
use Rattle.rules_files.proofs.Entries.{entries_at}
use Rattle.rules_files.proofs.Summaries.{max_none, max_more}
use Rattle.list.proofs.summing.sum_entries.Invariants.{its}
use Rattle.list.proofs.summing.sum_entries.Goals as goal

pub loop-i-init : goal.loop-i-init
loop-i-init c = (sym (max_none _), sym (max_none _), sym (sum-none _), search rules)

pub loop-i-preserved : goal.loop-i-preserved
loop-i-preserved c =
    let h = c.loop-i-test.true in
    let e : c.entry_in-entry.result ≡ its c.args.list.now c.loop-i.i =
    c.entry_in-entry.ensures ∙ sym (entries_at c.args.list.now c.loop-i.i (rw c.requires.0 at h)) in (
      c.max-level.ensures ∙ ap₂ max c.loop-i.invariant.0 (c.from.ensures ∙ ap (λ (x : Entry). x.level) e) ∙ sym (max_more _ _),
      c.max-pairs.ensures ∙ ap₂ max c.loop-i.invariant.1 (c.from-in-loop-i.ensures ∙ ap (λ (x : Entry). x.pairs) e) ∙ sym (max_more _ _),
      ap₂ ◌+◌ c.loop-i.invariant.2 (c.from-bits.ensures ∙ ap (λ (x : Entry). x.bits) e) ∙ sym (sum_more _ _),
      search rules,
    )

pub returns : goal.returns
unfolding summary_of
returns c =
    let q : c.loop-i.i ≡ c.args.n = omega arith in
    λ j. record { level = (rw q at c.loop-i.invariant.0) j; pairs = (rw q at c.loop-i.invariant.1) j; bits = (rw q at c.loop-i.invariant.2) j }
