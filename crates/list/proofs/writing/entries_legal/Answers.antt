-- `list::writing::entries_legal` meets its contract. Assumes nothing.
use mathlib.Core.Path.{refl, ◌∙◌}
use native.Mathlib.Omega.{arith}
use Rattle.std.proofs.Common.{rules}
use Rattle.std.proofs.lemmas.Iterator.{YieldsList-from_range}
use Rattle.std.proofs.lemmas.Iterator.Search.{all_from_yields_List}
use Rattle.rules_files.specs.List.{legal_entry, legal_entries, entry_at}
use Rattle.rules_files.proofs.Ranges.{all-range}
use Rattle.list.proofs.writing.entries_legal.Goals as goal

pub returns : goal.returns
unfolding legal_entries
returns c =
    all_from_yields_List (λ i. legal_entry (entry_at c.args.entries.now i)) _ _ c.all.result c.all.ensures.ran
    (YieldsList-from_range 0 c.args.n c.args.n refl (omega arith)) (λ x b q k. search rules)
    ∙ all-range _ c.args.n
