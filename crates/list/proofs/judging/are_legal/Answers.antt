-- `list::judging::are_legal` meets its contract. Assumes nothing.
use mathlib.Core.Path.{refl, sym, ◌∙◌}
use native.Mathlib.Omega.{arith}
use Rattle.std.proofs.Common.{rules}
use Rattle.std.proofs.lemmas.Iterator.{YieldsList-from_range}
use Rattle.std.proofs.lemmas.Iterator.Search.{all_from_yields_List}
use Rattle.rules_files.specs.List.{legal_entry, legal_entries, entry_in}
use Rattle.rules_files.proofs.Entries.{entry-judged}
use Rattle.rules_files.proofs.Ranges.{all-range, every_same}
use Rattle.list.proofs.judging.are_legal.Goals as goal

pub returns : goal.returns
unfolding legal_entries
returns c =
    let list = c.args.list.now in
    all_from_yields_List (λ i. legal_entry (entry_in list i)) _ _ c.all.result c.all.ensures.ran
    (YieldsList-from_range 0 c.args.n c.args.n refl (omega arith)) (λ x b q k. search rules)
    ∙ all-range _ c.args.n
    ∙ every_same _ _ c.args.n (λ i h. sym (entry-judged list c.args.n i c.requires.0 h _ _ refl refl))
