-- `list::judging::entry_from` meets its contract. Assumes nothing.
use Rattle.rules_files.specs.List.{entry_from}
use Rattle.list.proofs.judging.entry_from.Goals as goal

pub returns : goal.returns
unfolding entry_from
returns c = λ i. record {
  level = c.get_word.ensures i;
  boundary = c.get_word-2.ensures i;
  pairs = c.get_word-3.ensures i;
  bits = c.get_word-4.ensures i;
}
