-- `read_head` reads level and boundary. Assumes nothing.
use mathlib.Core.Path.{sym, ◌∙◌}
use Rattle.reader_channels.proofs.Heads.{started}
use Rattle.reader_channels.proofs.level_and_boundary.read_head.Goals as goal

pub returns : goal.returns
returns c = λ l. started l c.args.part.now (sym c.get.ensures ∙ c.in_ok-level.was) (sym c.get-2.ensures ∙ c.in_ok-boundary.was)
