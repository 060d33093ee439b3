-- `hca_files::lists::storing::deliver_summary` meets its contract. Assumes nothing.
use mathlib.Core.Path.{refl}
use native.Mathlib.Omega.{arith}
use lib.ListN.{length-set}
use Rattle.hca_answers.specs.Outcomes.{result_of}
use Rattle.hca_files.proofs.ListStoring.{stored_summary}
use Rattle.hca_files.proofs.lists.storing.deliver_summary.Goals as goal

pub bounds-answer-1 : goal.bounds-answer-1
bounds-answer-1 c = omega (arith, length-set c.args.answer.now 0 c.args.s.level)

pub returns : goal.returns
unfolding result_of
returns c = record { answered = refl; shown = stored_summary _ _ _ _ c.requires }
