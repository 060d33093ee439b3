-- `hca_files::lists::storing::deliver_entry` meets its contract. Assumes nothing.
use mathlib.Core.Path.{refl}
use native.Mathlib.Omega.{arith}
use lib.ListN.{set, length-set}
use Rattle.hca_answers.specs.Outcomes.{result_of}
use Rattle.hca_answers.proofs.Places.{stored-four}
use Rattle.hca_files.proofs.lists.storing.deliver_entry.Goals as goal

pub bounds-answer-1 : goal.bounds-answer-1
bounds-answer-1 c = omega (arith, length-set c.args.answer.now 0 c.args.entry.level)

pub bounds-answer-2 : goal.bounds-answer-2
bounds-answer-2 c =
    let xs = set c.args.answer.now 0 c.args.entry.level in
    omega (arith, length-set c.args.answer.now 0 c.args.entry.level, length-set xs 1 c.args.entry.boundary)

pub returns : goal.returns
unfolding result_of
returns c = record { answered = refl; shown = stored-four _ _ _ _ _ c.requires }
