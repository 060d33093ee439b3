-- `hca_files::header_reading::deliver_header` meets its contract. Assumes nothing.
use mathlib.Core.Path.{refl}
use native.Mathlib.Omega.{arith}
use lib.ListN.{length-set}
use Rattle.hca_answers.specs.Outcomes.{result_of}
use Rattle.hca_files.proofs.HeaderReadStores.{header-stored}
use Rattle.hca_files.proofs.header_reading.deliver_header.Goals as goal

pub loop_or-numbers-requires : goal.loop_or-numbers-requires
loop_or-numbers-requires c = c.requires.fields_fit.points

pub bounds-answer-1 : goal.bounds-answer-1
bounds-answer-1 c = simp length-set (omega arith)

pub bounds-answer-2 : goal.bounds-answer-2
bounds-answer-2 c = simp length-set (omega arith)

pub bounds-answer-3 : goal.bounds-answer-3
bounds-answer-3 c = simp length-set (omega arith)

pub bounds-answer-4 : goal.bounds-answer-4
bounds-answer-4 c = simp length-set (omega arith)

pub bounds-answer-5 : goal.bounds-answer-5
bounds-answer-5 c = simp length-set (omega arith)

pub bounds-answer-6 : goal.bounds-answer-6
bounds-answer-6 c = simp length-set (omega arith)

pub bounds-answer-7 : goal.bounds-answer-7
bounds-answer-7 c = simp length-set (omega arith)

pub returns : goal.returns
unfolding result_of
returns c =
    record { answered = refl; shown = header-stored c.args.fields _ _ _ c.requires.in_bounds c.loop_or-numbers.ensures.0 c.loop_flag.ensures }
