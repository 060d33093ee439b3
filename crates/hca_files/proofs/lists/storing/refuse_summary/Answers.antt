-- `hca_files::lists::storing::refuse_summary` meets its contract. Assumes nothing.
use mathlib.Core.Path.{refl}
use Rattle.hca_answers.specs.Outcomes.{result_of}
use Rattle.hca_files.proofs.ListStoring.{stored-none}
use Rattle.hca_files.proofs.lists.storing.refuse_summary.Goals as goal

pub returns : goal.returns
unfolding result_of
returns c = record { answered = refl; shown = stored-none _ c.args.number c.requires.1 }
