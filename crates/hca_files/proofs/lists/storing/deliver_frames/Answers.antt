-- `hca_files::lists::storing::deliver_frames` meets its contract. Assumes nothing.
use mathlib.Core.Path.{refl}
use Rattle.hca_answers.specs.Outcomes.{result_of}
use Rattle.hca_files.proofs.ListStoring.{stored-frames}
use Rattle.hca_files.proofs.lists.storing.deliver_frames.Goals as goal

pub returns : goal.returns
unfolding result_of
returns c = record { answered = refl; shown = stored-frames _ _ c.requires.1 }
