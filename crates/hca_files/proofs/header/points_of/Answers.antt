-- `hca_files::header::points_of` meets its contract. Assumes nothing.
use borrow.Author.Tests.{lt-ltb, le-ltb}
use Rattle.hca_files.specs.WriteHeader.{points_of}
use Rattle.hca_files.proofs.header.points_of.Goals as goal

pub returns-then-points-lt2 : goal.returns-then-points-lt2
unfolding points_of
returns-then-points-lt2 c = rw (lt-ltb _ _ c.if-points-lt2.true)

pub returns : goal.returns
unfolding points_of
returns c = rw (le-ltb _ _ c.if-points-lt2.false)
