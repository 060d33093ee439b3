-- `file_header::chunks::put_loop` meets its contract: nothing without a loop, else its five pieces. Assumes nothing.
use mathlib.Core.Path.{subst, ◌∙◌}
use native.Mathlib.Omega.{arith}
use Rattle.rules_files.specs.FileHeader.{after_loop, loop_pieces, PointsFit}
use Rattle.rules_files.proofs.Pieces.{put_none}
use Rattle.file_header.proofs.chunks.put_loop.Goals as goal

pub returns-in_default : goal.returns-in_default
unfolding after_loop loop_pieces
returns-in_default c =
    let e = c.in_default.is in
    (rw e, omega arith, rw e (put_none _))

pub loop_fields-requires : goal.loop_fields-requires
loop_fields-requires c = subst PointsFit c.in-Some.is c.requires

pub returns : goal.returns
unfolding after_loop loop_pieces
returns c =
    let e = c.in-Some.is in
    (rw e, omega arith, c.put_fields.ensures ∙ rw (e, c.loop_fields.ensures))
