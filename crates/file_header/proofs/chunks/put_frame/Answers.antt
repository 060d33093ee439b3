-- `file_header::chunks::put_frame` meets its contract: one piece after the other. Assumes nothing.
use Rattle.rules_files.proofs.Pieces.{put_first, put_none}
use Rattle.file_header.proofs.chunks.put_frame.Goals as goal

pub returns : goal.returns
returns c =
    put_first _ _ _ _ _ c.put_high.ensures
    (put_first _ _ _ _ _ c.put_high-2.ensures
    (put_first _ _ _ _ _ c.put_high-3.ensures
    (put_first _ _ _ _ _ c.put_high-4.ensures
    (put_first _ _ _ _ _ c.put_high-5.ensures
    (put_none _)))))
