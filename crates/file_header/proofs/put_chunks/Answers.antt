-- `file_header::put_chunks` meets its contract: one chunk after the other. Assumes nothing.
use Rattle.rules_files.proofs.Pieces.{header-stamped}
use Rattle.file_header.proofs.put_chunks.Goals as goal

pub returns : goal.returns
returns c =
    header-stamped _ _ _ _ _ _ _ _ _ _ c.put_magic.ensures c.put_format.ensures c.put_frame.ensures c.put_bands.ensures
    c.put_loop-next.ensures.2
    c.put_loop-next.ensures.0 c.put_tail.ensures
