-- `file_header::chunks::put_bands` meets its contract: one piece after the other. Assumes nothing.
use Rattle.rules_files.proofs.Pieces.{put_first, put_worked, put_none}
use Rattle.file_header.proofs.chunks.put_bands.Goals as goal

pub returns : goal.returns
returns c =
    put_worked _ _ _ _ _ _ c.channel_config-config.ensures c.put_high.ensures
    (put_first _ _ _ _ _ c.put_high-2.ensures
    (put_first _ _ _ _ _ c.put_high-3.ensures
    (put_first _ _ _ _ _ c.put_high-4.ensures
    (put_worked _ _ _ _ _ _ c.bands_per_group-per_group.ensures.0 c.put_high-5.ensures (put_none _)))))
