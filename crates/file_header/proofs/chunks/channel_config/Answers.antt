-- `file_header::chunks::channel_config` meets its contract: the constant is the table of the definition. Assumes nothing.
use mathlib.Core.Path.{refl}
use Rattle.rules_files.specs.FileHeader.{channel_mapping}
use Rattle.file_header.proofs.chunks.channel_config.Goals as goal

pub returns : goal.returns
unfolding channel_mapping
returns c = refl
