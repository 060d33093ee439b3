-- `hca_files::wavs::store_note` meets its contract. Assumes nothing.
use Rattle.hca_files.proofs.WavStores.{over-two}
use Rattle.hca_files.proofs.wavs.store_note.Goals as goal

pub returns : goal.returns
returns c = over-two c.args.note.now _ _ c.requires
