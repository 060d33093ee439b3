-- `hca_files::wavs::store_wav` meets its contract. Assumes nothing.
use Rattle.rules_files.specs.Wav.{wav_outcome, wav_note}
use Rattle.hca_files.proofs.WavStores.{refusal-fits, refusal-stored, take-fits, wav_stored}
use Rattle.hca_files.proofs.wavs.store_wav.Goals as goal

pub deliver_take-requires-clause-channels_bound : goal.deliver_take-requires-clause-channels_bound
deliver_take-requires-clause-channels_bound c = take-fits _ _ c.in-Ok.is c.requires.take_fits

pub refuse-requires : goal.refuse-requires
refuse-requires c = refusal-fits c.in-Err.e _ c.from-r.ensures

pub returns-in-Ok : goal.returns-in-Ok
unfolding wav_outcome wav_note
returns-in-Ok c = wav_stored _ _ c.in-Ok.is _ _ _ _ _ (c.store_note.ensures, c.deliver_take.ensures)

pub returns-in-Err : goal.returns-in-Err
returns-in-Err c = wav_stored _ _ c.in-Err.is _ _ _ _ _ (refusal-stored c.in-Err.e _ c.from-r.ensures _ _ _ _ c.refuse.ensures)
