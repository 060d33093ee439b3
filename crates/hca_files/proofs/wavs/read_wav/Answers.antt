-- `hca_files::wavs::read_wav` meets its contract. Assumes nothing.
use Rattle.hca_files.proofs.WavStores.{note-short, answer-short, take_done}
use Rattle.hca_files.proofs.wavs.read_wav.Goals as goal

pub returns-then-note-lt2 : goal.returns-then-note-lt2
returns-then-note-lt2 c = let s = c.args in
    note-short s.wav.now s.samples.now s.note.now s.answer.now _ _ c.if-note-lt2.true
    c.refuse.ensures

pub returns-then-answer-lt4 : goal.returns-then-answer-lt4
returns-then-answer-lt4 c = let s = c.args in
    answer-short s.wav.now s.samples.now s.note.now s.answer.now c.if-note-lt2.false c.if-answer-lt4.true

pub returns : goal.returns
returns c =
    let s = c.args in
    take_done s.wav.now s.samples.now s.note.now s.answer.now
    c.if-note-lt2.false
    c.if-answer-lt4.false _ _ _ _ _
    c.read_wav-a.ensures.0
    c.store_wav.ensures.0 c.store_wav.ensures.1
