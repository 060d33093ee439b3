-- Document 02's files, a file a request
-- A1: the file header's bytes, the whole call
pub mod FileHeader
-- A14: what is judged of a header, the layout and stream back, the whole call; bounds of its numbers
pub mod HeaderReading
pub mod HeaderReadFits
-- A7: the list's bytes, its judgement and summary, the four whole calls
pub mod List
-- A13: the walk over a WAV file's chunks, its samples and level note, the whole call; bounds of its numbers
pub mod Wav
pub mod WavFits
