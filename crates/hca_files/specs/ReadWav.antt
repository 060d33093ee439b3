-- The WAV reader by numbers and slices: what a call returns, answers and leaves in every lent buffer.
use Rattle.std.specs.Prelude.{List, cond, ◌||◌, ℕ, ltb, Float, length}
use Rattle.rules.specs.Lent.{overwrite}
use Rattle.rules_files.specs.Wav.{WavLeft, wav_refused, read_wav}
use Rattle.hca_answers.specs.Outcomes.{result_of, answer_after}

pub record CWavLeft : Type 0 where
  pub result : ℕ
  pub samples : List Float
  pub note : List Float
  pub answer : List ℕ

abbrev pub c_wav_left : (result : ℕ) (samples note : List Float) (answer : List ℕ) → CWavLeft
c_wav_left result samples note answer = record { result = result; samples = samples; note = note; answer = answer }

-- the note over the lent one's front, the numbers over the answer's
unfoldable pub c_wav_from : (x : WavLeft) (note : List Float) (answer : List ℕ) → CWavLeft
c_wav_from x note answer = c_wav_left (result_of x.outcome) x.samples (overwrite x.note note) (answer_after x.outcome answer)

-- refusal 2 first where the note has under two places or the answer under four
unfoldable pub c_read_wav : (wav : List ℕ) (samples note : List Float) (answer : List ℕ) → CWavLeft
c_read_wav wav samples note answer =
    cond (ltb (length note) 2 || ltb (length answer) 4) (c_wav_from (wav_refused 2 samples) note answer)
    (c_wav_from (read_wav wav samples) note answer)
