-- A line by numbers and slices, over any step: what a call returns, answers and leaves in every lent buffer.
use Rattle.std.specs.Prelude.{◌≡◌, List, [], ◌∷◌, cond, not, ℕ, ◌<◌, ltb, ℤ, Float, length, get_or, set}
use Rattle.std.proofs.Math.Option.{Option, none, some}
use Rattle.rules.specs.Lent.{overwrite}
use Rattle.rules.specs.Refusals.{Outcome, delivered, refused}
use Rattle.rules_stereo.specs.Stereo.{encode_stereo_frame}
use Rattle.rules_line.specs.Line.{LineLent, LineLeft, batch_fits, Step, stage_step, line_kept, line_over}
use Rattle.rules_line.specs.declared.Tally.{Tally}
use Rattle.hca_layout.specs.Layouts.{layout_of, is_layout}
use Rattle.hca_answers.specs.Outcomes.{result_of, answer_after, Small}

-- what a call returns, answers and leaves
pub record CLineLeft : Type 0 where
  pub result : ℕ
  pub answer : List ℕ
  pub spectra : List Float
  pub intensities : List ℕ
  pub scaled : List Float
  pub codes : List ℤ
  pub factors : List ℕ
  pub side : List ℕ
  pub frames : List ℕ
  pub answers : List ℕ
  pub tally : List ℕ

abbrev pub c_line_left : (result : ℕ) (answer : List ℕ) (spectra : List Float) (intensities : List ℕ) (scaled : List Float) (codes : List ℤ)
    (factors side frames answers tally : List ℕ) → CLineLeft
c_line_left result answer spectra intensities scaled codes factors side frames answers tally = record {
  result = result;
  answer = answer;
  spectra = spectra;
  intensities = intensities;
  scaled = scaled;
  codes = codes;
  factors = factors;
  side = side;
  frames = frames;
  answers = answers;
  tally = tally;
}

-- frames, bits and pairs; a count that is not there is 0
abbrev pub tally_in : (counts : List ℕ) → Tally
tally_in counts = record { frames = get_or counts 0 0; bits = get_or counts 1 0; pairs = get_or counts 2 0 }

abbrev pub counts_of : (tally : Tally) → List ℕ
counts_of tally = tally.frames ∷ tally.bits ∷ tally.pairs ∷ []

-- the index of a refused frame stands at the answer's second place; an answer under four places stays whole
unfoldable pub index_in : (index : Option ℕ) (answer : List ℕ) → List ℕ
index_in none answer = answer
index_in (some k) answer = cond (ltb (length answer) 4) answer (set answer 1 k)

-- what is told of a line: the number beside a refusal, and a frame's index; of a delivery nothing
abbrev pub line_answer_after : (o : Outcome) (index : Option ℕ) (answer : List ℕ) → List ℕ
line_answer_after o index answer = answer_after o (index_in index answer)

-- what a line left, with its outcome told and its counts stored
unfoldable pub c_line_from : (x : LineLeft) (counts tally answer : List ℕ) → CLineLeft
c_line_from x counts tally answer =
    c_line_left (result_of x.outcome) (line_answer_after x.outcome x.index answer) x.spectra x.intensities x.scaled x.codes x.factors
    x.side
    x.frames x.answers (overwrite counts tally)

-- refusal 1 where no layout is named, 18 by the counts that are there, 2 where tally or answer is short, each with every buffer kept; else the line
unfoldable pub c_line_over : (step : Step) (numbers kinds : List ℕ) (count : ℕ) (lent : Tally → LineLent) (tally answer : List ℕ) → CLineLeft
c_line_over step numbers kinds count lent tally answer =
    let t = lent (tally_in tally) in
    let x = line_over step (layout_of numbers kinds) count t in
    cond (not (is_layout numbers kinds)) (c_line_from (line_kept t (refused 1 0)) [] tally answer)
    (cond (not (batch_fits count (tally_in tally))) (c_line_from (line_kept t (refused 18 0)) [] tally answer)
    (cond (ltb (length tally) 3) (c_line_from (line_kept t (refused 2 0)) [] tally answer)
    (cond (ltb (length answer) 4) (c_line_from (line_kept t (refused 2 0)) [] tally answer)
    (c_line_from x (counts_of x.tally) tally answer))))

-- from mixed spectra, and from unmixed ones
abbrev pub c_encode_line : (numbers kinds : List ℕ) (count : ℕ) (lent : Tally → LineLent) (tally answer : List ℕ) → CLineLeft
c_encode_line = c_line_over stage_step

abbrev pub c_encode_stereo_line : (numbers kinds : List ℕ) (count : ℕ) (lent : Tally → LineLent) (tally answer : List ℕ) → CLineLeft
c_encode_stereo_line = c_line_over encode_stereo_frame

-- the index of a refused frame fits 32 bits
unfoldable pub IndexFits : (index : Option ℕ) → Type 0
IndexFits index = (k : ℕ) → index ≡ some k → k < 4294967296

-- what is told of a line fits its places, and a frame is named only where one was refused
pub record LineSmall (o : Outcome) (i : Option ℕ) : Type 0 where
  pub numbers : Small o
  pub index : IndexFits i
  pub refuses : (k : ℕ) (ns : List ℕ) → i ≡ some k → o ≡ delivered ns → ⊥
