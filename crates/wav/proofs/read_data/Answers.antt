-- `wav::read_data` meets its contract. Assumes nothing.
use mathlib.Core.Path.{sym, ◌∙◌}
use Rattle.wav.specs.Inside.{SamplesInside}
use Rattle.wav.proofs.Answers.{data_empty, data_depth, data_many, data_short, data_finite, data_taken, lent_length, lent_inside}
use Rattle.wav.proofs.read_data.Lts as lts
use Rattle.wav.proofs.read_data.Tie as tie
use Rattle.wav.proofs.read_data.Reads as reads
use Rattle.wav.proofs.read_data.Goals as goal

pub returns-then-found-eq0 : goal.returns-then-found-eq0
returns-then-found-eq0 c = data_empty _ _ _ c.if-found-eq0.true

pub returns-then-not-is_depth : goal.returns-then-not-is_depth
returns-then-not-is_depth c = data_depth _ _ _ c.if-found-eq0.false (sym c.is_depth.ensures ∙ c.if-not-is_depth.true)

pub whole_samples-count-requires : goal.whole_samples-count-requires
whole_samples-count-requires c = (
  (sym c.is_depth.ensures ∙ c.if-not-is_depth.false),
  c.requires.body,
)

pub returns-then-count-gt16777216 : goal.returns-then-count-gt16777216
returns-then-count-gt16777216 c = data_many _ _ _ c.if-found-eq0.false
    (sym c.is_depth.ensures ∙ c.if-not-is_depth.false) _ c.whole_samples-count.ensures.0 c.if-count-gt16777216.true

pub returns-then-samples-count : goal.returns-then-samples-count
returns-then-samples-count c = data_short _ _ _ c.if-found-eq0.false
    (sym c.is_depth.ensures ∙ c.if-not-is_depth.false) _
    c.whole_samples-count.ensures.0 c.if-count-gt16777216.false c.if-samples-count.true

-- the samples lie in the file
inside : (c : lts.Else4 tie.the-claims reads.Pre reads.Post tie.handed_clauses) → SamplesInside c.args.wav.now
    c.args.found.format.depth
    c.args.found.body c.whole_samples-count.result
inside c = record {
  known = (sym c.is_depth.ensures ∙ c.if-not-is_depth.false);
  ends =
      c.whole_samples-count.ensures.1;
  few = c.if-count-gt16777216.false;
}

pub all_finite-requires : goal.all_finite-requires
all_finite-requires c = inside c.before

pub returns-then-not-all_finite : goal.returns-then-not-all_finite
returns-then-not-all_finite c =
    data_finite _ _ _ c.if-found-eq0.false
    (sym c.is_depth.ensures ∙ c.if-not-is_depth.false) _
    c.whole_samples-count.ensures.0 c.if-count-gt16777216.false c.if-samples-count.false
    (sym c.all_finite.ensures ∙ c.if-not-all_finite.true)

pub slice_bounds-take_samples-end-2 : goal.slice_bounds-take_samples-end-2
slice_bounds-take_samples-end-2 c = lent_length _ _ c.if-samples-count.false

pub take_samples-note-requires : goal.take_samples-note-requires
take_samples-note-requires c =
    let lent = lent_inside _ _ _ _ _ c.if-samples-count.false (inside c.before.before.before.before)
    (sym c.all_finite.ensures ∙ c.if-not-all_finite.false) in
    record { samples_inside = lent.0; samples_value = lent.1 }

pub returns : goal.returns
returns c =
    data_taken c.args.wav.now c.args.found c.args.samples.now
    c.if-found-eq0.false
    (sym c.is_depth.ensures
    ∙ c.if-not-is_depth.false) _
    c.whole_samples-count.ensures.0
    c.if-count-gt16777216.false c.if-samples-count.false
    (sym c.all_finite.ensures ∙ c.if-not-all_finite.false) c.requires.fields _ _
    c.take_samples-note.ensures.0 c.take_samples-note.ensures.1
