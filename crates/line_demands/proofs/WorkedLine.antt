-- A line of two frames, worked out: the two loud inputs of the stage's own examples, in buffers that hold something and are longer than they need to be, with
-- a tally that has counted before. Assumes nothing.
use mathlib.Core.Path.{◌≡◌, refl, ap, ◌∙◌}
use mathlib.Core.List.{List, [], ◌∷◌, ◌++◌}
use mathlib.Core.Bool.{true}
use mathlib.Core.Option.{none}
use Prim.Native.Nat.{ℕ, ◌≤◌}
use native.Mathlib.Omega.{arith}
use lib.IntN.{pos}
use lib.ListN.{length, replicate, length-replicate}
use lib.Seq.{take_all}
use Rattle.buffers.specs.Walk.{blocks}
use Rattle.floats.specs.Single.{one_f}
use Rattle.rules.specs.Layout.{legal_layout, spectrum_length, side_length, has_room}
use Rattle.rules.specs.Fields.{fields}
use Rattle.rules.specs.Frame.{field_end, frame_of}
use Rattle.rules.specs.Refusals.{delivered}
use Rattle.rules.specs.Lent.{no_side}
use Rattle.rules.specs.Stage.{StageLent, StageLeft, stage_room, stage_has_room, stage_record, after_level, stage_overwrite, encode_frame}
use Rattle.rules.specs.declared.Layout.{Layout}
use Rattle.rules.proofs.Cuts.{get_or_copies}
use Rattle.rules_worked.proofs.Runs.{Example, Right, stage_made, done, settled_done, run_made}
use Rattle.rules_worked.proofs.Inputs.{loud, later, right, frames, loud_bytes, later_bytes}
use Rattle.rules_stereo.specs.Stereo.{with_signal, lent_signal}
use Rattle.rules_line.specs.Line.{LineLent, LineLeft, line_lent, batch_fits, line_has_room, line_gate, stage_step, frame_lent, frame_placed, step_at, answers_of}
use Rattle.rules_line.specs.Line.{tally_after}
use Rattle.rules_line.specs.Line.{turn_outcome, turn_index, line_turn, line_kept, turn_lent, line_after, encode_line}
use Rattle.rules_line.proofs.Turns.{turn_after, after_next}
use Rattle.line_demands.proofs.Over.{Admits, over-after}

-- ---- the stage on an example's spectra, in any buffers

module _ (e : Example) (r : Right e) (bytes : List ℕ) (f : frame_of e.layout (stage_record e.layout e.analysis) ≡ bytes)
    (h : e.analysis.found.level ≤ 254) (n : e.bits ≤ field_end e.layout) where
  in_buffers : (u : StageLent) → u.spectra ≡ e.spectra → u.intensities ≡ no_side e.layout → stage_has_room e.layout (stage_room u) ≡ true
      → encode_frame e.layout u ≡ stage_overwrite u (done e.analysis e.bits bytes)
  in_buffers u s i room =
      let l = e.layout in
      let exact : length u.spectra ≡ spectrum_length l = ap length s ∙ ap (λ w. w.size) r in
      let counted : length (fields l (stage_record l e.analysis)) ≡ e.bits = ap (λ w. w.bits) r in
      stage_made l u (ap (λ w. w.legal) r) room exact (rw s (ap (λ w. w.whole) r)) (λ j. rw i (omega (arith, get_or_copies {A = ℕ} 0 (side_length l) j)))
      ∙ ap (λ m. stage_overwrite u (after_level l m))
      (rw (
        take_all (spectrum_length l) u.spectra (omega arith),
        s,
        i,
        take_all (side_length l) (no_side l) (omega (arith, length-replicate {A = ℕ} (side_length l) 0)),
      ) (run_made e r))
      ∙ ap (stage_overwrite u) (settled_done l e.analysis e.bits bytes h counted n f)

-- ---- the line

abbrev pub its : Layout
its = loud.layout

-- a byte, an answer and values of the work buffers more than are needed
abbrev pub lent : LineLent
lent =
    line_lent (loud.spectra ++ later.spectra) (replicate 16 0) (replicate 1025 one_f) (replicate 1025 (pos 1)) (replicate 129 1) (replicate 9 1)
    (replicate 35 0xEE) (replicate 9 9) (record { frames = 5; bits = 1000; pairs = 7 })

-- after the first frame
abbrev one : LineLeft
one = record {
  outcome = delivered [];
  index = none;
  spectra = lent.spectra;
  intensities = lent.intensities;
  scaled = loud.analysis.scaled ++ (one_f ∷ []);
  codes = loud.analysis.codes ++ (pos 1 ∷ []);
  factors = loud.analysis.found.factors ++ (1 ∷ []);
  side = loud.analysis.side ++ (1 ∷ []);
  frames = loud_bytes ++ replicate 18 0xEE;
  answers = 173 ∷ 1 ∷ 0 ∷ 116 ∷ replicate 5 9;
  tally = record { frames = 6; bits = 1116; pairs = 7 };
}

-- after both
abbrev pub both : LineLeft
both = record {
  outcome = delivered [];
  index = none;
  spectra = lent.spectra;
  intensities = lent.intensities;
  scaled = later.analysis.scaled ++ (one_f ∷ []);
  codes = later.analysis.codes ++ (pos 1 ∷ []);
  factors = later.analysis.found.factors ++ (1 ∷ []);
  side = later.analysis.side ++ (1 ∷ []);
  frames = loud_bytes ++ (later_bytes ++ (0xEE ∷ []));
  answers = 173 ∷ 1 ∷ 0 ∷ 116 ∷ 173 ∷ 1 ∷ 0 ∷ 120 ∷ 9 ∷ [];
  tally = record { frames = 7; bits = 1236; pairs = 7 };
}

admitted : Admits its 2 lent
unfolding line_gate legal_layout batch_fits line_has_room blocks
admitted = refl

first-turn : turn_after stage_step its 0 (line_kept lent (delivered [])) ≡ one
unfolding line_turn step_at stage_step turn_outcome turn_index answers_of tally_after stage_has_room has_room blocks
first-turn =
    let u = frame_lent its 0 (turn_lent (line_kept lent (delivered []))) in
    let x = in_buffers loud right.4 loud_bytes frames.2 (omega arith) (omega arith) u refl refl refl in
    ap (λ (y : StageLeft). line_turn 0 (frame_placed its 0 (turn_lent (line_kept lent (delivered []))) (with_signal (lent_signal u) y)) lent.answers
    lent.tally) x

second_turn : turn_after stage_step its 1 one ≡ both
unfolding line_turn step_at stage_step turn_outcome turn_index answers_of tally_after stage_has_room has_room blocks
second_turn =
    let u = frame_lent its 1 (turn_lent one) in
    let x = in_buffers later right.5 later_bytes frames.3 (omega arith) (omega arith) u refl refl refl in
    ap (λ (y : StageLeft). line_turn 1 (frame_placed its 1 (turn_lent one) (with_signal (lent_signal u) y)) one.answers one.tally) x

-- Two frames are delivered: their bytes and their answers stand one after the other, the work buffers are those of the second, the tally has gained two
-- frames, 236 bits and no pairs, and what is longer keeps its rest.
pub two-frames : encode_line its 2 lent ≡ both
unfolding line_after
two-frames =
    let a : line_after stage_step its lent 1 ≡ one = after_next stage_step its lent 0 (line_kept lent (delivered [])) refl refl ∙ first-turn in
    over-after stage_step its 2 lent admitted ∙ after_next stage_step its lent 1 one a refl ∙ second_turn
