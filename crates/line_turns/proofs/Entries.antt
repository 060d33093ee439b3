-- What the gate's answer makes of the whole call, over any step: a refusal keeps all, an open gate lets the frames be tried. Assumes nothing.
use mathlib.Core.Path.{◌≡◌, sym, ◌∙◌, ap}
use mathlib.Core.List.{[]}
use mathlib.Core.Option.{none, some}
use mathlib.Core.Bool.{Bool, true, false, cond, not}
use Prim.Native.Nat.{ℕ}
use native.Mathlib.Omega.{arith}
use lib.ListN.{length}
use Rattle.std.specs.Prelude.{Result, Ok, Err, ⊤}
use Rattle.rules.specs.Layout.{legal_layout}
use Rattle.rules.specs.Refusals.{Outcome, delivered, refused}
use Rattle.rules.specs.declared.Layout.{Layout}
use Rattle.rules_line.specs.Line.{line_outcome_by, line_index, LineLent, LineLeft, left_with, Step, batch_fits, line_has_room, line_room, line_gate}
use Rattle.rules_line.specs.Line.{line_behind_gate, line_after, line_over}
use Rattle.rules_line.specs.declared.LineRefusal.{LineRefusal}
use Rattle.rules_line.specs.declared.LineRefusal.TheVariants.{BadLayout, BadBatch, ShortBuffer, Frame}
use Rattle.rules_line.proofs.Gates.{Admitted, gate_open}
use Rattle.line_gate.specs.Gate.{line_gate_outcome}

-- it delivers no frame
no_delivery : (a b c : Bool) → some (delivered []) ≡ cond (not a) (some (refused 1 0)) (cond (not b) (some (refused 18 0)) (cond (not c) (some
    (refused 2 0)) none)) → ⊥
no_delivery false b c e = let z : ◌≡◌ {A = ℕ} 0 1 = cc e in absurd (omega arith)
no_delivery true false c e = let z : ◌≡◌ {A = ℕ} 0 1 = cc e in absurd (omega arith)
no_delivery true true false e = let z : ◌≡◌ {A = ℕ} 0 1 = cc e in absurd (omega arith)
no_delivery true true true e = let z : ◌≡◌ {A = ℕ} 0 1 = cc e in absurd (omega arith)

module _ {R : Type 0} (refusal : R → Outcome) (step : Step) (l : Layout) (count : ℕ) (t : LineLent) where
  -- what the gate answers
  abbrev pub Gated : Result ⊤ (LineRefusal R) → Type 0
  Gated g = line_gate_outcome g ≡ line_gate l count (line_room t) (length t.answers) t.tally

  by_gate : (g : Result ⊤ (LineRefusal R)) → Gated g → line_behind_gate (line_gate_outcome g) t (line_after step l t count) ≡ line_over step l count t
  unfolding line_over
  by_gate g e = ap (λ o. line_behind_gate o t (line_after step l t count)) e

  -- shut, with a refusal
  pub line_refuses : (r : LineRefusal R) → Gated (Err r)
      → left_with (line_outcome_by refusal (Err r)) (line_index {R = R} (Err r)) t.tally t.spectra t.intensities t.scaled t.codes t.factors t.side t.frames
      t.answers ≡ line_over step l count t
  unfolding line_behind_gate line_gate_outcome line_gate line_outcome_by line_index
  line_refuses BadLayout e = by_gate (Err BadLayout) e
  line_refuses BadBatch e = by_gate (Err BadBatch) e
  line_refuses ShortBuffer e = by_gate (Err ShortBuffer) e
  line_refuses (Frame k r) e = absurd (no_delivery (legal_layout l) (batch_fits count t.tally) (line_has_room l count (line_room t) (length t.answers)) e)

  module _ (done : ⊤) (e : Gated (Ok done)) where
    pub line_admits : Admitted l count (line_room t) (length t.answers) t.tally
    unfolding line_gate_outcome
    line_admits = gate_open l count (line_room t) (length t.answers) t.tally (sym e)

    pub line_runs : (x : LineLeft) → x ≡ line_after step l t count → x ≡ line_over step l count t
    unfolding line_behind_gate line_gate_outcome
    line_runs x q = q ∙ by_gate (Ok done) e
