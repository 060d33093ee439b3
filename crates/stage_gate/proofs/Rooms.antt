-- The gate: its test of the lengths and the facts say the same, and the stage is what its gate lets pass. Assumes nothing.
use Rattle.std.specs.Prelude.{Result, Ok, Err, IsErr, IsErrAnd, ⊤}
use mathlib.Core.Path.{◌≡◌, refl, sym, ap, ◌∙◌}
use mathlib.Core.List.{List}
use mathlib.Core.Bool.{Bool, true, false, cond, not}
use mathlib.Core.Option.{Option, none, some}
use Prim.Native.Nat.{ℕ, ◌≤◌}
use native.Mathlib.Omega.{arith}
use borrow.Author.Tests.{le-leb, leb-true}
use lib.Dec.{leb}
use lib.Ieee.{Float}
use lib.ListN.{take}
use Rattle.buffers.proofs.Tests.{and_fst, and_snd, not_true_false}
use Rattle.rules.specs.Layout.{legal_layout, LegalLayout, spectrum_length, side_length, has_room}
use Rattle.rules.specs.Refusals.{Outcome}
use Rattle.rules.specs.Stage.{StageLent, StageLeft, stage_room, stage_has_room, gate, analysis, after_level, behind_gate, encode_frame}
use Rattle.rules.specs.declared.Layout.{Layout}
use Rattle.rules.specs.declared.StageRoom.{StageRoom}
use Rattle.rules.specs.declared.StageRefusal.{StageRefusal}
use Rattle.rules.proofs.Layouts.{legal_sizes, room_facts}
use Rattle.stage_gate.specs.Gate.{StageHasRoom, gate_outcome, judged_spectra, BeforeSpectra}

pub long_true : (l : Layout) (r : StageRoom) → spectrum_length l ≤ r.spectra → side_length l ≤ r.intensities → spectrum_length l ≤ r.scaled → stage_has_room l r
    ≡ has_room l r.stored
unfolding stage_has_room
long_true l r a b c = rw (le-leb _ _ a, le-leb _ _ b, le-leb _ _ c)

pub long_facts : (l : Layout) (r : StageRoom) → stage_has_room l r ≡ true → StageHasRoom l r
unfolding stage_has_room
long_facts l r e₁ =
    let e₂ = and_snd (leb (spectrum_length l) r.spectra) _ e₁ in
    let e₃ = and_snd (leb (side_length l) r.intensities) _ e₂ in
    record {
      spectra = leb-true _ _ (and_fst (leb (spectrum_length l) r.spectra) _ e₁);
      intensities = leb-true _ _ (and_fst (leb (side_length l) r.intensities) _ e₂);
      scaled = leb-true _ _ (and_fst (leb (spectrum_length l) r.scaled) _ e₃);
      stored = room_facts l r.stored (and_snd (leb (spectrum_length l) r.scaled) _ e₃);
    }

pub long_false : (l : Layout) (r : StageRoom) → (StageHasRoom l r → ⊥) → stage_has_room l r ≡ false
long_false l r h = not_true_false (stage_has_room l r) (λ e. h (long_facts l r e))

-- an open gate says that the layout is legal and that there is room
pub shut : {o : Outcome} → some o ≡ none → ⊥
shut e = let z : ◌≡◌ {A = ℕ} 0 1 = cc in omega arith

open_by : (t u : Bool) (o p : Outcome) (g : Option Outcome) → cond (not t) (some o) (cond (not u) (some p) g) ≡ none → (t ≡ true) × (u ≡ true)
open_by true true o p g e = (refl, refl)
open_by true false o p g e = absurd (shut e)
open_by false u o p g e = absurd (shut e)

pub gate_open : (l : Layout) (r : StageRoom) (xs : List Float) (is : List ℕ) → gate l r xs is ≡ none → LegalLayout l × StageHasRoom l r
unfolding gate
gate_open l r xs is e = let b = open_by (legal_layout l) (stage_has_room l r) _ _ _ e in (legal_sizes l b.0, long_facts l r b.1)

-- what `?` hands on is the error that it met
pub same_error : {A E : Type 0} (r : Result A E) (e : E) → IsErr r → IsErrAnd r (λ x. x ≡ e) → r ≡ Err e
same_error (Ok x) e h k = absurd (cc h)
same_error (Err x) e h k = ap Err k

-- a refusal of 1 to 3 is the gate's
pub before_stays : (l : Layout) (xs : List Float) (e : StageRefusal) → gate_outcome (Err e) ≡ judged_spectra (gate_outcome (Err e)) l xs
unfolding gate_outcome judged_spectra
before_stays l xs e = refl

-- and behind none of 1 to 3 comes 4
pub before-none : (l : Layout) (r : StageRoom) (xs : List Float) (is : List ℕ) (o : Option Outcome) → BeforeSpectra l r is o → o ≡ none
    → judged_spectra none l xs ≡ gate l r xs is
before-none l r xs is o b e = ap (λ g. judged_spectra g l xs) (sym e) ∙ b.rest xs

-- an answer that is what its gate lets pass
pub gate_lets : (l : Layout) (t : StageLent) (g : Result ⊤ StageRefusal) (x : StageLeft) → gate_outcome g ≡ gate l (stage_room t) t.spectra t.intensities
    → x ≡ behind_gate (gate_outcome g) t (after_level l (analysis l (take (spectrum_length l) t.spectra) (take (side_length l) t.intensities))) → x
    ≡ encode_frame l t
unfolding encode_frame
gate_lets l t g x e h = h ∙ ap (λ o. behind_gate o t (after_level l (analysis l (take (spectrum_length l) t.spectra) (take (side_length l) t.intensities)))) e
