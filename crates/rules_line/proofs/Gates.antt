-- The gate of a line: its tests and their facts say the same. Assumes nothing.
use mathlib.Core.Path.{◌≡◌, refl}
use mathlib.Core.Option.{Option, none, some}
use mathlib.Core.Bool.{Bool, true, false, cond, not}
use Prim.Native.Nat.{ℕ, ◌*◌, ◌^◌}
use native.Mathlib.Omega.{arith}
use borrow.Author.Tests.{le-leb, leb-true}
use lib.Dec.{leb}
use Rattle.buffers.proofs.Tests.{and_fst, and_snd}
use Rattle.rules.specs.Layout.{legal_layout, LegalLayout, frame_size, spectrum_length, factor_length, side_length}
use Rattle.rules.specs.Refusals.{Outcome, refused}
use Rattle.rules.specs.declared.Layout.{Layout}
use Rattle.rules.specs.declared.StageRoom.{StageRoom}
use Rattle.rules.proofs.Layouts.{legal_true, legal_sizes}
use Rattle.rules_line.specs.Line.{batch_fits, line_has_room, line_gate}
use Rattle.rules_line.specs.Asked.{Batch, LineHasRoom}
use Rattle.rules_line.specs.declared.Tally.{Tally}

module _ (count : ℕ) (t : Tally) where
  pub batch_true : Batch count t → batch_fits count t ≡ true
  unfolding batch_fits
  batch_true b = rw (le-leb _ _ b.few, le-leb _ _ b.frames, le-leb _ _ b.bits, le-leb _ _ b.pairs)

  pub batch_facts : batch_fits count t ≡ true → Batch count t
  unfolding batch_fits
  batch_facts e₁ =
      let e₂ = and_snd (leb count 65535) _ e₁ in
      let e₃ = and_snd (leb t.frames (2 ^ 63)) _ e₂ in
      record {
        few = leb-true _ _ (and_fst (leb count 65535) _ e₁);
        frames = leb-true _ _ (and_fst (leb t.frames (2 ^ 63)) _ e₂);
        bits = leb-true _ _ (and_fst (leb t.bits (2 ^ 63)) _ e₃);
        pairs = leb-true _ _ (and_snd (leb t.bits (2 ^ 63)) _ e₃);
      }

module _ (l : Layout) (count : ℕ) (r : StageRoom) (answers : ℕ) where
  pub room_true : LineHasRoom l count r answers → line_has_room l count r answers ≡ true
  unfolding line_has_room
  room_true k =
      rw (
        le-leb _ _ k.spectra,
        le-leb _ _ k.intensities,
        le-leb _ _ k.scaled,
        le-leb _ _ k.factors,
        le-leb _ _ k.side,
        le-leb _ _ k.codes,
        le-leb _ _ k.frames,
        le-leb _ _ k.answers,
      )

  pub room_facts : line_has_room l count r answers ≡ true → LineHasRoom l count r answers
  unfolding line_has_room
  room_facts e₁ =
      let e₂ = and_snd (leb (count * spectrum_length l) r.spectra) _ e₁ in
      let e₃ = and_snd (leb (count * side_length l) r.intensities) _ e₂ in
      let e₄ = and_snd (leb (spectrum_length l) r.scaled) _ e₃ in
      let e₅ = and_snd (leb (factor_length l) r.stored.factors) _ e₄ in
      let e₆ = and_snd (leb (side_length l) r.stored.side) _ e₅ in
      let e₇ = and_snd (leb (spectrum_length l) r.stored.codes) _ e₆ in
      record {
        spectra = leb-true _ _ (and_fst (leb (count * spectrum_length l) r.spectra) _ e₁);
        intensities = leb-true _ _ (and_fst (leb (count * side_length l) r.intensities) _ e₂);
        scaled = leb-true _ _ (and_fst (leb (spectrum_length l) r.scaled) _ e₃);
        factors = leb-true _ _ (and_fst (leb (factor_length l) r.stored.factors) _ e₄);
        side = leb-true _ _ (and_fst (leb (side_length l) r.stored.side) _ e₅);
        codes = leb-true _ _ (and_fst (leb (spectrum_length l) r.stored.codes) _ e₆);
        frames = leb-true _ _ (and_fst (leb (count * frame_size l) r.stored.frame) _ e₇);
        answers = leb-true _ _ (and_snd (leb (count * frame_size l) r.stored.frame) _ e₇);
      }

-- ---- an open gate

shut : {A B : Type 0} {o : B} → some o ≡ none → A
shut e = let z : ◌≡◌ {A = ℕ} 0 1 = cc e in absurd (omega arith)

abbrev gate_by : (a b c : Bool) → Option Outcome
gate_by a b c = cond (not a) (some (refused 1 0)) (cond (not b) (some (refused 18 0)) (cond (not c) (some (refused 2 0)) none))

open_by : (a b c : Bool) → gate_by a b c ≡ none → (a ≡ true) × (b ≡ true) × (c ≡ true)
open_by true true true e = (refl, refl, refl)
open_by true true false e = shut e
open_by true false c e = shut e
open_by false b c e = shut e

-- what an open gate grants
pub record Admitted (l : Layout) (count : ℕ) (r : StageRoom) (places : ℕ) (tally : Tally) : Type 0 where
  pub layout : LegalLayout l
  pub batch : Batch count tally
  pub room : LineHasRoom l count r places

pub gate_open : (l : Layout) (count : ℕ) (r : StageRoom) (answers : ℕ) (t : Tally) → line_gate l count r answers t ≡ none → Admitted l count r answers t
unfolding line_gate
gate_open l count r answers t e =
    let (a, b, c) = open_by (legal_layout l) (batch_fits count t) (line_has_room l count r answers) e in
    record { layout = legal_sizes l a; batch = batch_facts count t b; room = room_facts l count r answers c }

pub gate_grants : (l : Layout) (count : ℕ) (r : StageRoom) (answers : ℕ) (t : Tally) → Admitted l count r answers t → line_gate l count r answers t ≡ none
unfolding line_gate
gate_grants l count r answers t a = rw (legal_true l a.layout, batch_true count t a.batch, room_true l count r answers a.room)

-- what each answer of the gate has, every answer has
pub gate_case : (l : Layout) (count : ℕ) (r : StageRoom) (answers : ℕ) (t : Tally) (P : Option Outcome → Type 0) → P (some (refused 1 0))
    → P (some (refused 18 0)) → P (some (refused 2 0)) → (line_gate l count r answers t ≡ none → P none) → P (line_gate l count r answers t)
unfolding line_gate
gate_case l count r answers t P one batch two rest = by_tests (legal_layout l) (batch_fits count t) (line_has_room l count r answers) rest
  where
    by_tests : (a b c : Bool) → (gate_by a b c ≡ none → P none) → P (gate_by a b c)
    by_tests true true true f = f refl
    by_tests true true false f = two
    by_tests true false c f = batch
    by_tests false b c f = one
