-- Of what the stereo stage's gate lets pass, what is mixed is finite: the stage behind its own gate takes it. Assumes nothing.
use mathlib.Core.Path.{◌≡◌, refl, sym, subst}
use mathlib.Core.List.{List}
use mathlib.Core.Bool.{Bool, true, false, cond, not}
use mathlib.Core.Option.{Option, none, some}
use Prim.Native.Nat.{ℕ, ◌≤◌, ◌<◌}
use native.Mathlib.Omega.{arith}
use borrow.Author.Tests.{ltb-false, not-false}
use lib.Dec.{T, ltb}
use lib.Ieee.{Float, nan}
use lib.Ieee.Scale.{finite}
use lib.ListN.{length, get_or, take}
use lib.Seq.{get_or-take, length-take-le}
use Rattle.buffers.specs.Walk.{first}
use Rattle.rules.specs.Layout.{LegalLayout, spectrum_length, side_length}
use Rattle.rules.specs.Refusals.{Outcome, refused}
use Rattle.rules.specs.Stage.{bad_spectrum, gate}
use Rattle.rules.specs.declared.Layout.{Layout}
use Rattle.rules.specs.declared.StageRoom.{StageRoom}
use Rattle.rules_stereo.specs.Mixed.{Signal, signal, mixed}
use Rattle.rules_stereo.specs.Stereo.{too_loud, judged_loud, stereo_gate, mixed_front}
use Rattle.rules_demands.proofs.Exactly.{first_passed}
use Rattle.factors.specs.Finite.{AllFinite}
use Rattle.stage_gate.proofs.Rooms.{shut}
use Rattle.stage.proofs.Gated.{gate_passed}
use Rattle.stereo_demands.proofs.MixedFinite.{MagnitudeAtMost, not-loud, mixed-length, mixed_passes}

module _ (l : Layout) (xs : List Float) where
  -- neither gate is shut
  both : (o : Option Outcome) → judged_loud o l xs ≡ none → (o ≡ none) × (ltb (first (too_loud xs) (spectrum_length l)) (spectrum_length l) ≡ false)
  unfolding judged_loud
  both none h = (refl, go (ltb (first (too_loud xs) (spectrum_length l)) (spectrum_length l)) h)
    where
      go : (t : Bool) → cond t (some (refused 17 0)) none ≡ none → t ≡ false
      go true e = absurd (shut e)
      go false e = refl
  both (some o) h = absurd (shut h)

module _ (l : Layout) (r : StageRoom) (xs : List Float) (is : List ℕ) (sizes : LegalLayout l) (long : spectrum_length l ≤ length xs)
    (o : stereo_gate l r xs is ≡ none) where
  abbrev front : Signal
  front = signal (take (spectrum_length l) xs) (take (side_length l) is)

  front_long : length front.spectra ≡ spectrum_length l
  front_long = length-take-le (spectrum_length l) xs long

  quiet : (i : ℕ) → i < spectrum_length l → MagnitudeAtMost 0x47800000 (get_or front.spectra i nan)
  unfolding stereo_gate bad_spectrum too_loud
  quiet i h =
      let b = both l xs (gate l r xs is) o in
      let good : not (finite (get_or xs i nan)) ≡ false = gate_passed l r xs is b.0 i h in
      let e = get_or-take (spectrum_length l) xs i nan h in
      rw e (not-loud (get_or xs i nan) (not-false (finite (get_or xs i nan)) good) (first_passed (too_loud xs) (spectrum_length l) (ltb-false _ _ b.1) i h))

  pub mixed-fine : AllFinite (mixed_front l (signal xs is)).spectra
  unfolding AllFinite mixed_front bad_spectrum
  mixed-fine i h =
      let x : Float = get_or (mixed l front).spectra i nan in
      let k : i < spectrum_length l = omega (arith, mixed-length l front sizes front_long quiet) in
      let f : not (finite x) ≡ false = mixed_passes l front sizes front_long quiet i k in
      subst T (sym (not-false (finite x) f)) tt
