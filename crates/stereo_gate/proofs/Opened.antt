-- The stereo stage's gate: what it takes from the stage's, that the stereo stage is what its gate lets pass, and 4 and 17 by one pass. Assumes nothing.
use Rattle.std.specs.Prelude.{Result, Err, ⊤, Some, None}
use mathlib.Core.Path.{◌≡◌, refl, sym, ap, ◌∙◌}
use mathlib.Core.List.{List}
use mathlib.Core.Bool.{Bool, true, false, ◌||◌}
use mathlib.Core.Option.{Option, none, some}
use Prim.Native.Nat.{ℕ, ◌≤◌}
use native.Mathlib.Omega.{arith}
use lib.Dec.{ltb}
use lib.Ieee.{Float, nan}
use lib.ListN.{length, take}
use lib.Seq.{get_or-take, length-take-le}
use Rattle.buffers.specs.Walk.{first}
use Rattle.rules.specs.Layout.{LegalLayout, spectrum_length}
use Rattle.rules.specs.Refusals.{Outcome, refused, stage_outcome}
use Rattle.rules.specs.Stage.{StageLent, stage_room, bad_spectrum, gate}
use Rattle.rules.specs.declared.Layout.{Layout}
use Rattle.rules.specs.declared.StageRoom.{StageRoom}
use Rattle.rules_stereo.specs.Stereo.{StereoLeft, too_loud, judged_loud, stereo_gate, stereo_run, stereo_behind_gate, encode_stereo_frame}
use Rattle.stage_gate.specs.Gate.{StageHasRoom, first_if_any, gate_outcome, judged_spectra, BeforeSpectra}
use Rattle.stage_gate.proofs.Searches.{same_from, bad_spectra_first, bad_spectra_whole, bad_spectra_none}
use Rattle.stage_gate.proofs.Rooms.{gate_open}
use Rattle.stereo_gate.specs.StereoGates.{stereo_gate_outcome}
use Rattle.rules.specs.declared.StageRefusal.{StageRefusal}
use Rattle.rules.specs.declared.StageRefusal.TheVariants.{BadSpectrum}
use Rattle.rules_stereo.specs.declared.StereoRefusal.{StereoRefusal}

module _ (l : Layout) (r : StageRoom) (xs : List Float) (is : List ℕ) where
  -- what is refused by 1 to 3 goes on to 4 and 17
  pub gate_then : (x g : Result ⊤ StageRefusal) (a : Option Outcome) → x ≡ g → BeforeSpectra l r is (gate_outcome x)
      → a ≡ judged_loud (judged_spectra (gate_outcome g) l xs) l xs → a ≡ stereo_gate l r xs is
  unfolding stereo_gate
  gate_then x g a e b h = h ∙ ap (λ o. judged_loud (judged_spectra (gate_outcome o) l xs) l xs) (sym e) ∙ ap (λ o. judged_loud o l xs) (b.rest xs)

  -- where nothing is refused, the stage's gate is open too
  quiet : (o : Option Outcome) → judged_loud o l xs ≡ none → o ≡ none
  unfolding judged_loud
  quiet none h = refl
  quiet (some o) h = h

  pub stereo_open : stereo_gate l r xs is ≡ none → LegalLayout l × StageHasRoom l r
  unfolding stereo_gate
  stereo_open h = gate_open l r xs is (quiet (gate l r xs is) h)

-- an answer that is what the gate lets pass
pub stereo_lets : (l : Layout) (t : StageLent) (g : Result ⊤ StereoRefusal) (x : StereoLeft) → stereo_gate_outcome g
    ≡ stereo_gate l (stage_room t) t.spectra t.intensities
    → x ≡ stereo_behind_gate (stereo_gate_outcome g) t (stereo_run l t) → x ≡ encode_stereo_frame l t
unfolding encode_stereo_frame
stereo_lets l t g x e h = h ∙ ap (λ o. stereo_behind_gate o t (stereo_run l t)) e

-- ---- 4 and 17 by one pass
neither : (a b : Bool) → a || b ≡ false → (a ≡ false) × (b ≡ false)
neither true b h = absurd (let z : ◌≡◌ {A = ℕ} 0 1 = cc in omega arith)
neither false b h = (refl, h)

module _ (l : Layout) (xs : List Float) (long : spectrum_length l ≤ length xs) where
  abbrev n : ℕ
  n = spectrum_length l

  abbrev part : List Float
  part = take n xs

  -- whether one in the part that is lent is bad, and whether one is loud
  abbrev bad : Bool
  bad = ltb (first (bad_spectrum part) (length part)) (length part)

  abbrev loud : Bool
  loud = ltb (first (too_loud part) (length part)) (length part)

  bad_front : bad ≡ ltb (first (bad_spectrum xs) n) n
  bad_front = rw (length-take-le n xs long, bad_spectra_first n xs)

  loud_front : loud ≡ ltb (first (too_loud xs) n) n
  unfolding too_loud
  loud_front = rw (length-take-le n xs long, same_from (too_loud part) (too_loud xs) 0 n (λ j h. rw (get_or-take n xs j nan (omega (arith, h)))))

  pub judged-bad : (i : ℕ) → Some i ≡ first_if_any (bad_spectrum part) (length part)
      → some (stage_outcome (Err (BadSpectrum i))) ≡ judged_loud (judged_spectra none l xs) l xs
  unfolding judged_loud judged_spectra stage_outcome
  judged-bad i e = let f = bad_spectra_whole n xs long i e in rw (f.0, f.1)

  pub judged_loud_lem : bad || loud ≡ true → None ≡ first_if_any (bad_spectrum part) (length part)
      → some (refused 17 0) ≡ judged_loud (judged_spectra none l xs) l xs
  unfolding judged_loud judged_spectra
  judged_loud_lem o e =
      let b = bad_spectra_none n xs long e in
      rw (b, ← loud_front, rw (bad_front ∙ b) at o)

  pub judged-quiet : bad || loud ≡ false → none ≡ judged_loud (judged_spectra none l xs) l xs
  unfolding judged_loud judged_spectra
  judged-quiet o = let m = neither bad loud o in rw (← bad_front, m.0, ← loud_front, m.1)
