-- One frame of a line, over any step: what its parts hold when they are back in their places; the stage leaves spectra and intensities as they were.
-- Assumes nothing.
use mathlib.Core.Path.{◌≡◌, refl, ap}
use mathlib.Core.List.{List, [], ◌∷◌}
use Prim.Native.Nat.{ℕ, zero, suc, ◌+◌, ◌*◌, ◌≤◌}
use native.Mathlib.Omega.{arith}
use lib.ListN.{length, take, drop, take-append-drop}
use lib.Seq.{length-take-le, drop_at, take_at}
use Rattle.rules.specs.Layout.{frame_size, spectrum_length, side_length, part}
use Rattle.rules.specs.Lent.{overwrite}
use Rattle.rules.specs.Stage.{StageLent}
use Rattle.rules.specs.declared.Layout.{Layout}
use Rattle.rules_line.specs.Line.{Step, stage_step, part_overwrite, frame_lent, step_at}

-- ---- a part of a buffer

laid_same : {A : Type 0} (n : ℕ) (xs : List A) → overwrite (take n xs) xs ≡ xs
laid_same zero xs = refl
laid_same (suc n) [] = refl
laid_same (suc n) (x ∷ xs) = ap (λ ys. x ∷ ys) (laid_same n xs)

-- laid over itself
pub part_same : {A : Type 0} (n k : ℕ) (xs : List A) → part_overwrite n (part n xs k) xs k ≡ xs
part_same n k xs = rw (laid_same n (drop (k * n) xs)) (take-append-drop (k * n) xs)

-- read again
pub part-back : {A : Type 0} (n k : ℕ) (new old : List A) → length new ≡ n → k * n + n ≤ length old → part n (part_overwrite n new old k) k ≡ new
part-back n k new old e h =
    rw (drop_at (take (k * n) old) (overwrite new (drop (k * n) old)) (k * n) (length-take-le (k * n) old (omega arith)))
    (take_at new (drop (length new) (drop (k * n) old)) n e)

-- ---- a step on frame k

module _ (l : Layout) (k : ℕ) (t : StageLent) where
  -- of any step: each of the frame's parts is what the single call left
  module _ (step : Step) where
    pub own_spectra : length (step l (frame_lent l k t)).spectra ≡ spectrum_length l → k * spectrum_length l + spectrum_length l ≤ length t.spectra
        → part (spectrum_length l) (step_at step l k t).spectra k ≡ (step l (frame_lent l k t)).spectra
    unfolding step_at
    own_spectra = part-back (spectrum_length l) k (step l (frame_lent l k t)).spectra t.spectra

    pub own_intensities : length (step l (frame_lent l k t)).intensities ≡ side_length l → k * side_length l + side_length l ≤ length t.intensities
        → part (side_length l) (step_at step l k t).intensities k ≡ (step l (frame_lent l k t)).intensities
    unfolding step_at
    own_intensities = part-back (side_length l) k (step l (frame_lent l k t)).intensities t.intensities

    pub own_frame : length (step l (frame_lent l k t)).frame ≡ frame_size l → k * frame_size l + frame_size l ≤ length t.frame
        → part (frame_size l) (step_at step l k t).frame k ≡ (step l (frame_lent l k t)).frame
    unfolding step_at
    own_frame = part-back (frame_size l) k (step l (frame_lent l k t)).frame t.frame

  -- the stage leaves spectra and intensities of all frames
  pub stage_spectra : (step_at stage_step l k t).spectra ≡ t.spectra
  unfolding step_at stage_step
  stage_spectra = part_same (spectrum_length l) k t.spectra

  pub stage_intensities : (step_at stage_step l k t).intensities ≡ t.intensities
  unfolding step_at stage_step
  stage_intensities = part_same (side_length l) k t.intensities
