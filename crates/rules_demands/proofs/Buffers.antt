-- What a call of the stage that delivered leaves in side and scaled: a secondary's intensities, else the HFR scales; and the scaled values, which no
-- removal changes. Assumes nothing.
use mathlib.Core.Path.{◌≡◌, refl, sym, ◌∙◌, ap}
use mathlib.Core.List.{List, [], ◌∷◌}
use mathlib.Core.Bool.{cond}
use Prim.Native.Nat.{ℕ, ◌<◌}
use native.Mathlib.Omega.{arith}
use lib.Dec.{ltb}
use lib.ListN.{length, get_or, take}
use Rattle.buffers.proofs.Blocks.{length-blocks}
use Rattle.rules.specs.Layout.{secondary_at, coded_count_at, group_count, spectrum_length, side_length, part}
use Rattle.rules.specs.Scaling.{channel_scaled, all_scaled}
use Rattle.rules.specs.Hfr.{all_side, hfr_scale}
use Rattle.rules.specs.Refusals.{delivered}
use Rattle.rules.specs.Stage.{StageLent, stage_overwrite, analysis, analysis_from, delivery, encode_frame}
use Rattle.rules.specs.declared.Layout.{Layout}
use Rattle.rules.proofs.Cuts.{part-of-front}
use Rattle.rules.proofs.Made.{scaled-size}
use Rattle.rules_demands.proofs.MadeRecord.{side-at, made_side}
use Rattle.rules_demands.proofs.Deliveries.{laid_front}
use Rattle.rules_demands.proofs.StageAnswers.{analysis_by, passes, ends-done, delivers}
use Rattle.rules_demands.proofs.Pairs.{factors_of, scaled_of}

module _ (l : Layout) (t : StageLent) (ns : List ℕ) (e : (encode_frame l t).outcome ≡ delivered ns) where
  left : encode_frame l t ≡ stage_overwrite t (delivery l (analysis_by l t))
  left =
      let k = passes l t (rw e (omega arith)) in
      let (h, g, q) = (delivers l t ns k).0 e in
      ends-done l t k h g

  scaled-long : length (scaled_of l t) ≡ spectrum_length l
  unfolding all_scaled
  scaled-long =
      length-blocks (λ c. channel_scaled (part 1024 (take (spectrum_length l) t.spectra) c) (part 128 (factors_of l t) c) (coded_count_at l c)) 1024 l.channels
      (λ c _. scaled-size _ _ _) l.channels (omega arith)

  -- Scaled values are those of the factors before any removal.
  pub scaled_left_lem : take (spectrum_length l) (encode_frame l t).scaled ≡ scaled_of l t
  unfolding delivery analysis analysis_from
  scaled_left_lem = rw left (laid_front (spectrum_length l) (scaled_of l t) t.scaled scaled-long)

  side_made : take (side_length l) (encode_frame l t).side
      ≡ all_side l (take (spectrum_length l) t.spectra) (scaled_of l t) (take (side_length l) t.intensities)
  unfolding delivery analysis analysis_from
  side_made = rw left (laid_front (side_length l) (analysis_by l t).side t.side
      (made_side l (take (spectrum_length l) t.spectra) (take (side_length l) t.intensities)))

  -- Side holds a secondary's intensities, else the G HFR scales; the rest is zero.
  pub side_left : (c j : ℕ) → c < l.channels → j < 8
      → get_or (part 8 (encode_frame l t).side c) j 0
      ≡ cond (secondary_at l c) (get_or (part 8 t.intensities c) j 0)
      (cond (ltb j (group_count l)) (hfr_scale l (part 1024 t.spectra c) (part 1024 (encode_frame l t).scaled c) j) 0)
  side_left c j h g =
      ap (λ xs. get_or xs j 0) (sym (part-of-front 8 l.channels c (encode_frame l t).side h) ∙ ap (λ xs. part 8 xs c) side_made)
      ∙ side-at l (take (spectrum_length l) t.spectra) (scaled_of l t) (take (side_length l) t.intensities) c j h g
      ∙ rw (
        part-of-front 8 l.channels c t.intensities h,
        part-of-front 1024 l.channels c t.spectra h,
        ← scaled_left_lem,
        part-of-front 1024 l.channels c (encode_frame l t).scaled h,
      )
