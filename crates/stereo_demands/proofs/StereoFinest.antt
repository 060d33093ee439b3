-- Request A10 said of the stereo stage, from unmixed spectra on: what it is of the stage on the mixed ones. Assumes nothing.
use mathlib.Core.Path.{◌≡◌, sym, subst}
use mathlib.Core.List.{[], ◌∷◌}
use mathlib.Core.Logic.{◌↔◌}
use Prim.Native.Nat.{ℕ, ◌<◌}
use native.Mathlib.Omega.{arith}
use lib.ListN.{take}
use Rattle.rules.specs.Layout.{spectrum_length, factor_length}
use Rattle.rules.specs.Refusals.{delivered, refused}
use Rattle.rules.specs.Stage.{StageLent, encode_frame}
use Rattle.rules.specs.declared.Layout.{Layout}
use Rattle.rules_demands.proofs.Pairs.{factors_of, scaled_of, most_pairs}
use Rattle.rules_finest.specs.Finest.{Ordered}
use Rattle.rules_finest.proofs.Finest.{Finest, NextExceeds, NowhereFits, finest_delivered, next-exceeds-delivered, five_no_level_fits, no_level_fits_five}
use Rattle.rules_stereo.specs.Stereo.{StereoLeft, encode_stereo_frame}
use Rattle.stereo_demands.proofs.StereoIsStage.{mixed_lent, StereoGood, mixed-good, stereo_is_stage}
use Rattle.stereo_demands.proofs.StereoExactly.{stereo_late_exactly, stereo_delivered_exactly}

-- of a call that delivered level, boundary, pairs and n bits, what it left
module _ (l : Layout) (t : StageLent) (level boundary pairs n : ℕ) (e : (encode_stereo_frame l t).outcome ≡ delivered (level ∷ boundary ∷ pairs ∷ n ∷ [])) where
  good : StereoGood l t
  good = ((stereo_delivered_exactly l t (level ∷ boundary ∷ pairs ∷ n ∷ [])).0 e).0

  staged : (encode_frame l (mixed_lent l t)).outcome ≡ delivered (level ∷ boundary ∷ pairs ∷ n ∷ [])
  staged = ((stereo_delivered_exactly l t (level ∷ boundary ∷ pairs ∷ n ∷ [])).0 e).1

  abbrev Shown : StereoLeft → Type 0
  Shown x =
      Ordered l (take (spectrum_length l) x.scaled)
      → Finest l (take (spectrum_length l) x.scaled) (factors_of l (mixed_lent l t)) (take (factor_length l) x.factors) level boundary pairs

  pub stereo_finest : Shown (encode_stereo_frame l t)
  stereo_finest = subst Shown (sym (stereo_is_stage l t good)) (finest_delivered l (mixed_lent l t) level boundary pairs n staged)

  -- both modes, no premise
  pub stereo-next-exceeds : 0 < level
      → NextExceeds l (take (spectrum_length l) (encode_stereo_frame l t).scaled) (take (factor_length l) (encode_stereo_frame l t).factors) level boundary
  stereo-next-exceeds h =
      subst (λ (x : StereoLeft). NextExceeds l (take (spectrum_length l) x.scaled) (take (factor_length l) x.factors) level boundary)
      (sym (stereo_is_stage l t good)) (next-exceeds-delivered l (mixed_lent l t) level boundary pairs n staged h)

-- Refusal 5 comes exactly where nothing of the input is bad or too loud and of the mixed spectra no level fits at any stage of the removal.
pub stereo_five_no_level_fits : (l : Layout) (t : StageLent) → Ordered l (scaled_of l (mixed_lent l t)) → (p : ℕ)
    → ((encode_stereo_frame l t).outcome ≡ refused 5 p) ↔ (StereoGood l t × NowhereFits l (mixed_lent l t) × (p ≡ most_pairs l))
stereo_five_no_level_fits l t ordered p = (
  (λ e. let (g, q) = (stereo_late_exactly l t 5 p (omega arith) (omega arith)).0 e in
      let (_, none, r) = (five_no_level_fits l (mixed_lent l t) ordered p).0 q in (g, none, r)),
  (λ x. let (g, none, r) = x in
      (stereo_late_exactly l t 5 p (omega arith) (omega arith)).1 (g, no_level_fits_five l (mixed_lent l t) p (mixed-good l t g, none, r))),
)
