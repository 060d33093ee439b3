-- Request A10 said of a line, frame by frame: of what the single call on that frame's parts leaves, from mixed spectra and from unmixed ones. Assumes nothing.
use mathlib.Core.Path.{◌≡◌}
use mathlib.Core.List.{List}
use mathlib.Core.Option.{some}
use mathlib.Core.Logic.{◌⊎◌}
use Prim.Native.Nat.{ℕ, ◌≤◌, ◌<◌}
use lib.ListN.{get_or, take}
use Rattle.rules.specs.Layout.{spectrum_length, factor_length, part}
use Rattle.rules.specs.Refusals.{refused}
use Rattle.rules.specs.Stage.{StageLent}
use Rattle.rules.specs.declared.Layout.{Layout}
use Rattle.rules_demands.proofs.Exactly.{Good}
use Rattle.rules_demands.proofs.Pairs.{factors_of, scaled_of, most_pairs}
use Rattle.rules_finest.specs.Finest.{Ordered}
use Rattle.rules_finest.proofs.Finest.{Finest, NextExceeds, NowhereFits, finest_delivered, next-exceeds-delivered, five_no_level_fits}
use Rattle.rules_stereo.specs.Stereo.{encode_stereo_frame}
use Rattle.stereo_demands.proofs.StereoIsStage.{StereoGood, mixed_lent}
use Rattle.stereo_demands.proofs.StereoFinest.{stereo_finest, stereo-next-exceeds, stereo_five_no_level_fits}
use Rattle.rules_line.specs.Line.{LineLent, stage_step, frame_lent, encode_line, encode_stereo_line}
use Rattle.line_demands.proofs.Singles.{stage_late, stage_step_lem}
use Rattle.line_demands.proofs.StereoSingles.{stereo_late, stereo-step}
use Rattle.line_demands.proofs.Standing.{all_lent, single}
use Rattle.line_demands.proofs.Over.{Admits, said_of}
use Rattle.line_demands.proofs.Lines.{frames_done, line_stops_at}
use Rattle.line_demands.proofs.StereoLines.{stereo_frames_done, stereo_line_stops_at}

-- frame k of a line from mixed spectra, which was delivered
module _ (l : Layout) (count : ℕ) (t : LineLent) (a : Admits l count t) (k : ℕ) (h : k < frames_done l count t) where
  abbrev said : List ℕ
  said = part 4 (encode_line l count t).answers k

  abbrev lent : StageLent
  lent = frame_lent l k (all_lent t)

  pub line_finest : Ordered l (take (spectrum_length l) (single stage_step l t k).scaled)
      → Finest l (take (spectrum_length l) (single stage_step l t k).scaled) (factors_of l lent) (take (factor_length l) (single stage_step l t k).factors)
      (get_or said 0 0) (get_or said 1 0) (get_or said 2 0)
  unfolding stage_step
  line_finest =
      finest_delivered l lent (get_or said 0 0) (get_or said 1 0) (get_or said 2 0) (get_or said 3 0)
      (said_of stage_step stage_late (λ n. n ≤ 4) (λ n. 5 ≤ n) stage_step_lem l count t a k h)

  -- both modes, no premise
  pub line_next_exceeds : 0 < get_or said 0 0
      → NextExceeds l (take (spectrum_length l) (single stage_step l t k).scaled) (take (factor_length l) (single stage_step l t k).factors) (get_or said 0 0)
      (get_or said 1 0)
  unfolding stage_step
  line_next_exceeds =
      next-exceeds-delivered l lent (get_or said 0 0) (get_or said 1 0) (get_or said 2 0) (get_or said 3 0)
      (said_of stage_step stage_late (λ n. n ≤ 4) (λ n. 5 ≤ n) stage_step_lem l count t a k h)

-- Where a line is refused with 5 at frame k, no level fits for that frame's parts at any stage of the removal.
pub line_five_no_level_fits : (l : Layout) (count : ℕ) (t : LineLent) (k p : ℕ) → Ordered l (scaled_of l (frame_lent l k (all_lent t)))
    → (encode_line l count t).outcome ≡ refused 5 p → (encode_line l count t).index ≡ some k
    → Good l (frame_lent l k (all_lent t)) × NowhereFits l (frame_lent l k (all_lent t)) × (p ≡ most_pairs l)
unfolding stage_step
line_five_no_level_fits l count t k p ordered o i =
    let (_, _, _, e) = (line_stops_at l count t k 5 p).0 (o, i) in
    (five_no_level_fits l (frame_lent l k (all_lent t)) ordered p).0 e

-- the same of a line from unmixed spectra
module _ (l : Layout) (count : ℕ) (t : LineLent) (a : Admits l count t) (k : ℕ) (h : k < stereo_frames_done l count t) where
  abbrev answered : List ℕ
  answered = part 4 (encode_stereo_line l count t).answers k

  abbrev unmixed : StageLent
  unmixed = frame_lent l k (all_lent t)

  pub stereo_line_finest : Ordered l (take (spectrum_length l) (single encode_stereo_frame l t k).scaled)
      → Finest l (take (spectrum_length l) (single encode_stereo_frame l t k).scaled) (factors_of l (mixed_lent l unmixed))
      (take (factor_length l) (single encode_stereo_frame l t k).factors) (get_or answered 0 0) (get_or answered 1 0) (get_or answered 2 0)
  stereo_line_finest =
      stereo_finest l unmixed (get_or answered 0 0) (get_or answered 1 0) (get_or answered 2 0) (get_or answered 3 0)
      (said_of encode_stereo_frame stereo_late (λ n. (n ≤ 4) ⊎ (n ≡ 17)) (λ n. (5 ≤ n) × (n ≤ 7)) stereo-step l count t a k h)

  pub stereo_line_next_exceeds : 0 < get_or answered 0 0
      → NextExceeds l (take (spectrum_length l) (single encode_stereo_frame l t k).scaled) (take (factor_length l) (single encode_stereo_frame l t k).factors)
      (get_or answered 0 0) (get_or answered 1 0)
  stereo_line_next_exceeds =
      stereo-next-exceeds l unmixed (get_or answered 0 0) (get_or answered 1 0) (get_or answered 2 0) (get_or answered 3 0)
      (said_of encode_stereo_frame stereo_late (λ n. (n ≤ 4) ⊎ (n ≡ 17)) (λ n. (5 ≤ n) × (n ≤ 7)) stereo-step l count t a k h)

pub stereo_line_five_no_level_fits : (l : Layout) (count : ℕ) (t : LineLent) (k p : ℕ) → Ordered l (scaled_of l (mixed_lent l (frame_lent l k (all_lent t))))
    → (encode_stereo_line l count t).outcome ≡ refused 5 p → (encode_stereo_line l count t).index ≡ some k
    → StereoGood l (frame_lent l k (all_lent t)) × NowhereFits l (mixed_lent l (frame_lent l k (all_lent t))) × (p ≡ most_pairs l)
stereo_line_five_no_level_fits l count t k p ordered o i =
    let (_, _, _, e) = (stereo_line_stops_at l count t k 5 p).0 (o, i) in
    (stereo_five_no_level_fits l (frame_lent l k (all_lent t)) ordered p).0 e
