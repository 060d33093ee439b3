-- What is mixed, back in longer buffers, and the stage's run on it. Assumes nothing.
use Rattle.std.specs.Prelude.{Result, Ok, Err}
use mathlib.Core.Path.{◌≡◌, sym, ap, ap₂, ◌∙◌}
use mathlib.Core.List.{List, ◌++◌}
use Prim.Native.Nat.{ℕ}
use lib.IntN.{ℤ}
use lib.Ieee.{Float}
use lib.ListN.{length, take, drop}
use lib.Seq.{take_at}
use Rattle.rules.specs.Layout.{spectrum_length, side_length}
use Rattle.rules.specs.Stage.{StageLent, stage_lent, stage_left, stage_overwrite, analysis, after_level}
use Rattle.rules.specs.declared.Layout.{Layout}
use Rattle.rules.specs.declared.Delivery.{Delivery}
use Rattle.rules.specs.declared.StageRefusal.{StageRefusal}
use Rattle.rules_stereo.specs.declared.StereoRefusal.{StereoRefusal}
use Rattle.rules_stereo.specs.declared.StereoRefusal.TheVariants.{Stage}
use Rattle.rules_stereo.specs.Mixed.{Signal, signal, mixed}
use Rattle.rules_stereo.specs.Stereo.{stereo_outcome, StereoLeft, stereo_left, with_signal, lent_signal, mixed_front, signal_overwrite, stereo_run}

-- the parts are back in their wholes, and in front
module _ (l : Layout) (xs : List Float) (is : List ℕ) (ys : List Float) (js : List ℕ) (p : length ys ≡ spectrum_length l) (q : length js ≡ side_length l)
    (e : signal ys js ≡ mixed l (signal (take (spectrum_length l) xs) (take (side_length l) is))) where
  pub parts_back : signal (ys ++ drop (spectrum_length l) xs) (js ++ drop (side_length l) is) ≡ signal_overwrite (mixed_front l (signal xs is)) (signal xs is)
  unfolding mixed_front
  parts_back = rw (p, q) at (ap (λ (s : Signal). signal_overwrite s (signal xs is)) e)

  pub parts_front : signal (take (spectrum_length l) (ys ++ drop (spectrum_length l) xs)) (take (side_length l) (js ++ drop (side_length l) is))
      ≡ mixed_front l (signal xs is)
  unfolding mixed_front
  parts_front = ap₂ signal (take_at ys _ _ p) (take_at js _ _ q) ∙ e

-- what the stage's run leaves of the mixed lists is the stereo stage's
pub mixed_run : (l : Layout) (r : Result Delivery StageRefusal) (t : StageLent) (xs : List Float) (is : List ℕ) (sc : List Float) (co : List ℤ) (fa si fr : List ℕ)
    → signal xs is ≡ signal_overwrite (mixed_front l (lent_signal t)) (lent_signal t)
    → signal (take (spectrum_length l) xs) (take (side_length l) is) ≡ mixed_front l (lent_signal t)
    → stage_left r sc co fa si fr ≡ stage_overwrite (stage_lent xs is t.scaled t.codes t.factors t.side t.frame)
    (after_level l (analysis l (take (spectrum_length l) xs) (take (side_length l) is)))
    → with_signal (signal xs is) (stage_left r sc co fa si fr) ≡ stereo_run l t
unfolding stereo_run
mixed_run l r t xs is sc co fa si fr e f g = ap₂ with_signal e
    (g ∙ ap (λ (s : Signal). stage_overwrite t (after_level l (analysis l s.spectra s.intensities))) f)

-- the stage's answer, handed on
module _ (r : Result Delivery StageRefusal) (xs : List Float) (is : List ℕ) (sc : List Float) (co : List ℤ) (fa si fr : List ℕ) (x : StereoLeft)
    (e : with_signal (signal xs is) (stage_left r sc co fa si fr) ≡ x) where
  pub handed_success : (d : Delivery) → r ≡ Ok d → stereo_left (Ok d) xs is sc co fa si fr ≡ x
  unfolding stereo_outcome
  handed_success d p = ap (λ a. with_signal (signal xs is) (stage_left a sc co fa si fr)) (sym p) ∙ e

  pub handed_refusal : (n : StageRefusal) (a : Result Delivery StereoRefusal) → r ≡ Err n → a ≡ Err (Stage n) → stereo_left a xs is sc co fa si fr ≡ x
  unfolding stereo_outcome
  handed_refusal n a p q =
      ap (λ b. stereo_left b xs is sc co fa si fr) q ∙ ap (λ b. with_signal (signal xs is) (stage_left b sc co fa si fr)) (sym p) ∙ e
