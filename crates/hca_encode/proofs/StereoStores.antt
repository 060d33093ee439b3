-- What a call tells of its outcome, by the place where it left. Assumes nothing.
use mathlib.Core.Path.{◌≡◌, ◌∙◌, ap}
use mathlib.Core.List.{List}
use mathlib.Core.Bool.{true, false}
use Prim.Native.Nat.{ℕ, ◌≤◌, ◌<◌}
use borrow.Author.Tests.{lt-ltb, le-ltb}
use lib.IntN.{ℤ}
use lib.Ieee.{Float}
use lib.ListN.{length}
use Rattle.rules.specs.Refusals.{refused}
use Rattle.rules.specs.Stage.{StageLent}
use Rattle.rules.specs.declared.Layout.{Layout}
use Rattle.rules_stereo.specs.Stereo.{stereo_outcome, StereoLeft, stereo_left, encode_stereo_frame}
use Rattle.std.specs.Prelude.{Result}
use Rattle.rules.specs.declared.Delivery.{Delivery}
use Rattle.rules_stereo.specs.declared.StereoRefusal.{StereoRefusal}
use Rattle.hca_layout.specs.Layouts.{layout_of, is_layout}
use Rattle.hca_answers.specs.Outcomes.{result_of, AnswerStored}
use Rattle.hca_answers.proofs.Places.{stored_short}
use Rattle.hca_encode.specs.EncodeStereoFrame.{CStereoLeft, c_stereo_left, c_stereo_from, c_encode_stereo_frame}

-- what the stereo stage answered and left, told
pub stereo_stores : (a : Result Delivery StereoRefusal) (r : ℕ) (before after : List ℕ) (spectra : List Float) (intensities : List ℕ)
    (scaled : List Float) (codes : List ℤ)
    (factors side frame : List ℕ) (x : StereoLeft)
    → stereo_left a spectra intensities scaled codes factors side frame ≡ x → AnswerStored (stereo_outcome a) r before after
    → c_stereo_left r after spectra intensities scaled codes factors side frame ≡ c_stereo_from x before
unfolding c_stereo_from
stereo_stores a r before after spectra intensities scaled codes factors side frame x e t =
    rw (t.answered, t.shown) (ap (λ (y : StereoLeft). c_stereo_from y before) e)

module _ (numbers kinds : List ℕ) (t : StageLent) (answer : List ℕ) where
  -- every buffer as lent
  abbrev lent_back : (r : ℕ) (after : List ℕ) → CStereoLeft
  lent_back r after = c_stereo_left r after t.spectra t.intensities t.scaled t.codes t.factors t.side t.frame

  pub stereo_unnamed : (r : ℕ) (after : List ℕ) → is_layout numbers kinds ≡ false → AnswerStored (refused 1 0) r answer after → lent_back r after
      ≡ c_encode_stereo_frame numbers kinds t answer
  unfolding c_encode_stereo_frame c_stereo_from
  stereo_unnamed r after e h = rw (e, h.answered, h.shown)

  module _ (e : is_layout numbers kinds ≡ true) where
    pub stereo-short : length answer < 4 → lent_back 2 answer ≡ c_encode_stereo_frame numbers kinds t answer
    unfolding c_encode_stereo_frame c_stereo_from result_of
    stereo-short h = rw (e, lt-ltb _ _ h) (ap (λ (xs : List ℕ). lent_back 2 xs) (stored_short (refused 2 0) answer h))

    pub stereo-done : (l : Layout) (x : CStereoLeft) → l ≡ layout_of numbers kinds → 4 ≤ length answer → x ≡ c_stereo_from (encode_stereo_frame l t) answer → x
        ≡ c_encode_stereo_frame numbers kinds t answer
    unfolding c_encode_stereo_frame
    stereo-done l x q h d = d ∙ rw (e, le-ltb _ _ h, q)
