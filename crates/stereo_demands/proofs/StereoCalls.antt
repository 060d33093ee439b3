-- Demand 3 said of the stereo stage: its frame is that of the record that it leaves, and the strict reader hands that record back. Assumes nothing.
use mathlib.Core.Path.{◌≡◌, sym, ◌∙◌, ap, subst}
use mathlib.Core.List.{List, [], ◌∷◌}
use mathlib.Core.Bool.{true}
use Prim.Native.Nat.{ℕ, ◌≤◌}
use native.Mathlib.Omega.{arith}
use lib.ListN.{take}
use Rattle.rules.specs.Layout.{frame_size}
use Rattle.rules.specs.Record.{rec_of, CodesInRange}
use Rattle.rules.specs.Refusals.{delivered, refused}
use Rattle.rules.specs.Stage.{StageLent, encode_frame}
use Rattle.rules.specs.Reader.{ReaderLent, reader_has_room, read_frame}
use Rattle.rules.specs.declared.Mode.TheVariants.{Held}
use Rattle.rules.specs.declared.Layout.{Layout}
use Rattle.rules.proofs.Answers.{never}
use Rattle.rules_demands.proofs.Calls.{handed, FrameOf}
use Rattle.rules_demands.proofs.StageCalls.{stage_packed, stage_read, held-codes}
use Rattle.rules_stereo.specs.Stereo.{StereoLeft, with_signal, lent_signal, encode_stereo_frame}
use Rattle.stereo_demands.proofs.StereoIsStage.{mixed_lent, StereoGood, stereo_case, stereo_is_stage}

-- a delivery says that nothing was refused
pub stereo_delivers : (l : Layout) (t : StageLent) (ns : List ℕ) → (encode_stereo_frame l t).outcome ≡ delivered ns → StereoGood l t
stereo_delivers l t ns =
    stereo_case l t (λ x. x.outcome ≡ delivered ns → StereoGood l t) (λ n k _ _ e. never (sym e)) (λ _ _ e. never (sym e)) (λ h _. h)

module _ (l : Layout) (t : StageLent) (level boundary pairs n : ℕ) (e : (encode_stereo_frame l t).outcome ≡ delivered (level ∷ boundary ∷ pairs ∷ n ∷ [])) where
  left : encode_stereo_frame l t ≡ with_signal (lent_signal (mixed_lent l t)) (encode_frame l (mixed_lent l t))
  left = stereo_is_stage l t (stereo_delivers l t (level ∷ boundary ∷ pairs ∷ n ∷ []) e)

  staged : (encode_frame l (mixed_lent l t)).outcome ≡ delivered (level ∷ boundary ∷ pairs ∷ n ∷ [])
  staged = ap (λ (x : StereoLeft). x.outcome) (sym left) ∙ e

  -- Unconditionally: the frame is that of the record that the call left, every field of it, n bits in all.
  pub stereo_packed : FrameOf l (rec_of l level boundary (encode_stereo_frame l t).factors (encode_stereo_frame l t).side (encode_stereo_frame l t).codes) n
      (take (frame_size l) (encode_stereo_frame l t).frame)
  stereo_packed =
      subst (λ (x : StereoLeft). FrameOf l (rec_of l level boundary x.factors x.side x.codes) n (take (frame_size l) x.frame)) (sym left)
      (stage_packed l (mixed_lent l t) level boundary pairs n staged)

  -- Where each code is in its range, the strict reader, lent this frame, hands exactly this record back.
  abbrev ReadBack : ReaderLent → StereoLeft → Type 0
  ReadBack u x =
      CodesInRange l level boundary x.factors x.codes → reader_has_room l u ≡ true → take (frame_size l) u.frame ≡ take (frame_size l) x.frame
      → read_frame l u ≡ handed l u (level ∷ boundary ∷ n ∷ []) x.factors x.side x.codes

  pub stereo_read : (u : ReaderLent) → ReadBack u (encode_stereo_frame l t)
  stereo_read u = subst (ReadBack u) (sym left) (λ range room q. stage_read l (mixed_lent l t) level boundary pairs n staged range u room q)

  -- In held mode it does so with no other premise.
  module _ (mode : l.mode ≡ Held) where
    pub stereo-held-codes : CodesInRange l level boundary (encode_stereo_frame l t).factors (encode_stereo_frame l t).codes
    stereo-held-codes =
        subst (λ (x : StereoLeft). CodesInRange l level boundary x.factors x.codes) (sym left)
        (held-codes l (mixed_lent l t) level boundary pairs n staged mode)

    pub stereo_held_read : (u : ReaderLent) → reader_has_room l u ≡ true → take (frame_size l) u.frame ≡ take (frame_size l) (encode_stereo_frame l t).frame
        → read_frame l u ≡ handed l u (level ∷ boundary ∷ n ∷ []) (encode_stereo_frame l t).factors (encode_stereo_frame l t).side (encode_stereo_frame l t).codes
    stereo_held_read u = stereo_read u stereo-held-codes
