-- An entry of the list agrees with its frame where the stereo stage made it: that frame is the stage's on what was mixed. Assumes nothing.
use mathlib.Core.Path.{◌≡◌, sym, ap, ◌∙◌, subst}
use mathlib.Core.List.{List, [], ◌∷◌}
use mathlib.Core.Bool.{true}
use Prim.Native.Nat.{ℕ, ◌+◌, ◌*◌, ◌<◌}
use lib.ListN.{take}
use Rattle.buffers.specs.Walk.{AtMost}
use Rattle.rules.specs.Layout.{frame_size, factor_length, side_length, spectrum_length}
use Rattle.rules.specs.Record.{CodesInRange}
use Rattle.rules.specs.Refusals.{delivered}
use Rattle.rules.specs.Stage.{StageLent, encode_frame}
use Rattle.rules.specs.Reader.{ReaderLent, reader_has_room, read_frame}
use Rattle.rules.specs.declared.Layout.{Layout}
use Rattle.rules_stereo.specs.Stereo.{StereoLeft, with_signal, lent_signal, encode_stereo_frame}
use Rattle.rules_files.specs.List.{entry_numbers, entry_at, write_list, list_entry}
use Rattle.stereo_demands.proofs.StereoIsStage.{mixed_lent, stereo_is_stage}
use Rattle.stereo_demands.proofs.StereoCalls.{stereo_delivers}
use Rattle.list_demands.proofs.Agreement.{head_agrees, list_agrees, list_agrees_in_range}

-- the reader left the stereo stage's factors, side and codes, over the stated lengths: the frame's own record
pub record OwnStereoRecord (l : Layout) (t : StageLent) (u : ReaderLent) : Type 0 where
  pub factors : take (factor_length l) (read_frame l u).factors ≡ take (factor_length l) (encode_stereo_frame l t).factors
  pub side : take (side_length l) (read_frame l u).side ≡ take (side_length l) (encode_stereo_frame l t).side
  pub codes : take (spectrum_length l) (read_frame l u).codes ≡ take (spectrum_length l) (encode_stereo_frame l t).codes

-- entry k of a written list of n entries holds what the stereo stage answered
module _ (l : Layout) (t : StageLent) (level boundary pairs bits : ℕ) (e : (encode_stereo_frame l t).outcome ≡ delivered (level ∷ boundary ∷ pairs ∷ bits ∷ []))
    (n : ℕ) (entries list : List ℕ) (few : n < 4294967296) (words : AtMost 4294967295 entries) (w : (write_list n entries list).outcome ≡ delivered [])
    (k : ℕ) (h : k < n) (holds : entry_numbers (entry_at entries k) ≡ level ∷ boundary ∷ pairs ∷ bits ∷ []) where
  left : encode_stereo_frame l t ≡ with_signal (lent_signal (mixed_lent l t)) (encode_frame l (mixed_lent l t))
  left = stereo_is_stage l t (stereo_delivers l t (level ∷ boundary ∷ pairs ∷ bits ∷ []) e)

  staged : (encode_frame l (mixed_lent l t)).outcome ≡ delivered (level ∷ boundary ∷ pairs ∷ bits ∷ [])
  staged = ap (λ (x : StereoLeft). x.outcome) (sym left) ∙ e

  -- the list's bytes
  abbrev listed : List ℕ
  listed = take (9 + n * 8) (write_list n entries list).list

  module _ (u : ReaderLent) (q : take (frame_size l) u.frame ≡ take (frame_size l) (encode_stereo_frame l t).frame) where
    same : take (frame_size l) u.frame ≡ take (frame_size l) (encode_frame l (mixed_lent l t)).frame
    same = q ∙ ap (λ (x : StereoLeft). take (frame_size l) x.frame) left

    module _ (level' boundary' bits' : ℕ) (d : (read_frame l u).outcome ≡ delivered (level' ∷ boundary' ∷ bits' ∷ [])) where
      -- Wherever the strict reader delivers on that frame, lookup k has its level and its boundary;
      pub stereo_head_agrees : list_entry listed k ≡ delivered (level' ∷ boundary' ∷ pairs ∷ bits ∷ [])
      stereo_head_agrees = head_agrees l (mixed_lent l t) level boundary pairs bits staged n entries list few words w k h holds u same level' boundary' bits' d

      -- where it hands back the frame's own record, lookup k has its level, its boundary and its bits.
      pub stereo_list_agrees : OwnStereoRecord l t u → list_entry listed k ≡ delivered (level' ∷ boundary' ∷ pairs ∷ bits' ∷ [])
      stereo_list_agrees own =
          list_agrees l (mixed_lent l t) level boundary pairs bits staged n entries list few words w k h holds u same level' boundary' bits' d (record {
            factors = own.factors ∙ ap (λ (x : StereoLeft). take (factor_length l) x.factors) left;
            side = own.side ∙ ap (λ (x : StereoLeft). take (side_length l) x.side) left;
            codes = own.codes ∙ ap (λ (x : StereoLeft). take (spectrum_length l) x.codes) left;
          })

    -- Whenever each code is in its range, the reader delivers, and lookup k has its level, its boundary and its bits.
    pub stereo_agrees_in_range : CodesInRange l level boundary (encode_stereo_frame l t).factors (encode_stereo_frame l t).codes → reader_has_room l u ≡ true
        → ((read_frame l u).outcome ≡ delivered (level ∷ boundary ∷ bits ∷ [])) × (list_entry listed k ≡ delivered (level ∷ boundary ∷ pairs ∷ bits ∷ []))
    stereo_agrees_in_range range room =
        list_agrees_in_range l (mixed_lent l t) level boundary pairs bits staged n entries list few words w k h holds u same
        (subst (λ (x : StereoLeft). CodesInRange l level boundary x.factors x.codes) left range) room
