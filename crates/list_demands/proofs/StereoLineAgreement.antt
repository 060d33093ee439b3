-- The list of a line from unmixed spectra: the sentences over any step (OverAgreement.antt), of the stereo stage. Assumes nothing.
use mathlib.Core.Path.{◌≡◌}
use mathlib.Core.List.{List, [], ◌∷◌}
use mathlib.Core.Logic.{◌⊎◌}
use mathlib.Core.Bool.{true}
use Prim.Native.Nat.{ℕ, ◌+◌, ◌*◌, ◌≤◌, ◌<◌}
use lib.ListN.{length, take}
use Rattle.buffers.specs.Walk.{AtMost}
use Rattle.rules.specs.Layout.{frame_size, part}
use Rattle.rules.specs.Record.{CodesInRange}
use Rattle.rules.specs.Refusals.{delivered}
use Rattle.rules.specs.Stage.{StageLent}
use Rattle.rules.specs.Reader.{ReaderLent, reader_has_room, read_frame}
use Rattle.rules.specs.declared.Layout.{Layout}
use Rattle.rules_stereo.specs.Stereo.{encode_stereo_frame}
use Rattle.rules_line.specs.Line.{LineLent, frame_lent, encode_stereo_line}
use Rattle.rules_files.specs.declared.list.Entry.{Entry}
use Rattle.rules_files.specs.List.{entry_numbers, entry_at, write_list, list_entry}
use Rattle.line_demands.proofs.StereoSingles.{stereo_late, stereo-step}
use Rattle.line_demands.proofs.Standing.{all_lent, single}
use Rattle.line_demands.proofs.Over.{Admits}
use Rattle.line_demands.proofs.StereoLines.{stereo_frames_done}
use Rattle.list_demands.proofs.StereoAgreement.{OwnStereoRecord}
use Rattle.list_demands.proofs.OverAgreement.{over-listed, over_head_agrees, over_list_agrees, over_agrees_in_range}

module _ (l : Layout) (count : ℕ) (t : LineLent) (a : Admits l count t) where
  -- one entry for each delivered frame: its four answers
  abbrev pub done : ℕ
  done = stereo_frames_done l count t

  abbrev pub answered : List ℕ
  answered = (encode_stereo_line l count t).answers

  abbrev pub entry_of : (k : ℕ) → Entry
  entry_of k = entry_at answered k

  -- frame k's own parts
  abbrev pub parts_of : (k : ℕ) → StageLent
  parts_of k = frame_lent l k (all_lent t)

  -- The writer, lent the answers of a line, delivers wherever it has room.
  pub stereo_line_listed : (list : List ℕ) → 9 + done * 8 ≤ length list → (write_list done answered list).outcome ≡ delivered []
  stereo_line_listed = over-listed encode_stereo_frame stereo_late (λ n. (n ≤ 4) ⊎ (n ≡ 17)) (λ n. (5 ≤ n) × (n ≤ 7)) stereo-step l count t a

  -- ---- each entry agrees with its frame

  module _ (list : List ℕ) (words : AtMost 4294967295 answered) (w : (write_list done answered list).outcome ≡ delivered []) (k : ℕ) (h : k < done)
      (u : ReaderLent) (q : take (frame_size l) u.frame ≡ part (frame_size l) (encode_stereo_line l count t).frames k) where
    -- the list's bytes
    abbrev listed : List ℕ
    listed = take (9 + done * 8) (write_list done answered list).list

    module _ (level' boundary' bits' : ℕ) (d : (read_frame l u).outcome ≡ delivered (level' ∷ boundary' ∷ bits' ∷ [])) where
      -- Wherever the strict reader delivers on frame k of a line, lookup k has its level and its boundary;
      pub stereo_line_head_agrees : list_entry listed k ≡ delivered (level' ∷ boundary' ∷ (entry_of k).pairs ∷ (entry_of k).bits ∷ [])
      stereo_line_head_agrees = over_head_agrees encode_stereo_frame stereo_late (λ n. (n ≤ 4) ⊎ (n
          ≡ 17)) (λ n. (5 ≤ n) × (n ≤ 7)) stereo-step l count t a list words w k h u q level' boundary' bits' d

      -- where it hands back the frame's own record, that of the single call, lookup k has its level, its boundary and its bits.
      pub stereo_line_list_agrees : OwnStereoRecord l (parts_of k) u → list_entry listed k ≡ delivered (level' ∷ boundary' ∷ (entry_of k).pairs ∷ bits' ∷ [])
      stereo_line_list_agrees own =
          over_list_agrees encode_stereo_frame stereo_late (λ n. (n ≤ 4) ⊎ (n
          ≡ 17)) (λ n. (5 ≤ n) × (n ≤ 7)) stereo-step l count t a list words w k h u q level' boundary' bits' d
          (record { factors = own.factors; side = own.side; codes = own.codes })

    -- Whenever each code is in its range, the reader delivers, and lookup k has its level, its boundary and its bits.
    pub stereo_line_agrees_in_range : let x = single encode_stereo_frame l t k in CodesInRange l (entry_of k).level (entry_of k).boundary x.factors x.codes
        → reader_has_room l u ≡ true
        → ((read_frame l u).outcome ≡ delivered ((entry_of k).level ∷ (entry_of k).boundary ∷ (entry_of k).bits ∷ []))
        × (list_entry listed k ≡ delivered (entry_numbers (entry_of k)))
    stereo_line_agrees_in_range = over_agrees_in_range encode_stereo_frame stereo_late (λ n. (n ≤ 4) ⊎ (n
        ≡ 17)) (λ n. (5 ≤ n) × (n ≤ 7)) stereo-step l count t a list words w k h u q
