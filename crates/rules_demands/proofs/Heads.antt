-- Request A6: the record writer and the strict reader take every level and boundary that the frame's fields hold. Assumes nothing.
use mathlib.Core.Path.{◌≡◌, refl, ◌∙◌, ap}
use mathlib.Core.List.{[], ◌∷◌}
use mathlib.Core.Bool.{true}
use Prim.Native.Nat.{ℕ, zero, suc, ◌+◌, ◌*◌, ◌≤◌, ◌<◌}
use native.Mathlib.Omega.{arith}
use lib.IntN.{pos}
use lib.ListN.{length, take, drop, get_or, replicate, length-replicate}
use lib.Pow.{pow_pos}
use lib.Seq.{get_or-take, get_or-drop}
use Rattle.rules.specs.Layout.{legal_layout, LegalLayout, kind_at, side_width, frame_size, spectrum_length, factor_length, side_length, part}
use Rattle.rules.specs.Record.{Rec, Legal, rec_of, legal_record}
use Rattle.rules.specs.Fields.{fields}
use Rattle.rules.specs.Frame.{field_end, frame_of}
use Rattle.rules.specs.Refusals.{delivered}
use Rattle.rules.specs.Lent.{overwrite, no_factors, no_side, no_codes}
use Rattle.rules.specs.Writer.{WriterLent, WriterLeft, writer_has_room, write_record}
use Rattle.rules.specs.Reader.{ReaderLent, reader_has_room, read_frame}
use Rattle.rules.specs.declared.Layout.{Layout}
use Rattle.rules.proofs.Layouts.{legal_sizes, sides_le}
use Rattle.rules.proofs.Layouts.{coded-few}
use Rattle.rules_demands.proofs.LegalRecords.{Held, Blank, held_record, record_legal}
use Rattle.rules_demands.proofs.Calls.{Holds, handed, packed_written, read_after_write}

-- every value of a part of equal values is that value
same_at : {A : Type 0} (d : A) (n i : ℕ) → get_or (replicate n d) i d ≡ d
same_at d zero i = refl
same_at d (suc n) zero = refl
same_at d (suc n) (suc i) = same_at d n i

same_in : {A : Type 0} (d : A) (n k c i : ℕ) → i < k → get_or (part k (replicate n d) c) i d ≡ d
same_in d n k c i h = get_or-take k (drop (c * k) (replicate n d)) i d h ∙ get_or-drop (c * k) (replicate n d) i d ∙ same_at d n (c * k + i)

-- the silent record with this head: nothing but zeros in its buffers
abbrev pub silent_record : (l : Layout) (level boundary : ℕ) → Rec
silent_record l level boundary = rec_of l level boundary (no_factors l) (no_side l) (no_codes l)

module _ (l : Layout) (z : LegalLayout l) (level boundary : ℕ) (h : level ≤ 511) (g : boundary ≤ 127) where
  silent-held : Held l level boundary (no_factors l) (no_side l) (no_codes l)
  silent-held = record {
    head = record { levels = h; boundaries = g };
    factors = λ c i _ k. rw (same_in {A = ℕ} 0 (factor_length l) 128 c i (omega (arith, coded-few l z c))) (omega arith);
    side = λ c i _ k. rw (same_in {A = ℕ} 0 (side_length l) 8 c i (omega (arith, sides_le l c))) (pow_pos (side_width (kind_at l c)));
    codes = λ c s b _ k q. rw (same_in (pos 0) (spectrum_length l) 1024 c (s * 128 + b) (omega (arith, coded-few l z c))) (omega arith);
  }

  silent-blank : Blank l (no_factors l) (no_side l) (no_codes l)
  silent-blank = record {
    factors = λ c i _ _ k. same_in {A = ℕ} 0 (factor_length l) 128 c i k;
    side = λ c i _ _ k. same_in {A = ℕ} 0 (side_length l) 8 c i k;
    codes = λ c s b _ k _ q. same_in (pos 0) (spectrum_length l) 1024 c (s * 128 + b) (omega arith);
  }

  silent_passes : legal_record l level boundary (no_factors l) (no_side l) (no_codes l) ≡ true
  silent_passes = held_record l level boundary (no_factors l) (no_side l) (no_codes l) silent-held silent-blank

-- a head that is taken: the silent record with it is legal; where it fits it is written, from any buffers that hold it, and read back
pub record Taken (l : Layout) (level boundary : ℕ) : Type 0 where
  pub legal : Legal l (silent_record l level boundary)
  pub writes : (t : WriterLent) → writer_has_room l t ≡ true → Holds l t level boundary (no_factors l) (no_side l) (no_codes l)
      → length (fields l (silent_record l level boundary)) ≤ field_end l
      → write_record l t ≡ record {
        outcome = delivered (level ∷ boundary ∷ length (fields l (silent_record l level boundary)) ∷ []);
        frame = overwrite (frame_of l (silent_record l level boundary)) t.frame;
      }
  pub reads : (t : WriterLent) (u : ReaderLent) → writer_has_room l t ≡ true → Holds l t level boundary (no_factors l) (no_side l) (no_codes l)
      → length (fields l (silent_record l level boundary)) ≤ field_end l
      → reader_has_room l u ≡ true → take (frame_size l) u.frame ≡ take (frame_size l) (write_record l t).frame
      → read_frame l u ≡ handed l u (level ∷ boundary ∷ length (fields l (silent_record l level boundary)) ∷ []) t.factors t.side t.codes

-- EVERY HEAD is taken, by any legal layout.
pub every-head : (l : Layout) (level boundary : ℕ) → legal_layout l ≡ true → level ≤ 511 → boundary ≤ 127 → Taken l level boundary
every-head l level boundary a h g = record { legal = legal; writes = writes; reads = reads }
  where
    sizes : LegalLayout l
    sizes = legal_sizes l a

    passes : legal_record l level boundary (no_factors l) (no_side l) (no_codes l) ≡ true
    passes = silent_passes l sizes level boundary h g

    bit_count : ℕ
    bit_count = length (fields l (silent_record l level boundary))

    legal : Legal l (silent_record l level boundary)
    legal =
        record_legal l sizes level boundary (no_factors l) (no_side l) (no_codes l) passes
        (omega (arith, length-replicate {A = ℕ} (factor_length l) 0)) (omega (arith, length-replicate {A = ℕ} (side_length l) 0))
        (omega (arith, length-replicate (spectrum_length l) (pos 0)))

    writes : (t : WriterLent) → writer_has_room l t ≡ true → Holds l t level boundary (no_factors l) (no_side l) (no_codes l) → bit_count ≤ field_end l
        → write_record l t ≡ record {
          outcome = delivered (level ∷ boundary ∷ bit_count ∷ []);
          frame =
              overwrite (frame_of l (silent_record l level boundary)) t.frame;
        }
    writes t m o f =
        packed_written l t level boundary (no_factors l) (no_side l) (no_codes l) o bit_count (frame_of l (silent_record l level boundary)) sizes m passes
        (record { fits = f; ends = refl; bytes = refl })

    reads : (t : WriterLent) (u : ReaderLent) → writer_has_room l t ≡ true → Holds l t level boundary (no_factors l) (no_side l) (no_codes l) → bit_count ≤ field_end l
        → reader_has_room l u ≡ true → take (frame_size l) u.frame ≡ take (frame_size l) (write_record l t).frame
        → read_frame l u ≡ handed l u (level ∷ boundary ∷ bit_count ∷ []) t.factors t.side t.codes
    reads t u m o f n q = read_after_write l t u (level ∷ boundary ∷ bit_count ∷ []) (ap (λ (x : WriterLeft). x.outcome) (writes t m o f)) n q
