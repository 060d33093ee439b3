-- Every number of an outcome fits 32 bits. Assumes nothing.
use mathlib.Core.Path.{◌≡◌, refl, ◌∙◌, ap}
use mathlib.Core.List.{List}
use mathlib.Core.Bool.{Bool, not}
use mathlib.Core.Option.{Option, none, some}
use Prim.Native.Nat.{ℕ, ◌-◌, ◌*◌, ◌≤◌, ◌<◌}
use native.Mathlib.Omega.{arith}
use borrow.Author.Tests.{not-false}
use lib.ListN.{length, take}
use lib.Seq.{length-take-le}
use Rattle.buffers.proofs.Tests.{cond_both}
use Rattle.bits.specs.Bits.{bits_of}
use Rattle.bits.proofs.Numbers.{length-bits_of}
use Rattle.crc.specs.Sealed.{body, is_sealed}
use Rattle.rules.specs.Layout.{LegalLayout, frame_size, legal_layout}
use Rattle.rules.specs.Record.{Rec}
use Rattle.rules.specs.Frame.{field_end}
use Rattle.rules.specs.Format.{Read, ok, bad}
use Rattle.rules.specs.Reading.{Scanned, accepted, faulty, first_one, after_fill, after_fields, read_fields, scan, strict}
use Rattle.rules.specs.Reader.{ReaderLent, ReaderLeft, reader_has_room, scanned_left, read_frame}
use Rattle.rules.specs.declared.Layout.{Layout}
use Rattle.rules.proofs.Layouts.{legal_sizes}
use Rattle.rules_demands.proofs.Frames.{sound}
use Rattle.rules_demands.proofs.Deliveries.{front_length}
use Rattle.hca_answers.specs.Outcomes.{Small}
use Rattle.hca_answers.proofs.Fitting.{small-refused, small-three}

-- every bit that a refusal names lies in the frame
fill_within : (n : ℕ) (r : Rec) (left : ℕ) (o : Option ℕ) (k p : ℕ) → after_fill n r left o ≡ faulty k p → p ≤ n
fill_within n r left none k p e = let y : ◌≡◌ {A = ℕ} 0 1 = cc in absurd (omega arith)
fill_within n r left (some j) k p e = let q : n - j ≡ p = cc in omega arith

fields_within : (n : ℕ) (x : Read Rec) (k p : ℕ) → after_fields n x ≡ faulty k p → p ≤ n
fields_within n (ok r s) k p e = fill_within n r (length s) (first_one s) k p e
fields_within n (bad j left) k p e = let q : n - left ≡ p = cc in omega arith

abbrev SmallScan : Scanned → Type 0
SmallScan (accepted r n) = (r.level < 4294967296) × (r.boundary < 4294967296) × (n < 4294967296)
SmallScan (faulty k p) = p < 4294967296

module _ (l : Layout) (z : LegalLayout l) where
  scan_case : (s : List Bool) → length s ≡ field_end l → (x : Scanned) → scan l s ≡ x → SmallScan x
  unfolding scan
  scan_case s h (accepted r n) e =
      let k = sound l s r n h e in
      (omega (arith, k.legal.head.levels), omega (arith, k.legal.head.boundaries), omega (arith, k.ends, k.fits, z.large))
  scan_case s h (faulty k p) e = omega (arith, fields_within (length s) (read_fields l s) k p e, h, z.large)

  strict-small : (f : List ℕ) → length f ≡ frame_size l → SmallScan (strict l f)
  unfolding strict
  strict-small f g =
      let k : length (body f) ≡ frame_size l - 2 = length-take-le (length f - 2) f (omega arith) ∙ ap (λ x. x - 2) g in
      cond_both SmallScan (is_sealed f)
      (λ _. scan_case (bits_of (body f)) (length-bits_of (body f) ∙ ap (λ x. 8 * x) k) (scan l (bits_of (body f))) refl)
      (λ _. omega arith)

abbrev SmallRecord : ReaderLeft → Type 0
SmallRecord x = Small x.outcome

left-small : (l : Layout) (x : Scanned) → SmallScan x → SmallRecord (scanned_left l x)
unfolding scanned_left
left-small l (accepted r n) h = small-three _ _ _ h.0 h.1 h.2
left-small l (faulty k p) h = small-refused k p h

pub read_small : (l : Layout) (t : ReaderLent) → Small (read_frame l t).outcome
unfolding read_frame
read_small l t =
    cond_both SmallRecord (not (legal_layout l)) (λ _. small-refused 1 0 (omega arith))
    (λ a. cond_both SmallRecord (not (reader_has_room l t)) (λ _. small-refused 2 0 (omega arith))
    (λ b. left-small l _ (strict-small l (legal_sizes l (not-false _ a)) (take (frame_size l) t.frame) (front_length l t (not-false _ b)))))
