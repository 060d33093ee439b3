-- Demand 3 on bytes: the strict reader takes just the frames of legal records, and each frame is one record's. Assumes nothing.
use mathlib.Core.Path.{◌≡◌, refl, sym, ◌∙◌, ap, ap₂}
use mathlib.Core.List.{List, [], ◌∷◌}
use mathlib.Core.Logic.{◌↔◌}
use mathlib.Core.Bool.{cond}
use Prim.Native.Nat.{ℕ, zero, suc, ◌+◌, ◌-◌, ◌*◌, ◌≤◌}
use native.Mathlib.Omega.{arith}
use lib.ListN.{length, take}
use lib.Seq.{length-take-le}
use Rattle.bits.specs.Bits.{Bytes, bits_of, pack}
use Rattle.bits.proofs.Numbers.{length-bits_of, length-pack, bits-pack, pack-bits, bytes-pack}
use Rattle.crc.specs.Sealed.{body, sealed, is_sealed}
use Rattle.crc.proofs.Sealed.{length-sealed, body-sealed, bytes-sealed, is_sealed-sealed, is_sealed_only}
use Rattle.rules.specs.Layout.{LegalLayout, frame_size}
use Rattle.rules.specs.Record.{Rec, Legal}
use Rattle.rules.specs.Fields.{fields}
use Rattle.rules.specs.Frame.{field_end, filled_fields, frame_of}
use Rattle.rules.specs.Reading.{accepted, faulty, scan, strict}
use Rattle.rules.specs.declared.Layout.{Layout}
use Rattle.rules_formats.proofs.Numbers.{bool_case}
use Rattle.rules_demands.proofs.Frames.{payload_length, complete, sound}

pub bytes_take : (n : ℕ) (f : List ℕ) → Bytes f → Bytes (take n f)
bytes_take zero f b = tt
bytes_take (suc n) [] b = tt
bytes_take (suc n) (x ∷ f) b = (b.0, bytes_take n f b.1)

-- a record whose frame this is: legal, its fields fit, and they end at bit n
pub record Framed (l : Layout) (r : Rec) (n : ℕ) (f : List ℕ) : Type 0 where
  pub legal : Legal l r
  pub fits : length (fields l r) ≤ field_end l
  pub ends : n ≡ length (fields l r)
  pub bytes : f ≡ frame_of l r

module _ (l : Layout) where
  -- the bytes before the check
  before : Rec → List ℕ
  before r = pack (frame_size l - 2) (filled_fields l r)

  pub frame-length : LegalLayout l → (r : Rec) → length (frame_of l r) ≡ frame_size l
  unfolding frame_of before
  frame-length z r = omega (arith, length-sealed (before r), length-pack (frame_size l - 2) (filled_fields l r))

  pub frame-bytes : (r : Rec) → length (fields l r) ≤ field_end l → Bytes (frame_of l r)
  unfolding frame_of before
  frame-bytes r f = bytes-sealed (before r) (bytes-pack (frame_size l - 2) (filled_fields l r) (payload_length l r f))

  before-bits : (r : Rec) → length (fields l r) ≤ field_end l → bits_of (before r) ≡ filled_fields l r
  unfolding before
  before-bits r f = bits-pack (frame_size l - 2) (filled_fields l r) (payload_length l r f)

  -- what is written is read back
  pub strict_complete : (r : Rec) → Legal l r → length (fields l r) ≤ field_end l → strict l (frame_of l r) ≡ accepted r (length (fields l r))
  unfolding strict frame_of before
  strict_complete r h f = rw (is_sealed-sealed (before r), body-sealed (before r), before-bits r f) (complete l r h f)

  -- what is read was written, of a legal record
  pub strict_sound : LegalLayout l → (f : List ℕ) → Bytes f → length f ≡ frame_size l → (r : Rec) (n : ℕ) → strict l f ≡ accepted r n → Framed l r n f
  unfolding strict frame_of
  strict_sound z f b g r n =
      bool_case (λ t. is_sealed f ≡ t → cond t (scan l (bits_of (body f))) (faulty 8 0) ≡ accepted r n → Framed l r n f) (is_sealed f)
      (λ _ q e.
      let k : length (body f) ≡ frame_size l - 2 = length-take-le (length f - 2) f (omega arith) ∙ ap (λ x. x - 2) g in
      let h = sound l (bits_of (body f)) r n (length-bits_of (body f) ∙ ap (λ x. 8 * x) k) e in
      record {
        legal = h.legal;
        fits = h.fits;
        ends = h.ends;
        bytes = is_sealed_only f b (omega arith) q ∙ ap sealed (sym (pack-bits (body f) (bytes_take (length f - 2) f b)) ∙ ap₂ pack k h.are);
      })
      (λ _ q e. let y : ◌≡◌ {A = ℕ} 0 1 = cc in absurd (omega arith))
      refl

  -- THE DEMAND: a frame is accepted, as this record with this end, just where it is this record's
  pub demand3 : LegalLayout l → (f : List ℕ) → Bytes f → length f ≡ frame_size l → (r : Rec) (n : ℕ) → (strict l f ≡ accepted r n) ↔ Framed l r n f
  demand3 z f b g r n = (
    strict_sound z f b g r n,
    (λ h. rw (h.bytes, h.ends) (strict_complete r h.legal h.fits)),
  )

  -- equal frames, equal records
  pub injective : (r r' : Rec) → Legal l r → Legal l r' → length (fields l r) ≤ field_end l → length (fields l r') ≤ field_end l
      → frame_of l r ≡ frame_of l r' → r ≡ r'
  injective r r' h h' f f' e =
      let p = strict_complete r h f in
      let p' = strict_complete r' h' f' in
      cc

  -- head, fields, fill and check add up to 8F bits
  pub add_up : LegalLayout l → (r : Rec) → length (fields l r) ≤ field_end l
      → (length (bits_of (frame_of l r)) ≡ 8 * frame_size l)
      × (length (bits_of (frame_of l r)) ≡ length (fields l r) + (field_end l - length (fields l r)) + 16)
  add_up z r f =
      let e : length (bits_of (frame_of l r)) ≡ 8 * frame_size l = length-bits_of (frame_of l r) ∙ ap (λ x. 8 * x) (frame-length z r) in
      (e, omega arith)
