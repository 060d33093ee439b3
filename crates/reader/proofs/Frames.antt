-- The check, the sync, the part of a frame between them, and what a refusal leaves. Assumes nothing.
use mathlib.Core.Path.{◌≡◌, refl, sym, ◌∙◌, ap, ap₂}
use mathlib.Core.Bool.{true, false}
use mathlib.Core.List.{List}
use Prim.Native.Nat.{ℕ, ◌+◌, ◌-◌, ◌*◌, ◌≤◌}
use native.Mathlib.Nat.{div-one}
use native.Mathlib.Omega.{arith}
use borrow.Author.Tests.{le-leb, eq-eqb, ne_eqb}
use lib.IntN.{ℤ}
use Rattle.std.specs.Prelude.{Result, Ok, Err, is_err}
use lib.ListN.{length, take, drop, length-drop}
use lib.Seq.{take-take, length-take-le}
use Rattle.bits.specs.Bits.{bits_of, value}
use Rattle.bits.specs.Place.{field_at, look_at}
use Rattle.bits.specs.declared.Place.{Place}
use Rattle.bits.proofs.Fields.{field_in, look_field}
use Rattle.bits.proofs.Numbers.{length-bits_of}
use Rattle.bits.proofs.Parts.{bits-take, bits-drop, part_cut}
use Rattle.crc.specs.Sealed.{body, is_sealed}
use Rattle.rules.specs.Format.{ok, number}
use Rattle.rules.specs.Reading.{read_record, read_fields, faulty, after_fields, scan, strict}
use Rattle.rules.specs.Lent.{no_factors, no_side, no_codes}
use Rattle.rules.specs.Reader.{ReaderLeft, reader_left}
use Rattle.rules.specs.declared.Layout.{Layout}
use Rattle.rules.specs.declared.RecordDelivery.{RecordDelivery}
use Rattle.rules.specs.declared.ReadRefusal.{ReadRefusal}
use Rattle.reader.specs.Scans.{scan_part, found_left}

-- the part between sync and check
abbrev pub between : List ℕ → List ℕ
between frame = take (length frame - 2 - 2) (drop 2 frame)

module _ (l : Layout) (frame : List ℕ) where
  pub unsealed : is_sealed frame ≡ false → strict l frame ≡ faulty 8 0
  unfolding strict
  unsealed e = rw e refl

  module _ (long : 8 ≤ length frame) where
    body-length : length (bits_of (body frame)) ≡ 8 * (length frame - 2)
    body-length = length-bits_of (body frame) ∙ ap (λ n. 8 * n) (length-take-le (length frame - 2) frame (omega arith))

    part-bits : drop 16 (bits_of (body frame)) ≡ bits_of (between frame)
    part-bits = sym (bits-drop 2 (body frame)) ∙ ap bits_of (sym (part_cut 2 (length frame - 2) frame))

    part_length : length (bits_of (body frame)) ≡ length (bits_of (between frame)) + 16
    part_length =
        let p : length (between frame) ≡ length frame - 2 - 2 = length-take-le (length frame - 2 - 2) (drop 2 frame) (simp length-drop (omega arith)) in
        omega (arith, body-length, length-bits_of (between frame))

    module _ {v : ℕ} (seen : v ≡ look_at frame 0 16) where
      i : field_at frame 0 16 ≡ Ok (v, record { at = 16 })
      i = rw (seen, ← div-one (look_at frame 0 16)) (look_field frame 0 16 16 (omega arith) (omega arith))

      first-bits : v ≡ value (take 16 (bits_of (body frame)))
      first-bits =
          let both : ◌≡◌ {A = ℕ × Place} (v, record { at = 16 }) (value (take 16 (bits_of frame)), record { at = 16 }) =
          cc (i, field_in frame 0 16 (omega arith)) in
          let w : v ≡ value (take 16 (bits_of frame)) = ap (λ (x : ℕ × Place). x.0) both in
          w ∙ ap value (sym (ap (take 16) (bits-take (length frame - 2) frame) ∙ take-take 16 (8 * (length frame - 2)) (bits_of frame) (omega arith)))

      sync-bits : number 16 (bits_of (body frame)) ≡ ok v (bits_of (between frame))
      unfolding number
      sync-bits =
          let h : 16 ≤ length (bits_of (body frame)) = omega (arith, body-length) in
          rw (le-leb 16 (length (bits_of (body frame))) h) (ap₂ ok (sym first-bits) part-bits)

      module _ (e : is_sealed frame ≡ true) where
        pub unsynced : (v ≡ 0xFFFF → ⊥) → strict l frame ≡ faulty 9 0
        unfolding strict scan read_fields
        unsynced h = rw (e, sync-bits, ne_eqb v 0xFFFF h) (ap (faulty 9) (omega arith))

        pub synced : v ≡ 0xFFFF → strict l frame ≡ scan_part l (between frame)
        unfolding strict scan read_fields
        synced h = rw (e, sync-bits, eq-eqb v 0xFFFF h) (ap (λ n. after_fields n (read_record l (bits_of (between frame)))) part_length)

-- buffers that were cleared are the zeros that a refusal leaves
pub cleared_left : (l : Layout) (r : Result RecordDelivery ReadRefusal) {x : ReaderLeft} {F S : List ℕ} {C : List ℤ} (F' S' : List ℕ) (C' : List ℤ) → is_err r ≡ true
    → F ≡ no_factors l → S ≡ no_side l → C ≡ no_codes l → found_left l F' S' C' r ≡ x → reader_left r F S C ≡ x
cleared_left l (Ok d) F' S' C' e f s c h = absurd (let z : ◌≡◌ {A = ℕ} 0 1 = cc in omega arith)
cleared_left l (Err a) F' S' C' e f s c h = rw (f, s, c) h

-- .. and a record that was found stays
pub found_kept : (l : Layout) (r : Result RecordDelivery ReadRefusal) {x : ReaderLeft} {F S : List ℕ} {C : List ℤ} → is_err r ≡ false
    → found_left l F S C r ≡ x → reader_left r F S C ≡ x
found_kept l (Ok d) e h = h
found_kept l (Err a) e h = absurd (let z : ◌≡◌ {A = ℕ} 0 1 = cc in omega arith)
