-- A record's fields in the order of the code, and the frame that holds them. Assumes nothing.
use mathlib.Core.Path.{◌≡◌, sym, ◌∙◌, ap}
use mathlib.Core.List.{List, ◌++◌, append_assoc}
use mathlib.Core.Bool.{Bool}
use Prim.Native.Nat.{ℕ, ◌-◌, ◌*◌, ◌≤◌, ◌<◌}
use native.Mathlib.Omega.{arith}
use lib.IntN.{ℤ}
use lib.ListN.{length, get_or, take, drop, length-append, length-drop}
use lib.Seq.{take_at, length-take-le}
use Rattle.buffers.specs.Walk.{build, AtMost}
use Rattle.buffers.proofs.Most.{part-most}
use Rattle.bits.specs.Bits.{bits}
use Rattle.bits.specs.Place.{Written}
use Rattle.bits.proofs.Parts.{bytes-all}
use Rattle.bits.proofs.Runs.{written-pack}
use Rattle.crc.specs.Sealed.{body, sealed}
use Rattle.rules.specs.Format.{each_bits, times}
use Rattle.rules.specs.Layout.{LegalLayout, frame_size, kinds_of}
use Rattle.rules.specs.Resolution.{all_resolutions}
use Rattle.rules.specs.Record.{Rec, chan_of, codes_in, rec_of}
use Rattle.resolutions.specs.Coded.{coded_resolutions}
use Rattle.rules.specs.Fields.{channel_fields, code_bits, fields}
use Rattle.rules.specs.Frame.{field_end, filled_fields, frame_of}
use Rattle.rules.specs.declared.Layout.{Layout}
use Rattle.resolutions.proofs.Bands.{resolutions_are}

regroup : (a b c d : List Bool) → a ++ (b ++ (c ++ d)) ≡ (a ++ (b ++ c)) ++ d
regroup a b c d = simp append_assoc

-- head, channels and codes, with the resolutions that are lent
pub fields_packed : (l : Layout) (level boundary : ℕ) (F S : List ℕ) (C : List ℤ) (R : List ℕ) → LegalLayout l → length F ≡ l.channels * 128 → R
    ≡ all_resolutions l level boundary F →
    fields l (rec_of l level boundary F S C)
    ≡ (bits 16 0xFFFF ++ (bits 9 level ++ bits 7 boundary)) ++ (each_bits (channel_fields l) (kinds_of l) (build (chan_of l F S) l.channels)
    ++ each_bits (λ _. each_bits (each_bits code_bits) (build (coded_resolutions l R) l.channels)) (times 8) (build (λ s. build (codes_in l C s) l.channels) 8))
unfolding fields rec_of
fields_packed l level boundary F S C R z e h =
    regroup (bits 16 0xFFFF) (bits 9 level) (bits 7 boundary) _
    ∙ ap (λ rs. (bits 16 0xFFFF ++ (bits 9 level ++ bits 7 boundary)) ++ (each_bits (channel_fields l) (kinds_of l) (build (chan_of l F S) l.channels)
    ++ each_bits (λ _. each_bits (each_bits code_bits) rs) (times 8) (build (λ s. build (codes_in l C s) l.channels) 8)))
    (sym (resolutions_are l level boundary F S z e) ∙ ap (λ rs. build (coded_resolutions l rs) l.channels) (sym h))

-- a frame and its payload
module _ (l : Layout) (z : LegalLayout l) (f : List ℕ) (long : length f ≡ frame_size l) where
  pub part_length : length (take (frame_size l - 2) f) ≡ frame_size l - 2
  part_length = length-take-le (frame_size l - 2) f (omega (arith, long))

  -- the field_end p, written there
  module _ (r : Rec) {p : List ℕ} {count : ℕ} (same : length p ≡ length (take (frame_size l - 2) f)) (w : Written p count (fields l r)) where
    pub count-is : count ≡ length (fields l r)
    count-is = w.place

    written-length : length p ≡ frame_size l - 2
    written-length = same ∙ part_length

    pub packed_length : length (p ++ drop (frame_size l - 2) f) ≡ frame_size l
    packed_length = simp (length-append, length-drop) (omega (arith, written-length, long, z.small))

    front : take (frame_size l - 2) (p ++ drop (frame_size l - 2) f) ≡ p
    front = take_at p (drop (frame_size l - 2) f) (frame_size l - 2) written-length

    pub frame_is : ((k : ℕ) → get_or (p ++ drop (frame_size l - 2) f) k 0 < 256) → count ≤ field_end l → sealed (body (p ++ drop (frame_size l - 2) f)) ≡ frame_of l r
    unfolding frame_of filled_fields
    frame_is small fits =
        let most : AtMost 255 p = rw front at (part-most 255 0 (frame_size l - 2) (p ++ drop (frame_size l - 2) f) (λ k. omega (arith, small k))) in
        let cut : body (p ++ drop (frame_size l - 2) f) ≡ p = rw packed_length front in
        let le : length (fields l r) ≤ 8 * length p = omega (arith, count-is, written-length) in
        ap sealed (cut ∙ rw written-length at (written-pack (bytes-all p (λ k. omega (arith, most k))) w le))
