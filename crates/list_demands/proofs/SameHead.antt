-- Two records with one frame have one level and one boundary, be they legal or not: the head's bits are theirs. Assumes nothing.
use mathlib.Core.Path.{◌≡◌, refl, sym, ap, ◌∙◌}
use Prim.Native.Nat.{◌-◌, ◌≤◌, ◌<◌}
use lib.ListN.{length, take, drop}
use Rattle.bits.specs.Bits.{bits, value, bits_of, pack}
use Rattle.bits.proofs.Numbers.{value-back, bits-pack}
use Rattle.crc.specs.Sealed.{body}
use Rattle.crc.proofs.Sealed.{body-sealed}
use Rattle.rules.specs.Layout.{frame_size}
use Rattle.rules.specs.Record.{Rec}
use Rattle.rules.specs.Fields.{fields}
use Rattle.rules.specs.Frame.{field_end, filled_fields, frame_of}
use Rattle.rules.specs.declared.Layout.{Layout}
use Rattle.rules_demands.proofs.Frames.{payload_length}

module _ (l : Layout) where
  -- the bits before the check
  payload : (r : Rec) → length (fields l r) ≤ field_end l → bits_of (body (frame_of l r)) ≡ filled_fields l r
  unfolding frame_of
  payload r f =
      ap bits_of (body-sealed (pack (frame_size l - 2) (filled_fields l r))) ∙ bits-pack (frame_size l - 2) (filled_fields l r) (payload_length l r f)

  -- nine bits of level and seven of boundary, behind sixteen of sync
  level_bits_lem : (r : Rec) → take 9 (drop 16 (filled_fields l r)) ≡ bits 9 r.level
  unfolding filled_fields fields bits
  level_bits_lem r = refl

  boundary-bits : (r : Rec) → take 7 (drop 25 (filled_fields l r)) ≡ bits 7 r.boundary
  unfolding filled_fields fields bits
  boundary-bits r = refl

  module _ (r r' : Rec) (f : length (fields l r) ≤ field_end l) (f' : length (fields l r') ≤ field_end l) (e : frame_of l r ≡ frame_of l r') where
    same_payload : filled_fields l r ≡ filled_fields l r'
    same_payload = sym (payload r f) ∙ ap (λ s. bits_of (body s)) e ∙ payload r' f'

    pub same-level : r.level < 512 → r'.level < 512 → r.level ≡ r'.level
    same-level h h' =
        sym (value-back 9 r.level h) ∙ ap value (sym (level_bits_lem r) ∙ ap (λ s. take 9 (drop 16 s)) same_payload ∙ level_bits_lem r')
        ∙ value-back 9 r'.level h'

    pub same-boundary : r.boundary < 128 → r'.boundary < 128 → r.boundary ≡ r'.boundary
    same-boundary h h' =
        sym (value-back 7 r.boundary h) ∙ ap value (sym (boundary-bits r) ∙ ap (λ s. take 7 (drop 25 s)) same_payload ∙ boundary-bits r')
        ∙ value-back 7 r'.boundary h'
