-- Demand 2 for the record writer as it is called: which answer comes when. Assumes nothing.
use mathlib.Core.Path.{◌≡◌, refl, ◌∙◌, ap}
use mathlib.Core.List.{List, [], ◌∷◌}
use mathlib.Core.Logic.{◌↔◌}
use mathlib.Core.Bool.{true, false, not}
use Prim.Native.Nat.{ℕ, ◌+◌, ◌-◌, ◌/◌, ◌≤◌, ◌<◌}
use native.Mathlib.Omega.{arith}
use borrow.Author.Tests.{ltb-true, ltb-false, le-ltb, not-false, eqb-false}
use lib.Dec.{eqb, ltb}
use lib.ListN.{length}
use Rattle.buffers.proofs.Tests.{cond_both}
use Rattle.rules.specs.Layout.{LegalLayout, legal_layout, kind_at, kinds_of, bands_per_group, group_count, coded_count_at, side_count_at, room_of, HasRoom}
use Rattle.rules.specs.Resolution.{resolution, resolution_at, resolutions_of, band_resolution, channel_resolutions, all_resolutions}
use Rattle.rules.specs.Record.{rec_of, legal_channel, legal_channels, legal_record}
use Rattle.rules.specs.Fields.{fields}
use Rattle.rules.specs.Frame.{field_end}
use Rattle.rules.specs.Refusals.{Outcome, delivered, refused}
use Rattle.rules.specs.Writer.{WriterLent, WriterLeft, writer_has_room, lent_record, record_written, write_record}
use Rattle.rules.specs.declared.Layout.{Layout}
use Rattle.rules.proofs.Layouts.{legal_true, legal_sizes, room_true, room_facts}
use Rattle.rules.proofs.Refused.{record_long}
use Rattle.rules.proofs.Answers.{never, Numbered, numbered, unnumbered, writer_numbers}
use Rattle.rules_demands.proofs.Lengths.{fields-short}

other : {A : Type 0} {a b n k : ℕ} → refused a b ≡ refused n k → eqb a n ≡ false → A
other {A} {a} {b} {n} {k} e d = let z : a ≡ n = cc e in absurd (eqb-false a n d z)

-- a call that passes refusals 1, 2 and 15
pub record Writable (l : Layout) (t : WriterLent) : Type 0 where
  pub layout : legal_layout l ≡ true
  pub room : writer_has_room l t ≡ true
  pub legal : legal_record l t.level t.boundary t.factors t.side t.codes ≡ true

-- the sum of the field lengths
abbrev pub written_bits : Layout → WriterLent → ℕ
written_bits l t = length (fields l (lent_record l t))

module _ (l : Layout) (t : WriterLent) where
  -- what each end has, every end has
  pub write_case : (P : Outcome → Type 0) → P (refused 1 0) → P (refused 2 0) → P (refused 15 0)
      → (Writable l t → field_end l < written_bits l t → P (refused 7 (written_bits l t)))
      → (Writable l t → written_bits l t ≤ field_end l → P (delivered (t.level ∷ t.boundary ∷ written_bits l t ∷ []))) → P (write_record l t).outcome
  unfolding write_record record_written
  write_case P one two fifteen seven done =
      let Q : WriterLeft → Type 0 = λ x. P x.outcome in
      cond_both Q (not (legal_layout l)) (λ _. one)
      (λ a. cond_both Q (not (writer_has_room l t)) (λ _. two)
      (λ b. cond_both Q (not (legal_record l t.level t.boundary t.factors t.side t.codes)) (λ _. fifteen)
      (λ c. let k : Writable l t = record { layout = not-false _ a; room = not-false _ b; legal = not-false _ c } in
      cond_both Q (ltb (field_end l) (written_bits l t)) (λ g. seven k (ltb-true _ _ g)) (λ g. done k (ltb-false _ _ g)))))

  -- Where the record writer refuses, the number is one of four.
  pub write_numbers : Numbered writer_numbers (write_record l t).outcome
  write_numbers =
      write_case (Numbered writer_numbers) (numbered writer_numbers 1 0 tt) (numbered writer_numbers 2 0 tt) (numbered writer_numbers 15 0 tt)
      (λ _ _. numbered writer_numbers 7 _ tt) (λ _ _. unnumbered writer_numbers _)

  module _ (k : Writable l t) where
    says_long : field_end l < written_bits l t → (write_record l t).outcome ≡ refused 7 (written_bits l t)
    unfolding write_record
    says_long h = rw (k.layout, k.room) (ap (λ (x : WriterLeft). x.outcome) (record_long l t k.legal h))

    says_done : written_bits l t ≤ field_end l → (write_record l t).outcome ≡ delivered (t.level ∷ t.boundary ∷ written_bits l t ∷ [])
    unfolding write_record record_written
    says_done h = rw (k.layout, k.room, k.legal, le-ltb _ _ h)

-- Refusal 7 comes just where a legal record's fields do not fit, beside it the sum of their lengths.
pub write_too_long : (l : Layout) (t : WriterLent) (n : ℕ) → ((write_record l t).outcome ≡ refused 7 n)
    ↔ (Writable l t × (field_end l < written_bits l t) × (n ≡ written_bits l t))
write_too_long l t n = (
  write_case l t (λ o. o ≡ refused 7 n → Writable l t × (field_end l < written_bits l t) × (n ≡ written_bits l t))
      (λ e. other e refl) (λ e. other e refl) (λ e. other e refl) (λ k h e. (k, h, (cc))) (λ _ _ e. never e),
  (λ x. let (k, h, q) = x in rw q (says_long l t k h)),
)

-- ---- ROOM ENOUGH: fields and legality do not look at the frame's size

abbrev pub resized : (l : Layout) (size : ℕ) → Layout
resized l size = record {
  channels = l.channels;
  kinds = l.kinds;
  base = l.base;
  stereo = l.stereo;
  total = l.total;
  frame_size = size;
  minimum = l.minimum;
  maximum = l.maximum;
  mode = l.mode;
}

-- the same record, to be written to another buffer
abbrev pub lent_to : (t : WriterLent) (frame : List ℕ) → WriterLent
lent_to t frame = record { level = t.level; boundary = t.boundary; factors = t.factors; side = t.side; codes = t.codes; frame = frame }

module _ (l : Layout) (t : WriterLent) (size : ℕ) (frame : List ℕ) where
  same_bits : written_bits (resized l size) (lent_to t frame) ≡ written_bits l t
  unfolding fields lent_record rec_of kinds_of kind_at coded_count_at side_count_at group_count bands_per_group resolutions_of resolution_at resolution
  same_bits = refl

  same_writable : Writable l t → 8 ≤ size → size ≤ 65535 → size ≤ length frame → Writable (resized l size) (lent_to t frame)
  unfolding legal_record legal_channels legal_channel all_resolutions channel_resolutions band_resolution resolution_at resolution kind_at coded_count_at side_count_at
      group_count bands_per_group
  same_writable k small large long =
      let z : LegalLayout l = legal_sizes l k.layout in
      let e : HasRoom l (room_of (length t.factors) (length t.side) (length t.codes) (length t.frame)) = room_facts l _ k.room in
      record {
        layout = legal_true (resized l size) (record {
          some = z.some;
          few = z.few;
          band = z.band;
          bands = z.bands;
          start = z.start;
          small = small;
          large = large;
          lowest = z.lowest;
          paired = z.paired;
          highest = z.highest;
        });
        room = room_true (resized l size) _ (record { factors = e.factors; side = e.side; codes = e.codes; frame = long });
        legal = k.legal;
      }

-- Where the record writer refuses with 7 and n, a frame of (n + 7) / 8 + 2 bytes has room for this record, and one of a byte less has not.
pub room_enough : (l : Layout) (t : WriterLent) (n : ℕ) → (write_record l t).outcome ≡ refused 7 n → (size : ℕ) → size ≡ (n + 7) / 8 + 2 → (frame : List ℕ) →
    (size ≤ 27500)
    × (size ≤ length frame → (write_record (resized l size) (lent_to t frame)).outcome ≡ delivered (t.level ∷ t.boundary ∷ n ∷ []))
    × (size - 1 ≤ length frame → (write_record (resized l (size - 1)) (lent_to t frame)).outcome ≡ refused 7 n)
unfolding lent_record
room_enough l t n e size q frame =
    let (k, h, is) = (write_too_long l t n).0 e in
    let z : LegalLayout l = legal_sizes l k.layout in
    let most : written_bits l t ≤ 219984 = fields-short l z t.level t.boundary t.factors t.side t.codes in
    let small : 8 ≤ size - 1 = omega (arith, z.small) in (
      omega arith,
      (λ g. says_done (resized l size) (lent_to t frame) (same_writable l t size frame k (omega arith) (omega arith) g)
          (rw (same_bits l t size frame) (omega arith))
          ∙ rw (same_bits l t size frame, is)),
      (λ g. says_long (resized l (size - 1)) (lent_to t frame) (same_writable l t (size - 1) frame k small (omega arith) g)
          (rw (same_bits l t (size - 1) frame) (omega arith))
          ∙ rw (same_bits l t (size - 1) frame, is)),
    )
