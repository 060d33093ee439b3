-- The codes and the fill after the channels, and what the scan of the part then leaves. Assumes nothing.
use mathlib.Core.Path.{◌≡◌, refl, sym, ◌∙◌, ap, subst}
use mathlib.Core.List.{List}
use Rattle.std.proofs.Math.Option as option
use Rattle.std.specs.Prelude.{Option, Some, None, Ok, Err}
use Prim.Native.Nat.{ℕ, ◌+◌, ◌-◌, ◌*◌, ◌≤◌}
use native.Mathlib.Omega.{arith}
use lib.IntN.{ℤ}
use lib.ListN.{length}
use Rattle.bits.specs.Bits.{bits_of}
use Rattle.bits.specs.Place.{left_at}
use Rattle.bits.specs.declared.Place.{Place}
use Rattle.bits.proofs.Numbers.{length-bits_of}
use Rattle.bits.proofs.Fields.{length-left}
use Rattle.buffers.specs.Walk.{build}
use Rattle.rules.specs.Format.{pure, and_then, each, times}
use Rattle.rules.specs.Layout.{LegalLayout, factor_length, side_length}
use Rattle.rules.specs.Resolution.{all_resolutions}
use Rattle.rules.specs.Record.{Rec, chan_of, codes_in, rec_of}
use Rattle.rules.specs.Reading.{read_code, read_record, first_one, Scanned, faulty}
use Rattle.rules.specs.Refusals.{refused, reader_outcome}
use Rattle.rules.specs.Lent.{no_factors, no_side, no_codes}
use Rattle.rules.specs.Reader.{reader_left, scanned_left}
use Rattle.rules.specs.declared.Layout.{Layout}
use Rattle.rules.specs.declared.ReadRefusal.{ReadRefusal}
use Rattle.reader_channels.specs.declared.values.faults.Fault.{Fault}
use Rattle.reader_channels.specs.Steps.{Step, fault_number, fault_bit, step_read}
use Rattle.reader_channels.proofs.HeaderChannels.{holds-factors, holds-side}
use Rattle.reader_codes.specs.Rows.{read_subframes, Subframes}
use Rattle.reader_codes.proofs.Resolved.{coded_rows_lem, codes-stored}
use Rattle.reader.specs.Filled.{Filled, FillIn, fill_found}
use Rattle.reader_channels.specs.declared.level_and_boundary.Head.{Head}
use Rattle.reader_channels.specs.Headed.{Headed}
use Rattle.reader.specs.Scans.{FieldsRead, scan_part, found_left}

-- a bit of the part, counted from the frame's first by the bits that are left there
from-left : (s : List ℕ) (p : ℕ) → p ≤ 8 * length s → length (bits_of s) + 16 - length (left_at s p) ≡ p + 16
from-left s p h = omega (arith, length-bits_of s, length-left s p)

-- the record with these codes
abbrev with_codes : (l : Layout) (F S : List ℕ) (level boundary : ℕ) (codes : List (List (List ℤ))) → Rec
with_codes l F S level boundary codes = record { level = level; boundary = boundary; chans = build (chan_of l F S) l.channels; codes = codes }

pub fill_in : (s : List ℕ) {x : option.Option ℕ} (r : Option ℕ) → length s ≤ 65535 → Filled s x r → FillIn r
fill_in s None h t = tt
fill_in s (Some b) h t = omega (arith, t.within)

-- codes that were read by these resolutions
pub resolved : (l : Layout) (s : List ℕ) (p : ℕ) {rs rs' : List ℕ} {C : List ℤ} {r : Step} → rs ≡ rs' → Subframes l s (read_subframes l rs (left_at s p)) C r
    → Subframes l s (read_subframes l rs' (left_at s p)) C r
resolved l s p {C = C} {r = r} e t = subst (λ rs. Subframes l s (read_subframes l rs (left_at s p)) C r) e t

-- a refusal leaves its answer, and zeros
pub refused-left : (l : Layout) (a : ReadRefusal) {x : Scanned} {n k : ℕ} → x ≡ faulty n k → reader_outcome (Err a) ≡ refused n k
    → reader_left (Err a) (no_factors l) (no_side l) (no_codes l) ≡ scanned_left l x
unfolding scanned_left
refused-left l a e h = rw (e, h) refl

module _ (l : Layout) (s F S : List ℕ) (C : List ℤ) where
  -- THE CODES after the channels
  module _ {o : Head} (h : Headed l s F S (Ok o)) (z : LegalLayout l) (n : length F ≡ factor_length l) (m : length S ≡ side_length l) where
    abbrev CodesRead : Step → Type 0
    CodesRead r = Subframes l s (read_subframes l (all_resolutions l o.level o.boundary F) (left_at s o.next.at)) C r

    codes_read : (r : Step) → CodesRead r
        → read_record l (bits_of s)
        ≡ and_then (step_read s (build (λ i. build (codes_in l C i) l.channels) 8) r) (λ cs. pure (with_codes l F S o.level o.boundary cs))
    codes_read r t =
        h.is
        ∙ ap (λ rs. and_then (each (λ _. each (each read_code) rs) (times 8) (left_at s o.next.at)) (λ cs. pure (with_codes l F S o.level o.boundary cs)))
        (sym (coded_rows_lem l o.level o.boundary F S z n))
        ∙ ap (λ x. and_then x (λ cs. pure (with_codes l F S o.level o.boundary cs))) t.done.is

    chans_are : (rec_of l o.level o.boundary F S C).chans ≡ build (chan_of l F S) l.channels
    unfolding rec_of
    chans_are = refl

    pub fields_after : {q : Place} → CodesRead (Ok q) → FieldsRead l s F S C (Ok (record o { next = q }))
    unfolding rec_of
    fields_after {q} t = record {
      is = codes_read (Ok q) t;
      within = t.done.within;
      holds = record {
        factors = holds-factors l F S h.holds.1 (rec_of l o.level o.boundary F S C) chans_are n;
        side = holds-side l F S h.holds.1 (rec_of l o.level o.boundary F S C) chans_are m;
        codes = codes-stored l o.level o.boundary F S C t.blank;
      };
    }

    pub fields_cut : {f : Fault} → CodesRead (Err f) → FieldsRead l s F S C (Err f)
    unfolding rec_of
    fields_cut {f} t = record { is = codes_read (Err f) t; within = t.done.within; holds = tt }

  -- THE SCAN: a field's refusal, its bit counted from the frame's first
  pub fault_left : {f : Fault} (a : ReadRefusal) → FieldsRead l s F S C (Err f) → reader_outcome (Err a) ≡ refused (fault_number f) (fault_bit f + 16)
      → found_left l F S C (Err a) ≡ scanned_left l (scan_part l s)
  fault_left {f} a h e = refused-left l a (rw h.is (ap (faulty (fault_number f)) (from-left s (fault_bit f) h.within))) e

  -- .. the record, or refusal 14
  module _ {o : Head} (h : FieldsRead l s F S C (Ok o)) where
    pub filled : (w : Option ℕ) → Filled s (first_one (left_at s o.next.at)) w → found_left l F S C (fill_found o w) ≡ scanned_left l (scan_part l s)
    unfolding scanned_left reader_outcome rec_of
    filled None u = rw (h.is, u.is, from-left s o.next.at h.within, h.holds.factors, h.holds.side, h.holds.codes) refl
    filled (Some p) u = rw (h.is, u.is, from-left s p u.within) refl
