-- Level and boundary, one way through the record's reader after the other. Assumes nothing.
use mathlib.Core.Path.{◌≡◌, refl, subst}
use mathlib.Core.List.{List}
use Prim.Native.Nat.{ℕ}
use native.Mathlib.Omega.{arith}
use lib.IntN.{ℤ}
use Rattle.std.specs.Prelude.{Ok, Err}
use Rattle.bits.specs.Bits.{bits_of}
use Rattle.bits.specs.Place.{left_at, field_at}
use Rattle.bits.specs.declared.Place.{Place}
use Rattle.bits.specs.declared.PastEnd.{PastEnd}
use Rattle.rules.specs.Format.{Read, ok, bad, Reader, pure, ◌>>=◌, and_then, each, times, number}
use Rattle.rules.specs.Layout.{kinds_of}
use Rattle.rules.specs.Record.{Chan, Rec, resolutions}
use Rattle.rules.specs.Reading.{read_code, read_channel, read_record}
use Rattle.rules.specs.declared.Layout.{Layout}
use Rattle.reader_channels.specs.declared.values.faults.Fault.{Fault}
use Rattle.reader_channels.specs.declared.values.faults.Fault.TheVariants as fault
use Rattle.reader_channels.specs.Values.{ValueAgrees}
use Rattle.reader_channels.proofs.Answered.{number_read, number_cut}
use Rattle.reader_channels.specs.Started.{Opened, HeadAgrees, codes_then, Started}

abbrev Codes : Type 0
Codes = List (List (List ℤ))

-- the record of its four fields is the record that the last of them ends
codes-last : (level boundary : ℕ) (chans : List Chan) (x : Read Codes)
    → and_then {A = Rec} {B = ℕ × (ℕ × (List Chan × Codes))}
    (and_then {A = ℕ × (ℕ × (List Chan × Codes))} {B = ℕ × (List Chan × Codes)}
    (and_then {A = ℕ × (List Chan × Codes)} {B = List Chan × Codes} (and_then {A = List Chan × Codes} x (λ cs. pure (chans, cs))) (λ y. pure (boundary, y)))
    (λ y. pure (level, y)))
    (λ y. pure (record { level = y.0; boundary = y.1.0; chans = y.1.1.0; codes = y.1.1.1 }))
    ≡ and_then {A = Rec} x (λ cs. pure (record { level = level; boundary = boundary; chans = chans; codes = cs }))
codes-last level boundary chans (ok cs t) = refl
codes-last level boundary chans (bad n k) = refl

channels-last : (l : Layout) (level boundary : ℕ) (x : Read (List Chan))
    → and_then {A = Rec} {B = ℕ × (ℕ × (List Chan × Codes))}
    (and_then {A = ℕ × (ℕ × (List Chan × Codes))} {B = ℕ × (List Chan × Codes)}
    (and_then {A = ℕ × (List Chan × Codes)} {B = List Chan × Codes}
    (and_then {A = List Chan × Codes} x (λ chans. each (λ _. each (each read_code) (resolutions l level boundary chans)) (times 8) >>= λ cs. pure (chans, cs)))
    (λ y. pure (boundary, y)))
    (λ y. pure (level, y)))
    (λ y. pure (record { level = y.0; boundary = y.1.0; chans = y.1.1.0; codes = y.1.1.1 }))
    ≡ and_then {A = Rec} x (codes_then l level boundary)
channels-last l level boundary (ok chans t) =
    codes-last level boundary chans (each (λ _. each (each read_code) (resolutions l level boundary chans)) (times 8) t)
channels-last l level boundary (bad n k) = refl

-- LEVEL AND BOUNDARY
module _ (l : Layout) (s : List ℕ) where
  pub level_past : {k : PastEnd} → field_at s 0 9 ≡ Err k → Started l s (Err (fault.PastEnd 0))
  unfolding read_record
  level_past e = let t = number_cut s 0 9 (omega arith) e in record { is = rw t.is refl; within = t.within; holds = tt }

  module _ {v : ℕ} {q : Place} (e : field_at s 0 9 ≡ Ok (v, q)) where
    level_read : ValueAgrees s (number 9 (bits_of s)) 512 (Ok (v, q))
    level_read = number_read s 0 9 e

    pub boundary_past : {k : PastEnd} → field_at s q.at 7 ≡ Err k → Started l s (Err (fault.PastEnd q.at))
    unfolding read_record
    boundary_past i =
        let t = number_cut s q.at 7 level_read.within i in
        record { is = rw (level_read.is, t.is) refl; within = t.within; holds = tt }

    pub started : {b : ℕ} {p : Place} → field_at s q.at 7 ≡ Ok (b, p) → Started l s (Ok (record { level = v; boundary = b; next = p }))
    unfolding read_record
    started {b} {p} i =
        let t = number_read s q.at 7 i in
        record {
          is = rw (level_read.is, t.is) (channels-last l v b (each (read_channel l) (kinds_of l) (left_at s p.at)));
          within = t.within;
          holds = omega (arith, level_read.small);
        }

-- an answer of a known variant
module _ {l : Layout} {s : List ℕ} {rest : ℕ → ℕ → Reader Rec} {P : ℕ → ℕ → Type 0} {r : Opened} (t : HeadAgrees l s rest P r) where
  pub head_of : {o : Opened} → r ≡ o → HeadAgrees l s rest P o
  head_of e = subst (λ o. HeadAgrees l s rest P o) e t

  -- a refusal is the same whatever was to follow
  pub head-refused : {rest' : ℕ → ℕ → Reader Rec} {P' : ℕ → ℕ → Type 0} {f : Fault} → r ≡ Err f → HeadAgrees l s rest' P' (Err f)
  head-refused {rest'} {P'} e =
      let u = head_of e in
      record { is = u.is; within = u.within; holds = tt }
