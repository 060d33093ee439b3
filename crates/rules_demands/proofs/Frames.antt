-- A record's fields are read back, and the scan takes just the payloads of legal records. Assumes nothing.
use mathlib.Core.Path.{◌≡◌, refl, sym, ◌∙◌, ap, subst}
use mathlib.Core.List.{List, [], ◌∷◌, ◌++◌}
use mathlib.Core.Bool.{Bool, true, false}
use mathlib.Core.Option.{Option, none, some}
use Prim.Native.Nat.{ℕ, zero, suc, ◌+◌, ◌-◌, ◌≤◌}
use native.Mathlib.Omega.{arith}
use lib.ListN.{length, length-append, length-replicate}
use lib.Dec.{eqb, eqb→eq}
use Rattle.bits.specs.Bits.{bits, zeros}
use Rattle.rules.specs.Format.{Read, ok, bad, Reader, each, each_bits, Each, stay, times, Lawful}
use Rattle.rules.specs.Layout.{kinds_of, coded_count, side_count, side_width}
use Rattle.rules.specs.Record.{Rec, LegalChan, Legal, resolutions}
use Rattle.rules.specs.Fields.{channel_fields, code_bits, fields}
use Rattle.rules.specs.Frame.{field_end, filled_fields}
use Rattle.rules.specs.Reading.{read_channel, read_record, read_fields, first_one, accepted, after_fill, after_fields, scan}
use Rattle.rules.specs.declared.ChannelType.{ChannelType}
use Rattle.rules.specs.declared.Layout.{Layout}
use Rattle.rules_formats.proofs.Formats.{iff_fits, here-fits, bind_fits, check-fits, map-fits, pair_fits, walk-fits}
use Rattle.rules_formats.proofs.Numbers.{number_fits}
use Rattle.rules_formats.proofs.Codes.{code_fits}
use Rattle.rules_demands.proofs.Factors.{width_fits}

pub each_fits : {X A : Type 0} {L : X → A → Type 0} {w : X → A → List Bool} {f : X → Reader A} → ((x : X) → Lawful (L x) (w x) (f x))
    → (xs : List X) → Lawful (Each L xs) (each_bits w xs) (each f xs)
each_fits F xs = walk-fits stay (λ _. F) tt xs

pub channel_fits : (l : Layout) (k : ChannelType) → Lawful (LegalChan l k) (channel_fields l k) (read_channel l k)
channel_fits l k =
    iff_fits (λ c. ((λ h. record { factors = h.0; side = h.1 }), (λ h. (h.factors, h.side))))
    (map-fits (λ c. (c.factors, c.side)) (λ x. record { factors = x.0; side = x.1 }) (λ x. refl) (λ c. refl)
    (pair_fits (width_fits (coded_count l k)) (λ fs _. each_fits (λ _. number_fits (side_width k)) (times (side_count l k)))))

-- what follows the sync
unfoldable pub record_fields : Layout → Rec → List Bool
record_fields l r =
    bits 9 r.level ++ (bits 7 r.boundary ++ (each_bits (channel_fields l) (kinds_of l) r.chans
    ++ each_bits (λ _. each_bits (each_bits code_bits) (resolutions l r.level r.boundary r.chans)) (times 8) r.codes))

pub fields_are : (l : Layout) (r : Rec) → fields l r ≡ bits 16 0xFFFF ++ record_fields l r
unfolding fields record_fields
fields_are l r = refl

pub record_fits : (l : Layout) → Lawful (Legal l) (record_fields l) (read_record l)
unfolding record_fields read_record
record_fits l =
    iff_fits (λ r. (
      (λ h. record { head = record { levels = omega arith; boundaries = omega arith }; chans = h.1.1.0; codes = h.1.1.1 }),
      (λ h. (omega (arith, h.head.levels), (omega (arith, h.head.boundaries), (h.chans, h.codes)))),
    ))
    (map-fits (λ r. (r.level, (r.boundary, (r.chans, r.codes))))
    (λ x. record { level = x.0; boundary = x.1.0; chans = x.1.1.0; codes = x.1.1.1 }) (λ x. refl) (λ r. refl)
    (pair_fits (number_fits 9) (λ level _. pair_fits (number_fits 7) (λ boundary _. pair_fits (each_fits (channel_fits l) (kinds_of l)) (λ chans _.
    each_fits (λ _. each_fits (each_fits code_fits) (resolutions l level boundary chans)) (times 8))))))

pub fields-fits : (l : Layout) → Lawful (Legal l) (fields l) (read_fields l)
unfolding fields record_fields read_fields
fields-fits l =
    iff_fits (λ r. ((λ h. h.1), (λ h. ((omega arith, tt), h))))
    (bind_fits (λ _. 0xFFFF) (here-fits (λ z. check-fits 9 z (λ v. eqb v 0xFFFF) (number_fits 16)))
    (λ b m. iff_fits (λ r. ((λ h. (sym (eqb→eq b 0xFFFF m.1), h)), (λ h. h.1))) (record_fits l)))

-- THE FILL
pub fill_zero : (n : ℕ) → first_one (zeros n) ≡ none
fill_zero zero = refl
fill_zero (suc n) = fill_zero n

pub fill_is : (s : List Bool) → first_one s ≡ none → s ≡ zeros (length s)
fill_is [] e = refl
fill_is (true ∷ s) e = cc
fill_is (false ∷ s) e = ap (λ t. false ∷ t) (fill_is s e)

-- a record whose payload this is: legal, its fields fit, and they end at bit n
pub record FramedBits (l : Layout) (r : Rec) (n : ℕ) (s : List Bool) : Type 0 where
  pub legal : Legal l r
  pub fits : length (fields l r) ≤ field_end l
  pub ends : n ≡ length (fields l r)
  pub are : s ≡ filled_fields l r

module _ (l : Layout) where
  pub payload_length : (r : Rec) → length (fields l r) ≤ field_end l → length (filled_fields l r) ≡ field_end l
  unfolding filled_fields
  payload_length r f = simp (length-append, length-replicate) (omega arith)

  pub complete : (r : Rec) → Legal l r → length (fields l r) ≤ field_end l → scan l (filled_fields l r) ≡ accepted r (length (fields l r))
  unfolding scan filled_fields
  complete r h f =
      let k = field_end l - length (fields l r) in
      rw ((fields-fits l).there r (zeros k) h, fill_zero k, length-append, length-replicate)
      (ap (accepted r) (omega arith))

  pub sound : (s : List Bool) (r : Rec) (n : ℕ) → length s ≡ field_end l → scan l s ≡ accepted r n → FramedBits l r n s
  unfolding scan filled_fields
  sound s r n z e = go (read_fields l s) refl e
    where
      done : (r' : Rec) (t : List Bool) → read_fields l s ≡ ok r' t → (o : Option ℕ) → first_one t ≡ o → after_fill (length s) r' (length t) o ≡ accepted r n
          → FramedBits l r n s
      done r' t q (some k) p a = let y : ◌≡◌ {A = ℕ} 0 1 = cc in absurd (omega arith)
      done r' t q none p a =
          let (h, b) = (fields-fits l).back s r' t q in
          let x : r' ≡ r = cc in
          let c : length s ≡ length (fields l r') + length t = ap length b ∙ length-append (fields l r') t in
          let m : length s - length t ≡ n = cc in
          let d : field_end l - length (fields l r') ≡ length t = omega arith in
          subst (λ r. FramedBits l r n s) x (record { legal = h; fits = omega arith; ends = omega arith; are = rw (d, ← fill_is t p) b })

      go : (x : Read Rec) → read_fields l s ≡ x → after_fields (length s) x ≡ accepted r n → FramedBits l r n s
      go (ok r' t) q a = done r' t q (first_one t) refl a
      go (bad k left) q a = let y : ◌≡◌ {A = ℕ} 0 1 = cc in absurd (omega arith)
