-- What the answers of a look and of a field read say of a reader at a place. Assumes nothing.
use mathlib.Core.Path.{◌≡◌, refl, sym, ◌∙◌, ap, subst}
use mathlib.Core.List.{List}
use mathlib.Core.Bool.{Bool, true, false}
use Prim.Native.Nat.{ℕ, zero, suc, ◌+◌, ◌*◌, ◌^◌, ◌≤◌, ◌<◌}
use native.Mathlib.Nat.{lt_of_lt_of_le}
use native.Mathlib.Omega.{arith}
use borrow.Author.Tests.{le-leb, lt-leb, eq-eqb, ne_eqb, lt-ltb, le-ltb}
use lib.Dec.{leb}
use lib.IntN.{ℤ, pos}
use lib.ListN.{length}
use Rattle.std.specs.Prelude.{Ok, Err}
use lib.Pow.{pow_mono}
use lib.Seq.{drop-drop}
use Rattle.bits.specs.Bits.{bits_of}
use Rattle.bits.specs.Place.{left_at, field_at, look_at}
use Rattle.bits.specs.declared.Place.{Place}
use Rattle.bits.specs.declared.PastEnd.{PastEnd}
use Rattle.bits.proofs.Fields.{length-left, got, past}
use Rattle.rules.specs.Format.{Read, ok, bad, number, one_of, and_then}
use Rattle.rules.specs.Code.{magnitude_bits}
use Rattle.rules.specs.Fields.{small_bits}
use Rattle.rules.specs.Reading.{codes_to, signed, read_code}
use Rattle.rules_formats.proofs.Numbers.{number_got, number_past}
use Rattle.reader_codes.specs.Seen.{word_bits, code_seen, length_seen}
use Rattle.reader_codes.specs.Signs.{signed_of}
use Rattle.reader_codes.specs.CodeAgrees.{Code, signed_code, CodeAgrees}
use Rattle.reader_codes.proofs.Ahead.{look_ahead}

-- ---- a look

module _ (part : List ℕ) (p r v : ℕ) (h : r < 8) (e : v ≡ look_at part p (word_bits r)) (l : p ≤ 8 * length part) where
  word_in : p + length_seen r v ≤ 8 * length part →
      one_of (small_bits r) (codes_to r) (left_at part p) ≡ ok (code_seen r v) (left_at part (p + length_seen r v))
  word_in k =
      let z : leb (length_seen r v) (length (left_at part p)) ≡ true = le-leb (length_seen r v) (length (left_at part p)) (omega (arith, length-left part p)) in
      look_ahead r h (left_at part p) v e ∙ rw (z, drop-drop (length_seen r v) p (bits_of part))

  word_past : 8 * length part < p + length_seen r v → one_of (small_bits r) (codes_to r) (left_at part p) ≡ bad 13 (length (left_at part p))
  word_past k =
      let z : leb (length_seen r v) (length (left_at part p)) ≡ false = lt-leb (length_seen r v) (length (left_at part p)) (omega (arith, length-left part p)) in
      look_ahead r h (left_at part p) v e ∙ rw z

-- ---- a code that was cut, at the place where it begins

cut_at : {part : List ℕ} {p : ℕ} {x : Read ℤ} {cut : PastEnd} → cut.at ≡ p → x ≡ bad 13 (length (left_at part p)) → CodeAgrees part p x (Err cut)
cut_at {part} e z = record { is = z ∙ ap (λ i. bad 13 (length (left_at part i))) (sym e); ends = e }

-- ---- a small code, by the n bits of its field

module _ (part : List ℕ) (p r k v n : ℕ) (h : r < 8) (bits : k ≡ word_bits r) (seen : v ≡ look_at part p k) (l : p ≤ 8 * length part)
    (long : n ≡ length_seen r v) where
  looked : v ≡ look_at part p (word_bits r)
  looked = seen ∙ ap (look_at part p) bits

  pub word_cut : {cut : PastEnd} → field_at part p n ≡ Err cut → CodeAgrees part p (one_of (small_bits r) (codes_to r) (left_at part p)) (Err cut)
  word_cut e = let t = past part p n e in cut_at t.0 (word_past part p r v h looked l (omega (arith, t.1, long)))

  pub word_read : {u : ℕ} {q : Place} → field_at part p n ≡ Ok (u, q)
      → CodeAgrees part p (one_of (small_bits r) (codes_to r) (left_at part p)) (Ok (code_seen r v, q))
  word_read {q} e =
      let t = got part p n e in
      let to : q.at ≡ p + length_seen r v = t.next ∙ ap (λ i. p + i) long in
      record {
        is = word_in part p r v h looked l (omega (arith, to, t.fits)) ∙ ap (λ i. ok (code_seen r v) (left_at part i)) (sym to);
        ends = t.fits;
      }

-- ---- a field of few bits is small

pub field_small : (part : List ℕ) (p n : ℕ) {v : ℕ} {q : Place} (m : ℕ) → n ≤ m → field_at part p n ≡ Ok (v, q) → v < 2 ^ m
field_small part p n m h e = lt_of_lt_of_le (got part p n e).small (pow_mono h)

-- ---- a magnitude and its sign

signed_is : (v : ℕ) (t : List Bool) → (v ≡ 0 → ⊥) → signed v t ≡ and_then (number 1 t) (λ b u. ok (signed_of b v) u)
signed_is zero t h = absurd (h refl)
signed_is (suc n) t h = refl

module _ (r : ℕ) (s : List Bool) where
  pub signed_cut : {k : ℕ} → number (magnitude_bits r) s ≡ bad 13 k → signed_code r s ≡ bad 13 (length s)
  signed_cut e = rw e refl

  module _ (v : ℕ) (t : List Bool) (e : number (magnitude_bits r) s ≡ ok v t) where
    pub signed-none : v ≡ 0 → signed_code r s ≡ ok (pos 0) t
    signed-none z = rw (e, z) refl

    pub signed-past : {k : ℕ} → (v ≡ 0 → ⊥) → number 1 t ≡ bad 13 k → signed_code r s ≡ bad 13 (length s)
    signed-past z q = rw (e, signed_is v t z, q) refl

    pub signed_in : (b : ℕ) (u : List Bool) → (v ≡ 0 → ⊥) → number 1 t ≡ ok b u → signed_code r s ≡ ok (signed_of b v) u
    signed_in b u z q = rw (e, signed_is v t z, q) refl

-- .. by its fields: the magnitude's n bits, and then the sign

module _ (part : List ℕ) (p r n : ℕ) (bits : n ≡ magnitude_bits r) (l : p ≤ 8 * length part) where
  pub magnitude_cut : {cut : PastEnd} → field_at part p n ≡ Err cut → CodeAgrees part p (signed_code r (left_at part p)) (Err cut)
  magnitude_cut e =
      cut_at (past part p n e).0 (signed_cut r (left_at part p) (subst (λ m. number m (left_at part p) ≡ bad 13 (length (left_at part p))) bits (number_past part p n l e)))

  module _ {v : ℕ} {q : Place} (e : field_at part p n ≡ Ok (v, q)) where
    magnitude : number (magnitude_bits r) (left_at part p) ≡ ok v (left_at part q.at)
    magnitude = subst (λ m. number m (left_at part p) ≡ ok v (left_at part q.at)) bits (number_got part p n e)

    pub sign_none : v ≡ 0 → CodeAgrees part p (signed_code r (left_at part p)) (Ok (pos 0, q))
    sign_none z = record { is = signed-none r (left_at part p) v _ magnitude z; ends = (got part p n e).fits }

    pub sign_cut : (v ≡ 0 → ⊥) → {cut : PastEnd} → field_at part q.at 1 ≡ Err cut → CodeAgrees part p (signed_code r (left_at part p)) (Err (record { at = p }))
    sign_cut z i = cut_at refl (signed-past r (left_at part p) v _ magnitude z (number_past part q.at 1 (got part p n e).fits i))

    pub sign_read : (v ≡ 0 → ⊥) → {b : ℕ} {o : Place} → field_at part q.at 1 ≡ Ok (b, o)
        → CodeAgrees part p (signed_code r (left_at part p)) (Ok (signed_of b v, o))
    sign_read z i = record {
      is = signed_in r (left_at part p) v _ magnitude _ _ z (number_got part q.at 1 i);
      ends = (got part q.at 1 i).fits;
    }

-- ---- a code, by its resolution

module _ (part : List ℕ) (r : ℕ) where
  pub code_none : (q : Place) → r ≡ 0 → q.at ≤ 8 * length part → CodeAgrees part q.at (read_code r (left_at part q.at)) (Ok (pos 0, q))
  unfolding read_code
  code_none q e l = record { is = rw (eq-eqb r 0 e); ends = l }

  pub code_small : (p : ℕ) {c : Code} → 1 ≤ r → r < 8 → CodeAgrees part p (one_of (small_bits r) (codes_to r) (left_at part p)) c
      → CodeAgrees part p (read_code r (left_at part p)) c
  unfolding read_code
  code_small p h k t = rw (ne_eqb r 0 (λ e. omega arith), lt-ltb r 8 k) t

  pub code_large : (p : ℕ) {c : Code} → 8 ≤ r → CodeAgrees part p (signed_code r (left_at part p)) c → CodeAgrees part p (read_code r (left_at part p)) c
  unfolding read_code
  code_large p h t = rw (ne_eqb r 0 (λ e. omega arith), le-ltb r 8 h) t
