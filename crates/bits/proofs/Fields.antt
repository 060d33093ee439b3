-- Fields that are read at a place, and prefix codes that are looked at.
-- Assumes nothing.
use mathlib.Core.Path.{◌≡◌, refl, sym, ap, ap₂, ◌∙◌}
use mathlib.Core.Bool.{Bool, true, false, cond}
use mathlib.Core.List.{List, ◌++◌}
use Prim.Native.Nat.{ℕ, ◌+◌, ◌-◌, ◌*◌, ◌/◌, ◌^◌, ◌≤◌, ◌<◌}
use native.Mathlib.Omega.{arith}
use Rattle.std.specs.Prelude.{Ok, Err}
use lib.Dec.{leb}
use lib.ListN.{length, take, drop, length-append, length-drop, length-replicate, take-append-drop}
use lib.Seq.{take-append-le, take_at, take-take, drop-drop, length-take-le}
use lib.Pow.{shr_lt}
use borrow.Author.Tests.{le-leb, lt-leb, leb-true, leb-false}
use Rattle.bits.specs.Bits.{bits, bits_of, value, zeros}
use Rattle.bits.specs.Place.{Found, left_at, field_at, look_at}
use Rattle.bits.specs.declared.Place.{Place}
use Rattle.bits.specs.declared.PastEnd.{PastEnd}
use Rattle.bits.proofs.Numbers.{length-bits, bits-value, bits-add, value-lt, value-back, length-bits_of}

pub length-left : (s : List ℕ) (p : ℕ) → length (left_at s p) ≡ 8 * length s - p
length-left s p = length-drop p (bits_of s) ∙ ap (λ n. n - p) (length-bits_of s)

module _ (s : List ℕ) (p n : ℕ) where
  -- a field that ends within s
  pub field_in : p + n ≤ 8 * length s → field_at s p n ≡ Ok (value (take n (drop p (bits_of s))), record { at = p + n })
  field_in h = rw (le-leb _ _ h)

  pub field_past : 8 * length s < p + n → field_at s p n ≡ Err (record { at = p })
  field_past h = rw (lt-leb _ _ h)

-- ---- what an answer says

-- a field that was read: its value has n bits, and those stand at its place
pub record Got (s : List ℕ) (p n v q : ℕ) : Type 0 where
  pub next : q ≡ p + n
  pub fits : q ≤ 8 * length s
  pub small : v < 2 ^ n
  pub stands : drop p (bits_of s) ≡ bits n v ++ drop q (bits_of s)

module _ (s : List ℕ) (p n : ℕ) where
  pub got : {v : ℕ} {q : Place} → field_at s p n ≡ Ok (v, q) → Got s p n v q.at
  got {v} {q} = go (leb (p + n) (8 * length s)) refl
    where
      go : (b : Bool) → leb (p + n) (8 * length s) ≡ b → cond {A = Found} b (Ok (value (take n (drop p (bits_of s))), record { at = p + n })) (Err (record { at = p })) ≡ Ok (v, q)
          → Got s p n v q.at
      go true t e =
          let h : p + n ≤ 8 * length s = leb-true _ _ t in
          let l : List Bool = take n (drop p (bits_of s)) in
          let hl : length l ≡ n = length-take-le n (drop p (bits_of s)) (rw (length-drop, length-bits_of) (omega arith)) in
          let both : ◌≡◌ {A = ℕ × Place} (value l, record { at = p + n }) (v, q) = cc in
          let ev : v ≡ value l = sym (ap (λ (x : ℕ × Place). x.0) both) in
          let eq : q.at ≡ p + n = sym (ap (λ (x : ℕ × Place). x.1.at) both) in
          record {
            next = eq;
            fits = rw eq h;
            small = rw ev (rw hl at (value-lt l));
            stands = rw (eq, ev) (sym (take-append-drop n (drop p (bits_of s)))
                ∙ ap₂ (λ (x y : List Bool). x ++ y) (sym (rw hl at (bits-value l))) (drop-drop n p (bits_of s)));
          }
      go false t e = absurd (let z : ◌≡◌ {A = ℕ} 0 1 = cc in omega arith)

  pub past : {b : PastEnd} → field_at s p n ≡ Err b → (b.at ≡ p) × (8 * length s < p + n)
  past {b} = go (leb (p + n) (8 * length s)) refl
    where
      go : (t : Bool) → leb (p + n) (8 * length s) ≡ t → cond {A = Found} t (Ok (value (take n (drop p (bits_of s))), record { at = p + n })) (Err (record { at = p })) ≡ Err b
          → (b.at ≡ p) × (8 * length s < p + n)
      go true t x = absurd (let z : ◌≡◌ {A = ℕ} 0 1 = cc in omega arith)
      go false t x = (cc, leb-false _ _ t)

-- ---- looking ahead

module _ (s : List ℕ) (p n : ℕ) where
  look_length : length (take n (drop p (bits_of s) ++ zeros n)) ≡ n
  look_length = length-take-le n (drop p (bits_of s) ++ zeros n) (rw (length-append, length-replicate) (omega arith))

  pub look_lt : look_at s p n < 2 ^ n
  look_lt = rw look_length at (value-lt (take n (drop p (bits_of s) ++ zeros n)))

  -- the bits that were looked at, zeros standing past the end
  pub look_bits : take n (drop p (bits_of s) ++ zeros n) ≡ bits n (look_at s p n)
  look_bits = sym (rw look_length at (bits-value (take n (drop p (bits_of s) ++ zeros n))))

  module _ (m : ℕ) (hm : m ≤ n) (h : p + m ≤ 8 * length s) where
    -- the first m bits are its high bits, where they end within s
    pub look_first : take m (drop p (bits_of s)) ≡ bits m (look_at s p n / 2 ^ (n - m))
    look_first =
        let X : List Bool = drop p (bits_of s) in
        let v : ℕ = look_at s p n in
        let hx : m ≤ length X = rw (length-drop, length-bits_of) (omega arith) in
        let e : m + (n - m) ≡ n = omega arith in
        sym (take-take m n (X ++ zeros n) hm ∙ take-append-le m X (zeros n) hx)
        ∙ ap (take m) (look_bits ∙ (rw e at (bits-add m (n - m) v)))
        ∙ take_at (bits m (v / 2 ^ (n - m))) (bits (n - m) v) m (length-bits m _)

    -- and so is the field of m bits
    pub look_field : field_at s p m ≡ Ok (look_at s p n / 2 ^ (n - m), record { at = p + m })
    look_field =
        let e : m + (n - m) ≡ n = omega arith in
        field_in s p m h ∙ rw (look_first, value-back m (look_at s p n / 2 ^ (n - m)) (shr_lt m (n - m) (rw e look_lt)))
