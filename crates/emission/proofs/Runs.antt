-- Runs of fields: the laws by which callers put their fields together, and what stands in the frame at the end.
-- Assumes nothing.
use mathlib.Core.Path.{◌≡◌, refl, sym, ap, ap₂, ◌∙◌}
use mathlib.Core.List.{List, [], ◌∷◌, ◌++◌, append_assoc, append-nil}
use mathlib.Core.Bool.{Bool, true, false}
use mathlib.Core.Logic.{◌⊎◌, inl, inr}
use Prim.Native.Nat.{ℕ, suc, ◌+◌, ◌-◌, ◌*◌, ◌/◌, ◌%◌, ◌^◌, ◌≤◌, ◌<◌}
use native.Mathlib.Nat.{add_assoc}
use native.Mathlib.Omega.{arith}
use borrow.Author.Tests.{ltb-true, ltb-false}
use lib.Dec.{ltb}
use lib.ListN.{length, get_or, take, drop, length-append, length-drop, drop_of_length-le}
use lib.Seq.{take-append-le, take-append-add, drop-append-le, drop-drop, drop_at, take-add, take_at}
use Rattle.bits.specs.Bits.{bits, bits_of, zeros}
use Rattle.bits.specs.Place.{Written}
use Rattle.bits.proofs.Numbers.{length-bits, bits-low, bits-add}
use Rattle.bits.proofs.Parts.{part_left, fill_take, fill_part, take_copies}
use Rattle.emission.specs.Run.{byte_bits, Emitted, Emits, Stored, Waits, Flushes, Closes}
use Rattle.emission.specs.declared.Run.{Run}

sides : (a b : ℕ) → (a < b) ⊎ (b ≤ a)
sides a b = cases (ltb a b) refl
  where
    cases : (t : Bool) → ltb a b ≡ t → (a < b) ⊎ (b ≤ a)
    cases true e = inl (ltb-true a b e)
    cases false e = inr (ltb-false a b e)

-- ---- runs

-- nothing yet, whatever stands in the frame
pub emitted_none : (s : List ℕ) (acc : ℕ) → Emitted [] (record { bits = acc; n = 0; at = 0 }) s
unfolding bits
emitted_none s acc = record { place = refl; few = omega arith; waiting = refl; stands = λ k h g. absurd (omega arith) }

pub emits_none : (run : Run) (s : List ℕ) → run.n ≤ 7 → Emits run s [] run s
emits_none run s h = record { next = omega arith; few = h; same = refl; runs = λ w e. rw append-nil e }

-- one after another
pub emits_then : {r : Run} {s : List ℕ} {f : List Bool} {r' : Run} {s' : List ℕ} {g : List Bool} {r'' : Run} {s'' : List ℕ}
    → Emits r s f r' s' → Emits r' s' g r'' s'' → Emits r s (f ++ g) r'' s''
emits_then {f = f} a b = record {
  next = b.next ∙ rw (a.next, length-append, add_assoc);
  few = b.few;
  same = b.same ∙ a.same;
  runs = λ w e. rw append_assoc at (b.runs (w ++ f) (a.runs w e));
}

-- ---- a field

-- a whole byte of w stays as it is, whatever follows
byte_kept : (w f : List Bool) (k : ℕ) → 8 * k + 8 ≤ length w → byte_bits (w ++ f) k ≡ byte_bits w k
byte_kept w f k h =
    let a : 8 ≤ length (drop (8 * k) w) = rw length-drop (omega arith) in
    let b : 8 ≤ length (drop (8 * k) (w ++ f)) = rw (length-drop, length-append) (omega arith) in
    take-append-le 8 (drop (8 * k) (w ++ f)) (zeros 8) b ∙ part_left w f (8 * k) 8 h ∙ sym (take-append-le 8 (drop (8 * k) w) (zeros 8) a)

pub field_waits : {w : List Bool} {run : Run} {s : List ℕ} → Emitted w run s → (m v acc : ℕ)
    → bits (run.n + m) acc ≡ bits run.n run.bits ++ bits m v → Waits (w ++ bits m v) (record { bits = acc; n = run.n + m; at = run.at }) s
field_waits {w} {run} {s} e m v acc q =
    let le : 8 * run.at ≤ length w = omega (arith, e.place) in record {
      place = rw (length-append, length-bits, e.place) (omega arith);
      waiting = q ∙ rw e.waiting (sym (drop-append-le (8 * run.at) w (bits m v) le));
      stands = λ k h g. e.stands k h (omega (arith, e.place)) ∙ sym (byte_kept w (bits m v) k (omega (arith, e.place)));
    }

-- ---- a flush

-- n bits that stand r from the low end, of a number of x + (n + r) bits
bits-part : (x n r w : ℕ) → take n (drop x (bits (x + (n + r)) w)) ≡ bits n (w / 2 ^ r)
bits-part x n r w =
    rw (bits-add x (n + r) w, drop_at (bits x (w / 2 ^ (n + r))) (bits (n + r) w) x (length-bits x _), bits-add n r w)
    (take_at (bits n (w / 2 ^ r)) (bits r w) n (length-bits n _))

module _ {run : Run} {s s' : List ℕ} {top : ℕ} (h : run.n ≤ 56) (d : Stored 8 s run.at top s')
    (t : bits 64 top ≡ bits run.n run.bits ++ zeros (64 - run.n)) where
  -- byte j of the eight holds the bits that wait there
  byte_waits : (w : List Bool) → Waits w run s → (j : ℕ) → run.at + j < length s → 8 * j < run.n → bits 8 (get_or s' (run.at + j) 0) ≡ byte_bits w (run.at + j)
  byte_waits w x j l g =
      let n : ℕ = run.n in
      let e64 : 8 * j + (8 + (56 - 8 * j)) ≡ 64 = omega arith in
      let part : take 8 (drop (8 * j) (bits 64 top)) ≡ bits 8 (top / 2 ^ (56 - 8 * j)) = rw e64 at (bits-part (8 * j) 8 (56 - 8 * j) top) in
      let inside : 8 * j ≤ length (bits n run.bits) = rw length-bits (omega arith) in
      let place : 8 * run.at + 8 * j ≡ 8 * (run.at + j) = omega arith in
      let rest : drop (8 * j) (bits n run.bits) ≡ drop (8 * (run.at + j)) w = rw x.waiting (drop-drop (8 * j) (8 * run.at) w ∙ rw place) in
      ap (bits 8) (d.bytes j (omega arith) l)
      ∙ bits-low 8 (top / 2 ^ (56 - 8 * j))
      ∙ sym part
      ∙ rw (
        t,
        drop-append-le (8 * j) (bits n run.bits) (zeros (64 - n)) inside,
        fill_take (drop (8 * j) (bits n run.bits)) 8 (64 - n) (omega arith),
        rest,
      )

  pub flushed : Flushes run s (record { bits = run.bits; n = run.n % 8; at = run.at + run.n / 8 }) s'
  flushed = record {
    next = omega arith;
    few = omega arith;
    same = d.same;
    runs = λ w x. record {
      place = x.place ∙ omega arith;
      few = omega arith;
      waiting = waits w x;
      stands = λ k l g. stands w x k l g (sides k run.at);
    };
  }
    where
      waits : (w : List Bool) → Waits w run s → bits (run.n % 8) run.bits ≡ drop (8 * (run.at + run.n / 8)) w
      waits w x =
          let n : ℕ = run.n in
          let e : 8 * (n / 8) + n % 8 ≡ n = omega arith in
          let place : 8 * run.at + 8 * (n / 8) ≡ 8 * (run.at + n / 8) = omega arith in
          let all : bits n run.bits ≡ bits (8 * (n / 8)) (run.bits / 2 ^ (n % 8))
          ++ bits (n % 8) run.bits = rw e at (bits-add (8 * (n / 8)) (n % 8) run.bits) in
          sym (drop_at (bits (8 * (n / 8)) (run.bits / 2 ^ (n % 8))) (bits (n % 8) run.bits) (8 * (n / 8)) (length-bits _ _))
          ∙ ap (drop (8 * (n / 8))) (sym all ∙ x.waiting)
          ∙ drop-drop (8 * (n / 8)) (8 * run.at) w
          ∙ rw place

      stands : (w : List Bool) → Waits w run s → (k : ℕ) → k < length s' → 8 * k < length w → (k < run.at) ⊎ (run.at ≤ k) → bits 8 (get_or s' k 0)
          ≡ byte_bits w k
      stands w x k l g (inl b) = ap (bits 8) (d.before k b) ∙ x.stands k (omega (arith, d.same)) b
      stands w x k l g (inr b) =
          let e : run.at + (k - run.at) ≡ k = omega arith in
          rw e at (byte_waits w x (k - run.at) (omega (arith, d.same)) (omega (arith, x.place)))

-- ---- the end

-- bytes that hold w, and zeros after it
filled : (s : List ℕ) (w : List Bool) → ((k : ℕ) → k < length s → bits 8 (get_or s k 0) ≡ byte_bits w k) → bits_of s
    ≡ take (8 * length s) (w ++ zeros (8 * length s))
unfolding bits_of
filled [] w h = refl
filled (b ∷ s) w h =
    let m : ℕ = 8 * length s in
    let e : 8 * suc (length s) ≡ 8 + m = omega arith in
    let first : bits 8 b ≡ take 8 (w ++ zeros (8 + m)) = h 0 (omega arith) ∙ sym (fill_take w 8 (8 + m) (omega arith)) in
    let rest : bits_of s ≡ take m (drop 8 (w ++ zeros (8 + m))) =
    filled s (drop 8 w) (λ k g. later k g) ∙ sym (fill_part w 8 m (8 + m) (omega arith)) in
    rw e (ap₂ ◌++◌ first rest ∙ sym (take-add 8 m (w ++ zeros (8 + m))))
  where
    later : (k : ℕ) → k < length s → bits 8 (get_or s k 0) ≡ byte_bits (drop 8 w) k
    later k g =
        let e : 8 + 8 * k ≡ 8 * suc k = omega arith in
        let same : drop (8 * suc k) w ≡ drop (8 * k) (drop 8 w) = sym (drop-drop (8 * k) 8 w ∙ ap (λ i. drop i w) e) in
        h (suc k) (omega arith) ∙ ap (λ l. take 8 (l ++ zeros 8)) same

eight_none : bits 8 0 ≡ zeros 8
unfolding bits
eight_none = refl

pub closed : {run : Run} {s s' : List ℕ} → length s' ≡ length s → ((k : ℕ) → 8 * k < 8 * run.at + run.n → get_or s' k 0 ≡ get_or s k 0)
    → ((k : ℕ) → k < length s → 8 * run.at + run.n ≤ 8 * k → get_or s' k 0 ≡ 0) → Closes run s (8 * run.at + run.n) s'
closed {run} {s} {s'} l before after = record {
  total = refl;
  same = l;
  holds =
      λ w x. filled s' w (λ k g. byte w x k g (sides (8 * k) (8 * run.at + run.n)));
}
  where
    byte : (w : List Bool) → Emitted w run s → (k : ℕ) → k < length s' → (8 * k < 8 * run.at + run.n) ⊎ (8 * run.at + run.n ≤ 8 * k) → bits 8 (get_or s' k 0)
        ≡ byte_bits w k
    byte w x k g (inl h) = ap (bits 8) (before k h) ∙ x.stands k (omega arith) (omega (arith, x.place))
    byte w x k g (inr h) =
        let short : length w ≤ 8 * k = omega (arith, x.place) in
        let none : drop (8 * k) w ≡ [] = drop_of_length-le w short in
        ap (bits 8) (after k (omega arith) h) ∙ rw none eight_none

-- what a caller of `close` has: as of a frame that was cleared first and then written field by field
module _ {run : Run} {s : List ℕ} {count : ℕ} {s' : List ℕ} {w : List Bool} (x : Emitted w run s) (d : Closes run s count s') where
  pub closed_count : count ≡ length w
  closed_count = d.total ∙ sym x.place

  pub closed_written : Written s' count w
  closed_written = record {
    place = closed_count;
    held = λ h.
        let m : ℕ = 8 * length s' in
        let e : length w + (m - length w) ≡ m = omega arith in
        d.holds w x ∙ ap (λ k. take k (w ++ zeros m)) (sym e) ∙ take-append-add w (zeros m) (m - length w)
        ∙ ap (λ l. w ++ l) (take_copies false (m - length w) m (omega arith));
  }
