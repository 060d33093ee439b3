-- The three bytes at a place as one number: their bits, and a field read from them.
-- Assumes nothing.
use mathlib.Core.Path.{◌≡◌, sym, ap, ◌∙◌}
use mathlib.Core.Bool.{Bool}
use mathlib.Core.List.{List, [], ◌∷◌, ◌++◌}
use Prim.Native.Nat.{ℕ, zero, suc, ◌+◌, ◌-◌, ◌*◌, ◌/◌, ◌%◌, ◌^◌, ◌≤◌, ◌<◌}
use native.Mathlib.Nat.{suc-add, mul-add-mod_self_right}
use native.Mathlib.Omega.{arith}
use lib.ListN.{length, take, drop}
use lib.Seq.{take_at, drop_at, take-take, drop-drop, drop-nil, drop-append-add}
use lib.Pow.{high}
use Rattle.bits.specs.Bits.{bits, bits_of, value, zeros, Bytes, word_at}
use Rattle.bits.specs.Place.{look_at}
use Rattle.bits.proofs.Numbers.{length-bits, bits-low, bits-add, value_bits_lem}
use Rattle.bits.proofs.Parts.{part_cut, fill_part}

-- what stands above k bits is not seen
bits_above : (k a r : ℕ) → bits k (a * 2 ^ k + r) ≡ bits k r
bits_above k a r = sym (bits-low k (a * 2 ^ k + r)) ∙ rw (mul-add-mod_self_right, bits-low k r)

-- n bits that stand r from the low end, of a number of x + (n + r) bits
bits-part : (x n r w : ℕ) → take n (drop x (bits (x + (n + r)) w)) ≡ bits n (w / 2 ^ r)
bits-part x n r w =
    rw (bits-add x (n + r) w, drop_at (bits x (w / 2 ^ (n + r))) (bits (n + r) w) x (length-bits x _), bits-add n r w)
    (take_at (bits n (w / 2 ^ r)) (bits r w) n (length-bits n _))

-- ---- a number of 24 bits and its three bytes

word_join : (a b c : ℕ) → b < 2 ^ 8 → c < 2 ^ 8 → bits 24 (a * 2 ^ 16 + (b * 2 ^ 8 + c)) ≡ bits 8 a ++ (bits 8 b ++ bits 8 c)
word_join a b c hb hc =
    let h16 : b * 2 ^ 8 + c < 2 ^ 16 = omega arith in
    rw (
      bits-add 8 16 (a * 2 ^ 16 + (b * 2 ^ 8 + c)),
      high a 16 h16,
      bits_above 16 a (b * 2 ^ 8 + c),
      bits-add 8 8 (b * 2 ^ 8 + c),
      high b 8 hc,
      bits_above 8 b
          c,
    )

word_suc : (b : ℕ) (s : List ℕ) (i : ℕ) → word_at (b ∷ s) (suc i) ≡ word_at s i
unfolding word_at
word_suc b s i = rw (suc-add i 1, suc-add i 2)

-- ---- reading

-- the bits of a window, zeros standing past the end
word_bits_lem : (s : List ℕ) (i : ℕ) → Bytes s → bits 24 (word_at s i) ≡ take 24 (drop (8 * i) (bits_of s) ++ zeros 24)
unfolding bits bits_of word_at
word_bits_lem [] i hb = rw (drop-nil (8 * i))
word_bits_lem (a ∷ []) zero hb = word_join a 0 0 (omega arith) (omega arith)
word_bits_lem (a ∷ b ∷ []) zero hb = word_join a b 0 hb.1.0 (omega arith)
word_bits_lem (a ∷ b ∷ c ∷ s) zero hb = word_join a b c hb.1.0 hb.1.1.0
word_bits_lem (a ∷ s) (suc i) hb =
    let e : 8 * suc i ≡ length (bits 8 a) + 8 * i = rw length-bits (omega arith) in
    rw (word_suc a s i, e, drop-append-add (bits 8 a) (bits_of s) (8 * i)) (word_bits_lem s i hb.1)

-- the bits from a place on, as its window has them: the place's byte is p / 8, and p % 8 bits of that byte stand before it
pub look_at_lem : (s : List ℕ) (p n : ℕ) → Bytes s → p % 8 + n ≤ 24 → word_at s (p / 8) / 2 ^ (24 - p % 8 - n) % 2 ^ n ≡ look_at s p n
look_at_lem s p n hb h =
    let off : ℕ = p % 8 in
    let w : ℕ = word_at s (p / 8) in
    let l : List Bool = drop (8 * (p / 8)) (bits_of s) in
    let sum : off + (n + (24 - off - n)) ≡ 24 = omega arith in
    let place : 8 * (p / 8) + off ≡ p = omega arith in
    let from : drop off l ≡ drop p (bits_of s) = rw place at (drop-drop off (8 * (p / 8)) (bits_of s)) in
    let cut : drop off (take 24 (l ++ zeros 24)) ≡ take (24 - off) (drop off (l ++ zeros 24)) = sym (part_cut off 24 (l ++ zeros 24)) in
    sym (value_bits_lem n _)
    ∙ ap value
    (sym (rw sum at (bits-part off n (24 - off - n) w))
    ∙ ap (λ (t : List Bool). take n (drop off t)) (word_bits_lem s (p / 8) hb)
    ∙ ap (take n) cut
    ∙ take-take n (24 - off) (drop off (l ++ zeros 24)) (omega arith)
    ∙ fill_part l off n 24 (omega arith)
    ∙ ap (λ (t : List Bool). take n (t ++ zeros n)) from)
