-- A number from its bytes, the low byte first, as a loop from the high byte down meets them. Assumes nothing.
use mathlib.Core.Path.{◌≡◌, sym, ap, ◌∙◌}
use mathlib.Core.List.{List}
use Prim.Native.Nat.{ℕ, suc, ◌+◌, ◌-◌, ◌*◌, ◌^◌, ◌≤◌, ◌<◌}
use native.Mathlib.Nat.{zero-lt-suc, pow-suc, pow-le-pow_right, lt_of_lt_of_le}
use native.Mathlib.Omega.{arith}
use lib.Arith.{digits_lt}
use lib.ListN.{length, get_or, take, drop, length-drop, drop_of_length-le}
use lib.Seq.{drop-cons, get_or-take, get_or-drop, length-take-le}
use Rattle.numbers.specs.Numbers.{of_low}

-- none met, and one more in front of those that were met
low-none : (s : List ℕ) (i : ℕ) → length s ≤ i → 0 ≡ of_low (drop i s)
unfolding of_low
low-none s i h = rw (drop_of_length-le s h)

low_more : (s : List ℕ) (i n b : ℕ) → i < length s → n ≡ of_low (drop (suc i) s) → b ≡ get_or s i 0 → n * 256 + b ≡ of_low (drop i s)
unfolding of_low
low_more s i n b h e q = rw (drop-cons s i 0 h, e, q) (omega arith)

-- a number of fewer bytes has room for one more
low_below : (left width n b : ℕ) → 0 < left → left ≤ width → n < 256 ^ (width - left) → b < 256 → n * 256 + b < 256 ^ (width - (left - 1))
low_below left w n b h l q g =
    let e : w - (left - 1) ≡ suc (w - left) = omega arith in
    rw (e, pow-suc 256 (w - left)) (digits_lt q g)

low-few : (k : ℕ) → k ≤ 4 → 256 ^ k ≤ 256 ^ 4
low-few k h = pow-le-pow_right (zero-lt-suc 255) h

-- what the loop keeps: the bytes from `left` on are met
abbrev pub Met : (bytes : List ℕ) (start width number left : ℕ) → Type 0
Met bytes at width n left = (left ≤ width) × (n ≡ of_low (drop left (take width (drop at bytes)))) × (n < 256 ^ (width - left))

module _ (bytes : List ℕ) (at width : ℕ) (inside : at + width ≤ length bytes) where
  part_length : length (take width (drop at bytes)) ≡ width
  part_length = let g : width ≤ length (drop at bytes) = simp length-drop (omega arith) in length-take-le width (drop at bytes) g

  pub met_none : Met bytes at width 0 width
  met_none =
      let z : width - width ≡ 0 = omega arith in
      (omega arith, low-none (take width (drop at bytes)) width (omega (arith, part_length)), rw z (omega arith))

  pub met_more : (n left b : ℕ) → 0 < left → Met bytes at width n left → b ≡ get_or bytes (at + (left - 1)) 0 → b < 256
      → Met bytes at width (n * 256 + b) (left - 1)
  met_more n left b h m e g =
      let s : List ℕ = take width (drop at bytes) in
      let z : suc (left - 1) ≡ left = omega arith in
      let byte : get_or s (left - 1) 0 ≡ get_or bytes (at + (left - 1)) 0 = get_or-take width (drop at bytes) (left - 1) 0 (omega arith)
      ∙ get_or-drop at bytes (left - 1) 0 in (
        omega arith,
        low_more s (left - 1) n b (omega (arith, part_length)) (m.1 ∙ ap (λ (i : ℕ). of_low (drop i s)) (sym z)) (e ∙ sym byte),
        low_below left width n b h m.0 m.2 g,
      )

  pub met_fits : (n left b : ℕ) → width ≤ 4 → 0 < left → Met bytes at width n left → b < 256 → n * 256 + b < 2 ^ 32
  met_fits n left b few h m g = lt_of_lt_of_le (low_below left width n b h m.0 m.2 g) (low-few (width - (left - 1)) (omega arith))

  pub met_all : (n left : ℕ) → left ≤ 0 → Met bytes at width n left → (n ≡ of_low (take width (drop at bytes))) × (n < 256 ^ width)
  met_all n left h m = let z : left ≡ 0 = omega arith in let y : width - 0 ≡ width = omega arith in (rw z at m.1, rw (z, y) at m.2)
