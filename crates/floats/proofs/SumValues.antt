-- Two floats of one value are one, and what a format holds is not rounded. Assumes nothing.
use mathlib.Core.Path.{◌≡◌, refl, sym, ap, ◌∙◌}
use Prim.Native.Nat.{ℕ, zero, suc, ◌+◌, ◌-◌, ◌*◌, ◌/◌, ◌%◌, ◌^◌, ◌≤◌, ◌<◌}
use native.Mathlib.Nat.{mul_assoc, mul_right_comm, mul-one, zero-mul, lt_of_lt_of_le, lt_irrefl}
use native.Mathlib.Omega.{arith}
use borrow.Author.Tests.{leb-true, leb-false}
use mathlib.Core.Bool.{Bool, true, false, ◌&&◌, cond}
use lib.Dec.{T, eqb, leb, ltb, ltb→lt, leb→le}
use lib.IntN.{ℤ, pos, negsuc}
use lib.Pow.{pow-add, pow_pos, pow_mono, pow-lt, shl_lt}
use lib.Ieee.{Float, nan, inf, fin, Format, binary32, prec, low, hid, top, up, down, size, round, fits, of_bits, to_bits}
use lib.Ieee.Bits.{of_bits-to_bits}
use lib.Ieee.Exact.{HasValue, round_exact}
use lib.Ieee.Fits.{and_l, and_r, down_pos, round-fits}
use lib.Ieee.Nearest.{div_same}

abbrev bits_for : Format → Bool → ℕ → ℕ
bits_for f s n = cond s (top f) 0 + (size n - prec f) * hid f + n / 2 ^ (size n - prec f)

bits_of_value : (f : Format) (x : Float) (s : Bool) (a c : ℕ) → 0 < c → HasValue x s a c → to_bits f x ≡ bits_for f s (a * 2 ^ low f / c)
unfolding to_bits
bits_of_value f nan s a c C v = absurd v
bits_of_value f (inf t) s a c C v = absurd v
bits_of_value f (fin t m e) s a c C v =
    ap (λ (u : Bool). bits_for f u (m * up e * 2 ^ low f / down e)) v.0
    ∙ ap (bits_for f s)
    (div_same (m * up e * 2 ^ low f) (down e) (a * 2 ^ low f) c (down_pos e) C
    (mul_right_comm (m * up e) (2 ^ low f) c ∙ ap (λ (z : ℕ). z * 2 ^ low f) v.1 ∙ mul_right_comm a (down e) (2 ^ low f)))

pub value_unique : (f : Format) (x y : Float) (s : Bool) (a c : ℕ) → T (fits f x) → T (fits f y) → 0 < c → HasValue x s a c → HasValue y s a c → x ≡ y
value_unique f x y s a c p q C v w =
    sym (of_bits-to_bits f x p) ∙ ap (of_bits f) (bits_of_value f x s a c C v ∙ sym (bits_of_value f y s a c C w)) ∙ of_bits-to_bits f y q

-- ---- what a format holds, by its digits

-- a shift in two steps
in_steps : (m i j k : ℕ) → k ≡ i + j → m * 2 ^ k ≡ m * 2 ^ i * 2 ^ j
in_steps m i j k e = ap (λ (x : ℕ). m * 2 ^ x) e ∙ ap (λ (x : ℕ). m * x) (pow-add 2 i j) ∙ sym (mul_assoc m (2 ^ i) (2 ^ j))

few : (k : ℕ) → 2 ^ k ≤ 2 ^ 149 → k ≤ 149
few k h = go (leb k 149) refl
  where
    go : (t : Bool) → leb k 149 ≡ t → k ≤ 149
    go true e = leb-true k 149 e
    go false e = absurd (lt_irrefl (2 ^ 149) (lt_of_lt_of_le (pow-lt {i = 149} {j = k} (leb-false k 149 e)) h))

parts : (a b c d : Bool) → T (a && b && c && d) → T b × T c × T d
parts a b c d h = let l = and_l (a && b && c) d h in (and_r a b (and_l (a && b) c l), and_r (a && b) c l, and_r (a && b && c) d h)

module _ (s : Bool) where
  within : (m : ℕ) (e : ℤ) → T (fits binary32 (fin s (suc m) e)) → (suc m < 2 ^ 24) × (down e ≤ 2 ^ 149) × (suc m * up e < 2 ^ 128 * down e)
  unfolding fits
  within m e h =
      let p = parts (eqb (suc m % 2) 1) (ltb (suc m) (2 ^ 24)) (leb (down e) (2 ^ 149)) (ltb (suc m * up e) (2 ^ 128 * down e)) h in
      (ltb→lt (suc m) (2 ^ 24) p.0, leb→le (down e) (2 ^ 149) p.1, ltb→lt (suc m * up e) (2 ^ 128 * down e) p.2)

  exact : (m : ℕ) (e : ℤ) → T (fits binary32 (fin s m e)) → HasValue (round binary32 s (m * up e) (down e)) s (m * up e) (down e)
  exact zero e h = round_exact binary32 s (0 * up e) (down e) 0 0 (down_pos e) (pow_pos 24) (pow_pos 277) (rw (zero-mul (up e), zero-mul (down e)))
  exact (suc m) (pos k) h =
      let w = within m (pos k) h in
      let u = in_steps (suc m) k 149 (k + 149) refl in
      round_exact binary32 s (suc m * 2 ^ k) 1 (suc m) (k + 149) (pow_pos 0) w.0 (rw u (shl_lt 128 149 (rw (mul-one (2 ^ 128)) at w.2)))
      (sym u ∙ sym (mul-one _))
  exact (suc m) (negsuc k) h =
      let w = within m (negsuc k) h in
      let fine = few (suc k) w.1 in
      round_exact binary32 s (suc m * 1) (2 ^ suc k) (suc m) (149 - suc k) (pow_pos (suc k)) w.0
      (lt_of_lt_of_le (shl_lt 24 (149 - suc k) w.0) (pow_mono {j = 277} (omega arith)))
      (rw (mul-one (suc m)) (in_steps (suc m) (149 - suc k) (suc k) 149 (omega arith)))

  pub own_round : (m : ℕ) (e : ℤ) → T (fits binary32 (fin s m e)) → round binary32 s (m * up e) (down e) ≡ fin s m e
  own_round m e h =
      value_unique binary32 (round binary32 s (m * up e) (down e)) (fin s m e) s (m * up e) (down e) (round-fits binary32 s (m * up e) (down e)) h (down_pos e)
      (exact m e h) (refl, refl)
