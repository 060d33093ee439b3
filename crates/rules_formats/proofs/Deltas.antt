-- A delta's tests and its symbol in plain numbers. Assumes nothing.
use mathlib.Core.Path.{◌≡◌, refl, ◌∙◌, ap}
use mathlib.Core.List.{List}
use mathlib.Core.Bool.{Bool, true, ◌&&◌}
use Prim.Native.Nat.{ℕ, zero, suc, ◌+◌, ◌-◌, ◌^◌, ◌≤◌, ◌<◌}
use native.Mathlib.Nat.{pow-suc}
use native.Mathlib.Omega.{arith}
use borrow.Author.Tests.{lt-ltb, le-ltb, le-leb, leb-true}
use lib.IntN.{ℤ, pos, negsuc, sub_ℕ, ◌+ℤ◌, ◌-ℤ◌, nat_abs}
use lib.Signed.{le_z}
use lib.Pow.{pow_pos}
use lib.Dec.{T, leb, leb→le, leb-zero}
use Rattle.rules.specs.Format.{bad, number}
use Rattle.rules.specs.Width.{reach_of, delta_of, near}
use Rattle.rules.specs.Reading.{delta_factor, read_delta}
use Rattle.rules_formats.proofs.Numbers.{leb_case}
use Rattle.rules_formats.proofs.Prefix.{both}

-- DIFFERENCES
sub_up : (a b : ℕ) → b ≤ a → sub_ℕ a b ≡ pos (a - b)
sub_up a b h = rw (le-ltb a b h)

sub-down : (a b : ℕ) → a < b → sub_ℕ a b ≡ negsuc (b - suc a)
sub-down a b h = rw (lt-ltb a b h)

minus_up : (a b : ℕ) → b ≤ a → pos a -ℤ pos b ≡ pos (a - b)
minus_up a zero h = ap pos (omega arith)
minus_up a (suc b) h = sub_up a (suc b) h

minus_down : (a b : ℕ) → a < b → pos a -ℤ pos b ≡ negsuc (b - suc a)
minus_down a zero h = absurd (omega arith)
minus_down a (suc b) h = sub-down a (suc b) h

-- a + (b - c), where it isn't negative and where it is
pub shift_up : (a b c : ℕ) → c ≤ a + b → pos a +ℤ (pos b -ℤ pos c) ≡ pos (a + b - c)
shift_up a b c h =
    leb_case (λ _. pos a +ℤ (pos b -ℤ pos c) ≡ pos (a + b - c)) c b
    (λ l. let e : a + (b - c) ≡ a + b - c = omega arith in rw (minus_up b c l) (ap pos e))
    (λ l. let e : a - suc (c - suc b) ≡ a + b - c = omega arith in rw (minus_down b c l) (sub_up a (suc (c - suc b)) (omega arith) ∙ ap pos e))

shift_down : (a b c : ℕ) → a + b < c → pos a +ℤ (pos b -ℤ pos c) ≡ negsuc (c - suc (a + b))
shift_down a b c h =
    let e : suc (c - suc b) - suc a ≡ c - suc (a + b) = omega arith in
    rw (minus_down b c (omega arith)) (sub-down a (suc (c - suc b)) (omega arith) ∙ ap negsuc e)

-- all ones are one more than the largest delta's symbol
pub ones_are : (e : ℕ) → 2 ^ suc e ≡ reach_of (suc e) + reach_of (suc e) + 2
ones_are e = let z : suc e - 1 ≡ e = omega arith in rw z (omega (arith, pow_pos e, pow-suc 2 e))

-- NEAR: neither factor is more than m above the other
abs_is : (a b m : ℕ) → nat_abs (pos a -ℤ pos b) ≤ m → (a ≤ b + m) × (b ≤ a + m)
abs_is a b m =
    leb_case (λ _. nat_abs (pos a -ℤ pos b) ≤ m → (a ≤ b + m) × (b ≤ a + m)) b a
    (λ l. rw (minus_up a b l) (λ h. (omega arith, omega arith)))
    (λ l. rw (minus_down a b l) (λ h. (omega arith, omega arith)))

is-abs : (a b m : ℕ) → a ≤ b + m → b ≤ a + m → nat_abs (pos a -ℤ pos b) ≤ m
is-abs a b m h g =
    leb_case (λ _. nat_abs (pos a -ℤ pos b) ≤ m) b a
    (λ l. rw (minus_up a b l) (omega arith))
    (λ l. rw (minus_down a b l) (omega arith))

pub near-is : (d p f : ℕ) → near d p f ≡ true → (f ≤ p + reach_of d) × (p ≤ f + reach_of d)
unfolding near
near-is d p f e = abs_is f p (reach_of d) (leb-true _ _ e)

pub near_yes : (d p f : ℕ) → f ≤ p + reach_of d → p ≤ f + reach_of d → near d p f ≡ true
unfolding near
near_yes d p f h g = le-leb _ _ (is-abs f p (reach_of d) h g)

-- the symbol of a near factor, and the factor that a symbol names
pub symbol-is : (d p f : ℕ) → p ≤ f + reach_of d → nat_abs (pos (reach_of d) +ℤ delta_of p f) ≡ reach_of d + f - p
symbol-is d p f h = ap nat_abs (shift_up (reach_of d) f p (omega arith))

abbrev pub within : ℤ → Bool
within z = le_z (pos 0) z && le_z z (pos 63)

pub factor_is : (d p v : ℕ) → reach_of d ≤ p + v → delta_factor d p v ≡ pos (p + v - reach_of d)
factor_is d p v h = shift_up p v (reach_of d) h

pub within-is : (d p v : ℕ) → T (within (delta_factor d p v)) → (reach_of d ≤ p + v) × (p + v - reach_of d ≤ 63)
within-is d p v =
    leb_case (λ _. T (within (delta_factor d p v)) → (reach_of d ≤ p + v) × (p + v - reach_of d ≤ 63)) (reach_of d) (p + v)
    (λ l. rw (factor_is d p v l) (λ e. (l, leb→le (p + v - reach_of d) 63 (both (leb 0 (p + v - reach_of d)) (leb (p + v - reach_of d) 63) e).1)))
    (λ l. rw (shift_down p v (reach_of d) l) (λ e. absurd e))

pub within_yes : (d p v : ℕ) → reach_of d ≤ p + v → p + v - reach_of d ≤ 63 → T (within (delta_factor d p v))
within_yes d p v h g = rw (factor_is d p v h, leb-zero, le-leb _ _ g) tt

-- a delta that is cut
pub delta_cut : (d p : ℕ) (s : List Bool) (n l : ℕ) → number d s ≡ bad n l → read_delta d p s ≡ bad n l
delta_cut d p s n l e = rw e refl
