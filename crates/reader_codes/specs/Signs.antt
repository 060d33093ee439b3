-- **Frame**: from resolution 8 up a code is a magnitude and a sign.
use Rattle.std.specs.Prelude.{cond, ℕ, eqb, ℤ, pos, neg_ℤ}

-- a magnitude under its sign bit, 1 for negative
abbrev pub signed_of : (sign magnitude : ℕ) → ℤ
signed_of sign magnitude = cond (eqb sign 0) (pos magnitude) (neg_ℤ (pos magnitude))
