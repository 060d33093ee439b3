-- `floats::cut` meets its contract: the four cases of `CutLaws`, by the exponent's field. Assumes nothing.
use mathlib.Core.Path.{◌≡◌, sym, ap, ◌∙◌}
use mathlib.Core.Logic.{◌⊎◌, inl, inr}
use Prim.Native.Nat.{ℕ, ◌≤◌, ◌<◌, ◌/◌, ◌%◌, ◌^◌}
use native.Mathlib.Nat.{eq-or-lt_of_le}
use native.Mathlib.Omega.{arith}
use mathlib.Core.Bool.{false}
use lib.Ieee.{binary32, of_bits, of_fields}
use Rattle.floats.specs.Single.{cut_to}
use Rattle.floats.proofs.CutLaws.{no_sign, cut_below_one, cut_right, cut_left, cut_beyond}
use Rattle.floats.proofs.cut.Lts as lts
use Rattle.floats.proofs.cut.Reads as reads
use Rattle.floats.proofs.cut.Goals as goal

-- the contract speaks of the pattern, and the cases of its two fields
of-fields : (c : lts.Start reads.Pre reads.Post) → cut_to (2 ^ 31) (of_fields binary32 false (c.args.bits / 8388608) (c.args.bits % 8388608))
    ≡ cut_to (2 ^ 31) (of_bits binary32 c.args.bits)
of-fields c = ap (cut_to (2 ^ 31)) (sym (no_sign c.args.bits (omega arith)))

field_top : (b : ℕ) → b ≤ 2139095040 → (b / 8388608 < 255) ⊎ ((b / 8388608 ≡ 255) × (b % 8388608 ≡ 0))
field_top b h = go (eq-or-lt_of_le (up_to b h))
  where
    up_to : (b : ℕ) → b ≤ 2139095040 → b / 8388608 ≤ 255
    up_to b h = omega arith

    rest : b / 8388608 ≡ 255 → b % 8388608 ≡ 0
    rest e = omega arith

    go : (b / 8388608 ≡ 255) ⊎ (b / 8388608 < 255) → (b / 8388608 < 255) ⊎ ((b / 8388608 ≡ 255) × (b % 8388608 ≡ 0))
    go (inl e) = inr (e, rest e)
    go (inr k) = inl k

pub returns-then-exponent-lt127 : goal.returns-then-exponent-lt127
returns-then-exponent-lt127 c = sym (cut_below_one (c.args.bits / 8388608) (c.args.bits % 8388608) (omega arith) c.if-exponent-lt127.true) ∙ of-fields c.before

pub returns-then-exponent-le150 : goal.returns-then-exponent-le150
returns-then-exponent-le150 c = cut_right (c.args.bits / 8388608) (c.args.bits % 8388608) (omega arith) (omega arith) (omega arith)
    ∙ of-fields c.before.before

pub returns-then-exponent-lt158 : goal.returns-then-exponent-lt158
returns-then-exponent-lt158 c = cut_left (c.args.bits / 8388608) (c.args.bits % 8388608) (omega arith) (omega arith)
    (omega arith) ∙ of-fields c.before.before.before

pub returns : goal.returns
returns c =
    cut_beyond (c.args.bits / 8388608) (c.args.bits % 8388608) (omega arith)
    (field_top c.args.bits c.requires)
    ∙ of-fields c.before.before.before
