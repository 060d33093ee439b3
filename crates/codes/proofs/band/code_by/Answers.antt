-- `codes::band::code_by` meets its contract, by `truncated`: the bits are those of 2 ^ 23 and a small number more, so all differences fit. Assumes nothing.
use mathlib.Core.Path.{◌≡◌, refl, sym, ap, ap₂, ◌∙◌, subst}
use mathlib.Core.Bool.{Bool, true, false}
use Prim.Native.Nat.{ℕ, suc, ◌+◌, ◌-◌, ◌≤◌}
use native.Mathlib.Nat.{lt_of_le_of_lt}
use native.Mathlib.Omega.{arith}
use lib.IntN.{ℤ, pos, ◌-ℤ◌}
use lib.Ieee.{Float, binary32, of_bits, to_bits, add, sub, lt, to_signed}
use mir.Syntax.{w32}
use mir.Val.{SFits, to_z, of_z}
use mir.ValLaws.{to_z-of_z}
use mir.Facts.{to_z_pos}
use Rattle.floats.specs.Single.{Short}
use Rattle.floats.proofs.SignedLaws.{mag_sub}
use Rattle.floats.proofs.WholeLaws.{Truncated, truncated}
use Rattle.codes.specs.Columns.{cut_by, code_by}
use Rattle.codes.proofs.Differences.{both_more, one_less}
use Rattle.codes.proofs.band.code_by.Lts as lts
use Rattle.codes.proofs.band.code_by.Tie as tie
use Rattle.codes.proofs.band.code_by.Reads as reads
use Rattle.codes.proofs.band.code_by.Goals as goal

-- ---- numbers: t more than the bits of 2 ^ 23, against k more
few_fit : (t k : ℕ) → t ≤ 4096 → k ≤ 2048 → SFits w32 (pos t -ℤ pos k)
few_fit t k h l = record { sfits = lt_of_le_of_lt (mag_sub (pos t) k) (omega arith) }

difference : (n z t : ℕ) → n ≡ 1258291200 + t → t ≤ 4096 → 1258291200 ≤ z → z ≤ 1258291200 + 2048
    → to_z w32 n -ℤ to_z w32 z ≡ pos t -ℤ pos (z - 1258291200)
difference n z t e h l u =
    let m : z ≡ 1258291200 + (z - 1258291200) = omega arith in
    ap₂ (λ (a b : ℤ). a -ℤ b) (to_z_pos w32 {n = n} (omega arith)) (to_z_pos w32 {n = z} (omega arith))
    ∙ ap₂ (λ (a b : ℕ). pos a -ℤ pos b) e m ∙ both_more 1258291200 t (z - 1258291200)

-- ---- what is truncated
module _ (c : lts.After-smaller tie.the-claims reads.Pre reads.Post) where
  abbrev y : Float
  y = c.smaller-y.result

  abbrev z : ℕ
  z = c.args.column.zero

  said : Truncated (of_bits binary32 1258291200) y
  unfolding cut_by of_bits
  said = truncated y (subst Short (sym c.smaller-y.ensures) c.requires.1)

  abbrev t : ℕ
  t = said.N - 8388608

  few : t ≤ 4096
  few = go (lt y (sub binary32 (add binary32 y (of_bits binary32 1258291200)) (of_bits binary32 1258291200))) refl
    where
      go : (b : Bool) → lt y (sub binary32 (add binary32 y (of_bits binary32 1258291200)) (of_bits binary32 1258291200)) ≡ b → t ≤ 4096
      go true e = let s = said.above e in omega (arith, s.0, s.2)
      go false e = let s = said.exact e in omega (arith, s.1)

  less : to_z w32 (to_bits binary32 (add binary32 y (of_bits binary32 1258291200))) -ℤ to_z w32 z ≡ pos t -ℤ pos (z - 1258291200)
  less = let b = c.requires.0 in difference _ z t said.bits few b.least b.most

  base : z - 1258291200 ≤ 2048
  base = let b = c.requires.0 in omega (arith, b.most)

pub float_to_bits-n : goal.float_to_bits-n
float_to_bits-n c = (said c).number

pub overflow_cast-n : goal.overflow_cast-n
overflow_cast-n c = record { sfits = omega (arith, (said c).bits, few c) }

pub overflow_sub-n : goal.overflow_sub-n
overflow_sub-n c = subst (λ (n : ℤ). SFits w32 n) (sym (less c.before)) (few_fit (t c.before) _ (few c.before) (base c.before))

pub returns-else-y-w : goal.returns-else-y-w
unfolding code_by cut_by of_bits
returns-else-y-w c =
    to_z-of_z w32 _ (overflow_sub-n c.before) ∙ less c.before.before
    ∙ ap (λ (n : ℤ). n -ℤ pos (z c.before.before - 1258291200)) (((said c.before.before).exact c.if-y-w.false).0 ∙ ap (to_signed 31) c.smaller-y.ensures)

-- ---- what came out above is one too many
module _ (c : lts.Then1 tie.the-claims reads.Pre reads.Post) where
  abbrev d : lts.After-smaller tie.the-claims reads.Pre reads.Post
  d = c.before.before

  settled : to_z w32 (of_z w32 (to_z w32 (to_bits binary32 (add binary32 (y d) (of_bits binary32 1258291200))) -ℤ to_z w32 (z d))) -ℤ pos 1
      ≡ pos (t d - 1) -ℤ pos (z d - 1258291200)
  settled =
      let e : t d ≡ suc (t d - 1) = omega (arith, ((said d).above c.if-y-w.true).0) in
      ap (λ (n : ℤ). n -ℤ pos 1)
      (to_z-of_z w32 _ (overflow_sub-n c.before) ∙ less d ∙ ap (λ (n : ℕ). pos n -ℤ pos (z d - 1258291200)) e) ∙ one_less (t d - 1) (z d - 1258291200)

pub overflow_sub-result : goal.overflow_sub-result
overflow_sub-result c =
    subst (λ (n : ℤ). SFits w32 n) (sym (settled c)) (few_fit (t c.before.before - 1) _ (omega (arith, few c.before.before)) (base c.before.before))

pub returns-then-y-w : goal.returns-then-y-w
unfolding code_by cut_by of_bits
returns-then-y-w c =
    to_z-of_z w32 _ (overflow_sub-result c) ∙ settled c
    ∙ ap (λ (n : ℤ). n -ℤ pos (z c.before.before - 1258291200)) (((said c.before.before).above c.if-y-w.true).1 ∙ ap (to_signed 31) c.smaller-y.ensures)
