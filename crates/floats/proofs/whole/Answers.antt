-- `floats::whole` meets its contract, by `truncated`. Assumes nothing.
use mathlib.Core.Path.{◌≡◌, sym, ap, ◌∙◌, subst}
use Prim.Native.Nat.{ℕ, ◌-◌, ◌<◌}
use native.Mathlib.Omega.{arith}
use lib.IntN.{pos}
use lib.Ieee.{binary32, of_bits, to_bits, add}
use Rattle.floats.proofs.WholeLaws.{Truncated, truncated}
use Rattle.floats.proofs.whole.Lts as lts
use Rattle.floats.proofs.whole.Reads as reads
use Rattle.floats.proofs.whole.Goals as goal

said : (c : lts.Start reads.Pre reads.Post) → Truncated (of_bits binary32 1258291200) c.args.y
said c = truncated c.args.y c.requires

-- the pattern of y + 2 ^ 23, less that of 2 ^ 23
taken : (c : lts.Start reads.Pre reads.Post) → to_bits binary32 (add binary32 c.args.y (of_bits binary32 1258291200)) - 1258291200 ≡ (said c).N - 8388608
taken c = omega (arith, (said c).bits)

pub float_to_bits-n : goal.float_to_bits-n
float_to_bits-n c = (said c).number

pub overflow_sub-n : goal.overflow_sub-n
overflow_sub-n c = omega (arith, (said c).bits)

pub overflow_sub-result : goal.overflow_sub-result
overflow_sub-result c = omega (arith, taken c.before, ((said c.before).above c.if-y-w.true).0)

pub returns-then-y-w : goal.returns-then-y-w
returns-then-y-w c =
    let s = (said c.before).above c.if-y-w.true in
    let e = ap (λ (n : ℕ). n - 1) (taken c.before) in
    (ap pos e ∙ s.1, subst (λ (n : ℕ). n < 4096) (sym e) s.2)

pub returns-else-y-w : goal.returns-else-y-w
returns-else-y-w c =
    let s = (said c.before).exact c.if-y-w.false in
    (ap pos (taken c.before) ∙ s.0, subst (λ (n : ℕ). n < 4096) (sym (taken c.before)) s.1)
