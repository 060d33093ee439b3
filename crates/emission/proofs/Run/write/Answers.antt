-- `emission::Run::write` meets its contract: what stands above the bits is not seen. Assumes nothing.
use native.Mathlib.Nat.{mod-lt}
use lib.Bits.{and_mask}
use lib.Pow.{pow_pos}
use Rattle.bits.proofs.Numbers.{length-bits, bits-low}
use borrow.Author.Rules.{rules}
use Rattle.emission.proofs.Run.write.Goals as goal

pub put-requires : goal.put-requires
put-requires c =
    let a = c.args in
    (search rules, rw (c.ones.ensures, and_mask a.value a.count) (mod-lt a.value (pow_pos a.count)), search rules, search rules)

pub returns : goal.returns
returns c =
    let a = c.args in
    let w = rw (c.ones.ensures, and_mask a.value a.count, bits-low a.count a.value)
    at c.put.ensures in
    (w, rw (length-bits a.count a.value) at w.next)
