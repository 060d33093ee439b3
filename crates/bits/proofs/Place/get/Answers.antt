-- `Place::get` meets its contract: a field that ends within the part is what a look at its bits finds.
use mathlib.Core.Path.{◌≡◌, sym}
use Prim.Native.Nat.{ℕ, ◌-◌}
use native.Mathlib.Nat.{div-one}
use native.Mathlib.Omega.{arith}
use Rattle.bits.proofs.Fields.{field_past, look_field}
use Rattle.bits.proofs.Place.get.Goals as goal

pub returns-then-part-end : goal.returns-then-part-end
returns-then-part-end c =
    let a = c.args in
    sym (field_past a.part.now a.self.at a.bits (omega arith))

pub returns : goal.returns
returns c =
    let a = c.args in
    let n : ℕ = a.bits in
    let e : n - n ≡ 0 = omega arith in
    rw c.look.ensures.0 (sym (rw (e, div-one) at (look_field a.part.now a.self.at n n (omega arith) (omega arith))))
