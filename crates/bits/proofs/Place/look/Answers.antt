-- `Place::look` meets its contract.
use mathlib.Core.Path.{◌≡◌, ◌∙◌}
use Prim.Native.Nat.{ℕ, ◌/◌}
use native.Mathlib.Omega.{arith}
use Rattle.bits.specs.Bits.{Bytes, word_at}
use Rattle.bits.specs.Place.{look_at}
use Rattle.bits.proofs.Parts.{bytes-all}
use Rattle.bits.proofs.Fields.{look_lt}
use Rattle.bits.proofs.Words.{look_at_lem}
use Rattle.bits.proofs.Place.look.Goals as goal

pub returns : goal.returns
returns c =
    let a = c.args in
    let s = a.part.now in
    let p : ℕ = a.self.at in
    let hb : Bytes s = bytes-all s (λ k. omega (arith, c.type_inv.part k)) in
    let w : c.window.result ≡ word_at s (p / 8) = c.window.ensures.0 in
    let v : c.low_bits.result ≡ look_at s p a.bits =
    c.low_bits.ensures ∙ rw (w, c.bits_before.ensures) (look_at_lem s p a.bits hb (omega arith)) in
    (v, rw v (look_lt s p a.bits))
