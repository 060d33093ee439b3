use mathlib.Core.Path.{◌≡◌, ap, ◌∙◌}
use mathlib.Core.List.{List}
use Prim.Native.Nat.{ℕ, ◌<◌}
use native.Mathlib.Omega.{arith}
use lib.ListN.{length}
use borrow.Author.Rules.{rules}
use Rattle.numbers.specs.Numbers.{of_high}
use Rattle.numbers.proofs.HighFirst.{high-room}
use Rattle.numbers.proofs.Loops.{lent, lent-is, length-lent, taken_none, taken_more, taken_all}
use Rattle.numbers.proofs.high.get_high.Goals as goal

pub loop-byte-init : goal.loop-byte-init
loop-byte-init c = let a = c.args in taken_none (lent a.bytes.now a.at a.width)

pub overflow_mul-number : goal.overflow_mul-number
overflow_mul-number c =
    let a = c.args in
    let l = c.loop-byte in
    let below : l.byte-index < a.width = omega (arith, c.loop-byte-test.true, length-lent a.bytes.now a.at a.width c.requires.0) in
    record { fits = omega (arith, high-room l.byte-index a.width l.number 0 l.invariant.1 below c.requires.1 (omega arith)) }

pub overflow_add-number : goal.overflow_add-number
overflow_add-number c =
    let a = c.args in
    let l = c.loop-byte in
    let below : l.byte-index < a.width = omega (arith, c.loop-byte-test.true, length-lent a.bytes.now a.at a.width c.requires.0) in
    record { fits = high-room l.byte-index a.width l.number c.from.result l.invariant.1 below c.requires.1 (search rules) }

pub loop-byte-preserved : goal.loop-byte-preserved
loop-byte-preserved c =
    let a = c.args in
    let l = c.loop-byte in
    taken_more (lent a.bytes.now a.at a.width) l.byte-index l.number c.from.result c.loop-byte-test.true l.invariant (search rules) (search rules)

pub returns : goal.returns
returns c =
    let a = c.args in
    let l = c.loop-byte in
    let part : List ℕ = lent a.bytes.now a.at a.width in
    let long : length part ≡ a.width = length-lent a.bytes.now a.at a.width c.requires.0 in
    let all : l.byte-index ≡ a.width = omega (arith, long, c.loop-byte-test.false, l.auto.byte-index-end) in (
      taken_all part l.byte-index l.number c.loop-byte-test.false l.invariant ∙ ap of_high (lent-is a.bytes.now a.at a.width),
      rw all at l.invariant.1,
    )
