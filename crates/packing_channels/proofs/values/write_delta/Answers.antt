-- `packing_channels::values::write_delta` meets its contract, near and not. Assumes nothing.
use mathlib.Core.Path.{sym, ◌∙◌}
use mathlib.Core.List.{append-nil}
use native.Mathlib.Omega.{arith}
use Rattle.rules.specs.Fields.{delta_symbol, delta_bits}
use borrow.Author.Rules.{rules}
use Rattle.packing_channels.proofs.values.write_delta.Goals as goal

pub delta_symbol-symbol-requires : goal.delta_symbol-symbol-requires
delta_symbol-symbol-requires c = (search rules, search rules, sym c.is_near.ensures ∙ c.if-is_near.true)

pub returns-then-is_near : goal.returns-then-is_near
unfolding delta_bits
returns-then-is_near c =
    let w = c.write.ensures in
    (rw (sym c.is_near.ensures ∙ c.if-is_near.true, append-nil, ← c.delta_symbol-symbol.ensures) w.0, omega arith)

pub returns : goal.returns
unfolding delta_bits delta_symbol
returns c =
    let w = c.write_escape.ensures in
    (rw (sym c.is_near.ensures ∙ c.if-is_near.false) w.0, omega arith)
