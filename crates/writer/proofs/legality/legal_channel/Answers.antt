-- `writer::legality::legal_channel` meets its contract. Assumes nothing.
use mathlib.Core.Path.{◌≡◌, sym, ◌∙◌}
use native.Mathlib.Omega.{arith}
use Prim.Native.Nat.{ℕ}
use Rattle.rules.specs.Record.{legal_channel}
use Rattle.writer.proofs.Ranges.{row_judged, side_judged}
use Rattle.writer.proofs.legality.legal_channel.Goals as goal
use Rattle.writer.proofs.legality.legal_channel.Goals.{then-legal_row, else-legal_row}

pub returns-then-legal_row-2 : goal.returns-then-legal_row-2
unfolding legal_channel
returns-then-legal_row-2 c =
    let a = c.args in
    let rows = row_judged a.layout a.channel a.factors.now c.coded_count-coded.ensures.0 c.requires.channel_bound.1 c.legal_row.ensures in
    elim c.if-legal_row.branch [
      | then-legal_row w ↦
          let s = w.legal_row-then-legal_row in
          let sides = side_judged a.layout a.channel a.side.now c.side_count-sides.ensures.0 c.side_limit-limit.ensures c.requires.channel_bound.2 s.ensures in
          rw (rows ∙ w.if-legal_row.true, sides ∙ sym w.value-is ∙ c.if-legal_row-2.true) c.legal_codes.ensures
      | else-legal_row w ↦ absurd (let z : ◌≡◌ {A = ℕ} 0 1 = cc in omega arith)
    ]

pub returns-else-legal_row-2 : goal.returns-else-legal_row-2
unfolding legal_channel
returns-else-legal_row-2 c =
    let a = c.args in
    let rows = row_judged a.layout a.channel a.factors.now c.coded_count-coded.ensures.0 c.requires.channel_bound.1 c.legal_row.ensures in
    elim c.if-legal_row.branch [
      | then-legal_row w ↦
          let s = w.legal_row-then-legal_row in
          let sides = side_judged a.layout a.channel a.side.now c.side_count-sides.ensures.0 c.side_limit-limit.ensures c.requires.channel_bound.2 s.ensures in
          rw (rows ∙ w.if-legal_row.true, sides ∙ sym w.value-is ∙ c.if-legal_row-2.false) c.if-legal_row-2.false
      | else-legal_row w ↦ rw (rows ∙ w.if-legal_row.false) c.if-legal_row-2.false
    ]
