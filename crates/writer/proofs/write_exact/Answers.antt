-- `writer::write_exact` meets its contract. Assumes nothing.
use mathlib.Core.Path.{sym, ◌∙◌, subst}
use native.Mathlib.Omega.{arith}
use Rattle.rules.specs.Record.{LegalHead}
use Rattle.packing_codes.specs.Columns.{AllRanged}
use Rattle.packing_codes.proofs.Ranges.{legal-ranged}
use Rattle.rules_demands.proofs.LegalRecords.{record_held}
use Rattle.writer.proofs.Answers.{run_illegal, run_long, run_done}
use Rattle.writer.proofs.write_exact.Goals as goal

pub returns-then-not-is_legal : goal.returns-then-not-is_legal
returns-then-not-is_legal c = run_illegal _ _ _ _ _ _ _ (sym c.is_legal.ensures.0 ∙ c.if-not-is_legal.true)

pub pack_frame-bits-requires-clause-level_bound : goal.pack_frame-bits-requires-clause-level_bound
pack_frame-bits-requires-clause-level_bound c =
    let h : LegalHead c.args.level c.args.boundary =
    (record_held _ _ _ _ _ _ c.requires.legal_layout (sym c.is_legal.ensures.0 ∙ c.if-not-is_legal.false)).head in
    (omega arith, omega arith)

pub pack_frame-bits-requires-clause-all_ranged : goal.pack_frame-bits-requires-clause-all_ranged
pack_frame-bits-requires-clause-all_ranged c =
    subst (λ rs. AllRanged c.args.layout rs c.args.codes.now) (sym (c.is_legal.ensures.1 c.if-not-is_legal.false))
    (legal-ranged _ _ _ _ _ _ (sym c.is_legal.ensures.0 ∙ c.if-not-is_legal.false))

pub returns-then-end-bits : goal.returns-then-end-bits
returns-then-end-bits c =
    let p = c.pack_frame-bits in
    run_long _ _ _ _ _ _ _ c.requires.legal_layout c.requires.factors_len.4 (sym c.is_legal.ensures.0 ∙ c.if-not-is_legal.false) p.result p.ensures.bits _
    p.ensures.stored (omega arith)

pub returns : goal.returns
returns c =
    let p = c.pack_frame-bits in
    run_done _ _ _ _ _ _ _ c.requires.legal_layout c.requires.factors_len.4 (sym c.is_legal.ensures.0 ∙ c.if-not-is_legal.false) p.result p.ensures.bits _
    p.ensures.stored (omega arith)
