-- `file_header::write_header` meets its contract. Assumes nothing.
use mathlib.Core.Path.{sym, ◌∙◌}
use Rattle.std.proofs.lemmas.List.{take-append-drop}
use Rattle.rules.proofs.Layouts.{legal_sizes}
use Rattle.rules_files.proofs.HeaderFitting.{fits_facts}
use Rattle.file_header.proofs.Headers.{gate-layout, gate-short, gate_unfit, header-done}
use Rattle.file_header.proofs.write_header.Goals as goal

pub returns-then-not-legal : goal.returns-then-not-legal
returns-then-not-legal c = gate-layout _ _ _ (sym c.legal.ensures ∙ c.if-not-legal.true)

pub returns-in_default : goal.returns-in_default
returns-in_default c = gate-short _ _ _ (sym c.legal.ensures ∙ c.if-not-legal.false) c.in_default.ensures.cases

pub returns-then-not-fits_header : goal.returns-then-not-fits_header
returns-then-not-fits_header c =
    let first = c.in-Some.ensures.cases in
    rw (first.same, take-append-drop 96 c.args.header.now)
    (gate_unfit _ _ _ (sym c.legal.ensures ∙ c.if-not-legal.false) first.enough (sym c.fits_header.ensures ∙ c.if-not-fits_header.true))

pub write_exact-requires-clause-legal_layout : goal.write_exact-requires-clause-legal_layout
write_exact-requires-clause-legal_layout c = legal_sizes _ (sym c.legal.ensures ∙ c.if-not-legal.false)

pub write_exact-requires-clause-header_fits : goal.write_exact-requires-clause-header_fits
write_exact-requires-clause-header_fits c = fits_facts _ _ (sym c.fits_header.ensures ∙ c.if-not-fits_header.false)

pub returns : goal.returns
returns c =
    header-done _ _ _ (sym c.legal.ensures ∙ c.if-not-legal.false) c.in-Some.ensures.cases.enough
    (sym c.fits_header.ensures ∙ c.if-not-fits_header.false) _
    c.write_exact.ensures
