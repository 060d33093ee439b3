-- Every number of an outcome fits 32 bits. Assumes nothing.
use mathlib.Core.Path.{◌≡◌}
use mathlib.Core.Bool.{true}
use native.Mathlib.Omega.{arith}
use Rattle.buffers.proofs.Tests.{and_fst}
use Rattle.rules.specs.Record.{LegalHead, legal_head, legal_record}
use Rattle.rules.specs.Writer.{WriterLent, lent_record, write_record}
use Rattle.rules.specs.declared.Layout.{Layout}
use Rattle.rules.proofs.Layouts.{legal_sizes}
use Rattle.rules.proofs.Legality.{head-legal}
use Rattle.rules_demands.proofs.Lengths.{fields-short}
use Rattle.rules_demands.proofs.WriterAnswers.{write_case}
use Rattle.hca_answers.specs.Outcomes.{Small}
use Rattle.hca_answers.proofs.Fitting.{small-refused, small-three}

record_head : (l : Layout) (t : WriterLent) → legal_record l t.level t.boundary t.factors t.side t.codes ≡ true
    → LegalHead t.level t.boundary
unfolding legal_record
record_head l t e = head-legal t.level t.boundary (and_fst (legal_head t.level t.boundary) _ e)

pub written_small : (l : Layout) (t : WriterLent) → Small (write_record l t).outcome
unfolding lent_record
written_small l t =
    write_case l t Small (small-refused 1 0 (omega arith)) (small-refused 2 0 (omega arith)) (small-refused 15 0 (omega arith))
    (λ k _. small-refused 7 _ (omega (arith, fields-short l (legal_sizes l k.layout) t.level t.boundary t.factors t.side t.codes)))
    (λ k h. let q = record_head l t k.legal in
    small-three _ _ _ (omega (arith, q.levels)) (omega (arith, q.boundaries)) (omega (arith, h, (legal_sizes l k.layout).large)))
