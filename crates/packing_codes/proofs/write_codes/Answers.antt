use mathlib.Core.Path.{refl}
use native.Mathlib.Omega.{arith}
use borrow.Author.Rules.{rules}
use Rattle.buffers.specs.Walk.{build}
use Rattle.emission.proofs.Loops.{sent_none, sent_more, sent_all}
use Rattle.rules.specs.Format.{each_bits}
use Rattle.rules.specs.Record.{codes_in}
use Rattle.rules.specs.Fields.{code_bits}
use Rattle.resolutions.specs.Coded.{coded_resolutions}
use Rattle.rules_formats.proofs.Written.{times-blocks}
use Rattle.packing_codes.proofs.Walks.{rows_ruled, subframe_bits_lem}
use Rattle.packing_codes.proofs.write_codes.Goals as goal

pub code_rules-requires : goal.code_rules-requires
code_rules-requires c = (search rules, c.requires.at_most.0)

pub loop-s-init : goal.loop-s-init
loop-s-init c = (sent_none _ _ _ _ c.requires.n_bound.0, refl, refl)

pub write_subframe-at-requires : goal.write_subframe-at-requires
write_subframe-at-requires c =
    let a = c.args in
    let l = c.loop-s in record {
      legal_layout = c.requires.legal_layout;
      n_bound = (
        l.invariant.0.run.few,
        omega (arith, l.invariant.0.bound, c.requires.n_bound.1),
        omega (arith, c.loop-s-test.true),
        search rules,
        c.requires.n_bound.3,
        omega (arith, l.invariant.1, c.requires.n_bound.5),
        omega (arith, l.invariant.2, c.requires.n_bound.6),
      );
      rows_ruled = rows_ruled a.layout a.resolutions.now a.codes.now c.requires.legal_layout c.requires.n_bound.2 c.requires.n_bound.3 c.requires.at_most.0 c.requires.at_most.1 c.requires.at_most.2
          c.code_rules.ensures;
    }

pub loop-s-preserved : goal.loop-s-preserved
loop-s-preserved c =
    let a = c.args in
    let l = c.loop-s in
    let w = c.write_subframe-at.ensures in
    let e = subframe_bits_lem a.layout a.resolutions.now a.codes.now c.requires.legal_layout c.requires.n_bound.2 c.requires.n_bound.3 c.requires.at_most.0 c.requires.at_most.1 c.requires.at_most.2
    c.code_rules.ensures l.s
    (omega (arith, c.loop-s-test.true)) in (
      sent_more _ _ _ _ l.invariant.0
          (rw e at w.0) w.1,
      search rules,
      search rules,
    )

pub shape_of-payload : goal.shape_of-payload
shape_of-payload c = c.loop-s.invariant.0.run.same

pub shape_of-words : goal.shape_of-words
shape_of-words c = c.loop-s.invariant.1

pub shape_of-lengths : goal.shape_of-lengths
shape_of-lengths c = c.loop-s.invariant.2

pub returns : goal.returns
returns c =
    let a = c.args in
    let l = c.loop-s in
    let each = each_bits (each_bits code_bits) (build (coded_resolutions a.layout a.resolutions.now) a.layout.channels) in (
      sent_all _ _ _ _ (times-blocks each (λ s. build (codes_in a.layout a.codes.now s) a.layout.channels) 8) (omega arith) l.invariant.0,
      omega (arith, l.invariant.0.bound),
    )
