-- `writer::legality::is_legal` meets its contract. Assumes nothing.
use mathlib.Core.Path.{sym, ap, ◌∙◌}
use mathlib.Core.Bool.{Bool, true≢false, ◌&&◌}
use native.Mathlib.Omega.{arith}
use Rattle.rules.specs.Record.{legal_channels, legal_record}
use Rattle.rules.specs.Resolution.{all_resolutions}
use Rattle.rules.proofs.Legality.{head-legal}
use Rattle.writer.proofs.legality.is_legal.Goals as goal

pub calculate_frame_resolutions-requires : goal.calculate_frame_resolutions-requires
calculate_frame_resolutions-requires c =
    record { legal_layout = c.requires.legal_layout; level_bound = omega (arith, head-legal _ _ (sym c.legal_head.ensures ∙ c.if-legal_head.true)); factors_len = (c.requires.factors_len.0, c.requires.factors_len.3) }

pub returns-then-legal_head : goal.returns-then-legal_head
unfolding legal_record
returns-then-legal_head c =
    let a = c.args in
    let are = c.calculate_frame_resolutions.ensures in
    let judge : Bool → Bool = λ h. h && legal_channels a.layout a.factors.now a.side.now a.codes.now
    (all_resolutions a.layout a.level a.boundary a.factors.now) in (
      c.legal_channels.ensures
          ∙ ap (legal_channels a.layout a.factors.now a.side.now a.codes.now) are
          ∙ ap judge (sym (sym c.legal_head.ensures ∙ c.if-legal_head.true)),
      λ _. are,
    )

pub returns : goal.returns
unfolding legal_record
returns c = (
  sym (rw (sym c.legal_head.ensures ∙ c.if-legal_head.false)),
  λ e. absurd (true≢false (sym e)),
)
