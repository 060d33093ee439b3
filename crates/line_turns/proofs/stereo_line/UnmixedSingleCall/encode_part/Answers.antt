-- The stereo stage on frame k's parts: they go out and come back in their places. Assumes nothing.
use mathlib.Core.Path.{◌∙◌}
use Rattle.line_turns.proofs.Placed.{stereo_called, with_outcome, placed, lent-long}
use Rattle.line_turns.proofs.stereo_line.UnmixedSingleCall.encode_part.Goals as goal

pub returns-clause-placed : goal.returns-clause-placed
returns-clause-placed c =
    let r = c.encode_stereo_frame in
    let start = c.part_start-a.ensures in
    let side-start = c.part_start-i.ensures in
    let at = c.part_start-b.ensures in
    with_outcome (stereo_called r.result)
    (placed _ _ c.args.self.now.spectra.now c.args.self.now.intensities.now _ _ _ _ c.args.frames.now _ _ _ start side-start at _ _ r.new.spectra
    r.new.intensities _ _ _ _ r.new.frame (r.auto.spectra ∙ lent-long _ _ _ start _ c.requires.turn.spectra)
    (r.auto.intensities ∙ lent-long _ _ _ side-start _ c.requires.turn.intensities) (r.auto.frame ∙ lent-long _ _ _ at _ c.requires.turn.frames)
    r.ensures)
