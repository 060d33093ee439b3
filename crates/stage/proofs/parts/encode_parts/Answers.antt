-- `stage::parts::encode_parts` meets its contract. Assumes nothing.
use mathlib.Core.Path.{sym, ◌∙◌}
use lib.Seq.{length-take-le}
use Rattle.stage.proofs.Wholes.{opened}
use Rattle.stage.proofs.parts.encode_parts.Goals as goal

pub slice_bounds-run_stage-end : goal.slice_bounds-run_stage-end
slice_bounds-run_stage-end c = sym (length-take-le _ _ c.requires.stage_has_room.spectra)

pub slice_bounds-run_stage-end-2 : goal.slice_bounds-run_stage-end-2
slice_bounds-run_stage-end-2 c = sym (length-take-le _ _
    c.requires.stage_has_room.intensities)

pub slice_bounds-run_stage-end-4 : goal.slice_bounds-run_stage-end-4
slice_bounds-run_stage-end-4 c = sym (length-take-le _ _
    c.requires.stage_has_room.scaled)

pub slice_bounds-run_stage-end-6 : goal.slice_bounds-run_stage-end-6
slice_bounds-run_stage-end-6 c = sym (length-take-le _ _
    c.requires.stage_has_room.stored.codes)

pub slice_bounds-run_stage-end-8 : goal.slice_bounds-run_stage-end-8
slice_bounds-run_stage-end-8 c = sym (length-take-le _ _
    c.requires.stage_has_room.stored.factors)

pub slice_bounds-run_stage-end-10 : goal.slice_bounds-run_stage-end-10
slice_bounds-run_stage-end-10 c = sym (length-take-le _ _
    c.requires.stage_has_room.stored.side)

pub slice_bounds-run_stage-end-12 : goal.slice_bounds-run_stage-end-12
slice_bounds-run_stage-end-12 c =
    sym (length-take-le _ _ c.requires.stage_has_room.stored.frame)

pub run_stage-requires : goal.run_stage-requires
run_stage-requires c =
    record {
      legal_layout = c.requires.legal_layout;
      stage_lengths = record {
        spectra = length-take-le _ _ c.requires.stage_has_room.spectra;
        intensities = length-take-le _ _ c.requires.stage_has_room.intensities;
        scaled = length-take-le _ _ c.requires.stage_has_room.scaled;
        codes = length-take-le _ _ c.requires.stage_has_room.stored.codes;
        factors = length-take-le _ _ c.requires.stage_has_room.stored.factors;
        side = length-take-le _ _ c.requires.stage_has_room.stored.side;
        frame = length-take-le _ _ c.requires.stage_has_room.stored.frame;
      };
      all_finite = c.requires.all_finite;
    }

pub returns : goal.returns
returns c =
    let r = c.run_stage in
    opened _ _ c.args.spectra.now c.args.intensities.now _ _ _ _ _ _ _ _ _ _ _ _
    (r.auto.scaled ∙ length-take-le _ _ c.requires.stage_has_room.scaled)
    (r.auto.codes ∙ length-take-le _ _ c.requires.stage_has_room.stored.codes)
    (r.auto.factors ∙ length-take-le _ _ c.requires.stage_has_room.stored.factors)
    (r.auto.side ∙ length-take-le _ _ c.requires.stage_has_room.stored.side)
    (r.auto.frame ∙ length-take-le _ _ c.requires.stage_has_room.stored.frame)
    r.ensures
