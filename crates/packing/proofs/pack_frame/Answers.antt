-- `packing::pack_frame` meets its contract: cleared where the fields do not fit, else sealed. Assumes nothing.
use mathlib.Core.Path.{sym, ap, ◌∙◌}
use borrow.Author.Tests.{lt-ltb, le-ltb}
use lib.ListN.{replicate}
use Rattle.rules.specs.Record.{Rec, rec_of}
use Rattle.packing.proofs.Frames.{part_length, count-is, packed_length, frame_is}
use Rattle.packing.proofs.pack_frame.Goals as goal

pub slice_bounds-write_fields-end-2 : goal.slice_bounds-write_fields-end-2
slice_bounds-write_fields-end-2 c =
    sym (part_length c.args.layout c.requires.legal_layout c.args.frame.now c.requires.resolutions_value.1)

pub write_fields-count-requires : goal.write_fields-count-requires
write_fields-count-requires c = record {
  legal_layout = c.requires.legal_layout;
  level_bound = c.requires.level_bound;
  factors_len = c.requires.factors_len;
  resolutions_value = c.requires.resolutions_value.0;
  all_ranged = c.requires.all_ranged;
}

pub returns-then-end-count : goal.returns-then-end-count
returns-then-end-count c =
    let l = c.args.layout in
    let record_is : Rec = rec_of c.args.layout c.args.level c.args.boundary c.args.factors.now c.args.side.now c.args.codes.now in
    let f = c.args.frame.now in
    let long = c.requires.resolutions_value.1 in
    let w = c.write_fields-count.ensures in record {
      bits = count-is l c.requires.legal_layout f long record_is w.0 w.1;
      stored = c.clear.ensures ∙ ap (λ n. replicate n 0) (packed_length l c.requires.legal_layout f long record_is w.0 w.1)
          ∙ rw (lt-ltb _ _ c.if-end-count.true);
    }

pub returns : goal.returns
returns c =
    let l = c.args.layout in
    let record_is : Rec = rec_of c.args.layout c.args.level c.args.boundary c.args.factors.now c.args.side.now c.args.codes.now in
    let f = c.args.frame.now in
    let long = c.requires.resolutions_value.1 in
    let w = c.write_fields-count.ensures in
    let fits = c.if-end-count.false in
    let bytes = c.slice_known-2-1.given in record {
      bits = count-is l c.requires.legal_layout f long record_is w.0 w.1;
      stored = c.seal.ensures ∙ frame_is l c.requires.legal_layout f long record_is w.0 w.1 (λ k. (bytes k).fits) fits ∙ rw (le-ltb _ _ fits);
    }
