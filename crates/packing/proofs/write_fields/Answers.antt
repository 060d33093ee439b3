-- `packing::write_fields` meets its contract: head, channels, codes, and zeros after them. Assumes nothing.
use mathlib.Core.Path.{◌≡◌, sym, ap, ◌∙◌, subst}
use mathlib.Core.List.{[]}
use Prim.Native.Nat.{ℕ, ◌≤◌}
use native.Mathlib.Omega.{arith}
use lib.ListN.{length, take, replicate, length-replicate}
use lib.Seq.{length-take-le}
use Rattle.buffers.specs.Walk.{AtMost}
use Rattle.emission.proofs.Runs.{emits_then, emitted_none, closed_written}
use Rattle.rules.proofs.Bands.{resolutions-long}
use Rattle.resolutions.proofs.Bands.{resolutions-most}
use Rattle.packing_codes.specs.Columns.{Blank}
use Rattle.packing_codes.proofs.Ranges.{made_blank}
use Rattle.packing.proofs.Frames.{fields_packed}
use borrow.Author.Rules.{rules}
use Rattle.packing.proofs.write_fields.Goals as goal

-- the array has room for the part that is lent
front : (m n v : ℕ) → n ≤ m → length (take n (replicate m v)) ≡ n
front m n v h = length-take-le n (replicate m v) (rw (length-replicate m v) h)

pub slice_bounds-write_codes-end : goal.slice_bounds-write_codes-end
slice_bounds-write_codes-end c = sym (front 2048 _ 0 (omega (arith, c.requires.legal_layout)))

pub write_codes-end-requires : goal.write_codes-end-requires
write_codes-end-requires c =
    let a = c.args in
    let lent = c.requires.resolutions_value in
    let head = c.write_head-head.ensures in
    let channels = c.write_channels-next.ensures in
    let long = ap length lent ∙ resolutions-long a.layout a.level a.boundary a.factors.now in record {
      legal_layout = c.requires.legal_layout;
      n_bound = (channels.0.few, omega (arith, head.1, channels.1), long, c.requires.factors_len.2, front 2048 _ 0 (omega (arith, c.requires.legal_layout)), search rules, search rules);
      at_most = (
        subst (λ rs. AtMost 15 rs) (sym lent) (resolutions-most a.layout a.level a.boundary a.factors.now c.requires.legal_layout),
        subst (λ rs. Blank a.layout rs) (sym lent) (made_blank a.layout a.level a.boundary a.factors.now),
        c.requires.all_ranged,
      );
    }

pub returns : goal.returns
returns c =
    let a = c.args in
    let head = c.write_head-head.ensures in
    let channels = c.write_channels-next.ensures in
    let codes = c.write_codes-end.ensures in
    let end = c.close.ensures in
    let all = emits_then head.0 (emits_then channels.0 codes.0) in
    let e = fields_packed a.layout a.level a.boundary a.factors.now a.side.now a.codes.now a.resolutions.now c.requires.legal_layout
    c.requires.factors_len.0 c.requires.resolutions_value in
    (end.same ∙ all.same, rw e (closed_written (all.runs [] (emitted_none a.bytes.now 0)) end))
