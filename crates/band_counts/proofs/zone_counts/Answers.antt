use mathlib.Core.Path.{◌∙◌}
use native.Mathlib.Omega.{arith}
use mir.Syntax.{w32}
use mir.ValLaws.{to_z-of_z}
use borrow.Author.Rules.{rules}
use Rattle.buffers.proofs.Build.{filled_none, filled_more, filled-all}
use Rattle.band_counts.specs.Counts.{entry_of}
use Rattle.band_counts.proofs.zone_counts.Goals as goal

pub loop-k-init : goal.loop-k-init
loop-k-init c = filled_none _ _

pub entry-requires : goal.entry-requires
entry-requires c =
    let m = c.sizes_of-m.ensures in
    record { each_within = (c.requires.each_within, m.1, m.0, c.clip_count-clips.ensures); k_bound = c.loop-k-test.true }

pub loop-k-preserved : goal.loop-k-preserved
loop-k-preserved c =
    let a = c.args in
    filled_more (entry_of a.mode a.e) a.counts.now c.loop-k.k c.loop-k.counts _ (omega arith) c.loop-k.invariant
    (to_z-of_z w32 c.entry.result (record { sfits = c.entry.type_inv }) ∙ c.entry.ensures)

pub shape_of-counts : goal.shape_of-counts
shape_of-counts c = c.loop-k.invariant.0

pub returns : goal.returns
returns c =
    filled-all (entry_of c.args.mode c.args.e) c.args.counts.now c.loop-k.k 8 _ c.requires.counts_len (search rules)
    (search rules) c.loop-k.invariant
