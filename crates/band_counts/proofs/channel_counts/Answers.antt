use mathlib.Core.Path.{◌≡◌, ap, ◌∙◌}
use mathlib.Core.List.{[]}
use native.Mathlib.Omega.{arith}
use lib.ListN.{get_or}
use borrow.Author.Rules.{rules}
use Rattle.buffers.specs.Walk.{build}
use Rattle.buffers.proofs.Blocks.{blocked_none, blocked_more, blocked_all}
use Rattle.rules.proofs.LentRows.{below, next-ends, lent-long}
use Rattle.band_counts.specs.Counts.{eight_of, entry_of, channel_counts}
use Rattle.band_counts.proofs.Entries.{eight_at, band_entries, band-size}
use Rattle.band_counts.proofs.channel_counts.Goals as goal

pub loop-b-init : goal.loop-b-init
loop-b-init c = blocked_none _ 8 _

pub band_counts-requires : goal.band_counts-requires
band_counts-requires c = lent-long 8 _ 128 _ (below _ _ c.loop-b-test.true 128 c.requires.1) (c.loop-b.invariant.0 ∙ c.requires.2)

pub loop-b-preserved : goal.loop-b-preserved
loop-b-preserved c =
    let a = c.args in
    let h = c.loop-b-test.true in
    let eight : get_or c.as_chunks.result.0.now c.loop-b.b [] ≡ eight_of a.scaled.now c.loop-b.b =
    ap (λ parts. get_or parts c.loop-b.b []) c.as_chunks.ensures.front ∙ eight_at _ a.scaled.now c.loop-b.b (omega (arith, h, c.requires.0, c.requires.1)) in
    blocked_more (band_entries a.mode a.scaled.now) 8 a.coded a.counts.now (λ b _. band-size _ _ b) c.loop-b.b c.loop-b.counts h
    c.loop-b.invariant
    c.band_counts.new.counts (next-ends 8 _ 128 _ (below _ _ h 128 c.requires.1) c.requires.2)
    (c.band_counts.ensures ∙ ap (λ e. build (entry_of a.mode e) 8) eight)

pub shape_of-counts : goal.shape_of-counts
shape_of-counts c = c.loop-b.invariant.0

pub returns : goal.returns
unfolding channel_counts
returns c =
    let a = c.args in
    blocked_all (band_entries a.mode a.scaled.now) 8 a.counts.now c.loop-b.b a.coded _ (search rules) (search rules)
    c.loop-b.invariant
