use mathlib.Core.Path.{ap, ap₂, ◌∙◌}
use Prim.Native.Nat.{◌*◌}
use native.Mathlib.Omega.{arith}
use lib.ListN.{take, drop}
use borrow.Author.Rules.{rules}
use Rattle.buffers.proofs.Build.{back-width}
use Rattle.buffers.proofs.Blocks.{blocked_none, blocked_lent, blocked_more, blocked_exact}
use Rattle.rules.specs.Layout.{part}
use Rattle.rules.proofs.LentRows.{below, next-ends, lent-long}
use Rattle.rules.proofs.Layouts.{coded-few}
use Rattle.band_counts.specs.Counts.{channel_counts}
use Rattle.band_counts.proofs.Entries.{channel_at, channel_size, frame_counted}
use Rattle.band_counts.proofs.frame_counts.Goals as goal

pub loop-c-init : goal.loop-c-init
loop-c-init c = blocked_none _ 1024 _

pub coded_count-coded-requires : goal.coded_count-coded-requires
coded_count-coded-requires c = record { legal_layout = c.requires.legal_layout; channel_bound = below _ _ c.loop-c-test.true 16 c.requires.legal_layout.few }

pub channel_counts-requires : goal.channel_counts-requires
channel_counts-requires c =
    let h = c.loop-c-test.true in (
      lent-long 1024 _ _ _ h c.requires.scaled_len.0,
      omega (arith, coded-few c.args.layout c.requires.legal_layout c.loop-c.c, c.coded_count-coded.ensures.0),
      lent-long 1024 _ _ _ h (c.loop-c.invariant.0 ∙ c.requires.scaled_len.1),
    )

pub loop-c-preserved : goal.loop-c-preserved
loop-c-preserved c =
    let a = c.args in
    let h = c.loop-c-test.true in
    let size = channel_size a.layout c.requires.legal_layout a.scaled.now a.counts.now c.requires.scaled_len.1 in
    blocked_more (channel_at a.layout a.scaled.now a.counts.now) 1024 a.layout.channels a.counts.now size c.loop-c.c c.loop-c.counts h
    c.loop-c.invariant c.channel_counts.new.counts (next-ends 1024 _ _ _ h c.requires.scaled_len.1)
    (c.channel_counts.ensures
    ∙ ap₂ (λ n xs. channel_counts a.layout.mode (take n (drop (c.loop-c.c * 1024) a.scaled.now))
    c.coded_count-coded.result xs) (back-width (c.loop-c.c * 1024) 1024)
    (blocked_lent (channel_at a.layout a.scaled.now a.counts.now) 1024 a.layout.channels a.counts.now size c.loop-c.c
    c.loop-c.counts h c.loop-c.invariant)
    ∙ ap (λ n. channel_counts a.layout.mode (part 1024 a.scaled.now c.loop-c.c) n (part 1024 a.counts.now c.loop-c.c))
    c.coded_count-coded.ensures.0)

pub shape_of-counts : goal.shape_of-counts
shape_of-counts c = c.loop-c.invariant.0

pub returns : goal.returns
returns c =
    let a = c.args in
    frame_counted a.layout c.requires.legal_layout a.scaled.now a.counts.now c.requires.scaled_len.1 _
    (blocked_exact _ 1024 a.counts.now c.loop-c.c a.layout.channels _ c.requires.scaled_len.1 (search rules) (search rules)
    c.loop-c.invariant)
