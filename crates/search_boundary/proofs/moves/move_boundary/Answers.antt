use Prim.Native.Nat.{ℕ, ◌≤◌, ◌+◌, ◌-◌, ◌*◌}
use native.Mathlib.Omega.{arith}
use borrow.Author.Rules.{rules}
use Rattle.buffers.proofs.Build.{back-width}
use Rattle.buffers.proofs.Most.{part-most}
use Rattle.rules.proofs.LentRows.{below, lent-long}
use Rattle.rules.proofs.Layouts.{coded-few}
use Rattle.band_counts.proofs.Entries.{counted_part}
use Rattle.search_boundary.proofs.Passed.{even_start, even_turn, all_moved}
use Rattle.search_boundary.proofs.moves.move_boundary.Goals as goal

-- the bounds, with one channel more
risen : (used rise change c : ℕ) → rise ≤ used + 12288 * c → change ≤ 12288 → rise + change ≤ used + 12288 * (c + 1)
risen used rise change c h k = omega arith

fallen : (fall change c : ℕ) → fall ≤ 12288 * c → change ≤ 12288 → fall + change ≤ 12288 * (c + 1)
fallen fall change c h k = omega arith

pub loop-c-init : goal.loop-c-init
loop-c-init c = (search rules, search rules, even_start _ _ _)

pub coded_count-coded-requires : goal.coded_count-coded-requires
coded_count-coded-requires c = record { legal_layout = c.requires.probe_fits.legal; channel_bound = below _ _ c.loop-c-test.true 16 c.requires.probe_fits.legal.few }

pub channel_change-change-requires : goal.channel_change-change-requires
channel_change-change-requires c =
    let k = c.loop-c.c in
    let h = c.loop-c-test.true in
    let n = c.coded_count-coded in record {
      stretched = (
        c.requires.probe_fits.stretched,
        counted_part c.args.probe.layout c.args.probe.scaled.now c.args.probe.counts.now c.requires.probe_fits.counted k h n.result n.ensures.0,
        part-most 63 (k * 128) (k * 128 + 128 - k * 128) c.args.probe.factors.now c.requires.probe_fits.small,
      );
      counts_len = (
        lent-long 1024 _ _ _ h c.requires.probe_fits.counted.long,
        lent-long 128 _ _ _ h c.requires.probe_fits.factors_len,
        omega (arith, coded-few c.args.probe.layout c.requires.probe_fits.legal k, n.ensures.0),
      );
      level_nonzero = c.requires.level_nonzero;
    }

pub loop-c-preserved : goal.loop-c-preserved
loop-c-preserved c =
    let n = c.loop-c.c in
    let e = c.channel_change-change.ensures in (
      risen _ _ _ n c.loop-c.invariant.0 e.1,
      fallen _ _ n c.loop-c.invariant.1 e.2,
      even_turn _ _ _ _ _ _ _ _ _ _ c.loop-c.invariant.2 e.0 (rw (back-width (n * 1024) 1024, back-width (n * 128) 128, c.coded_count-coded.ensures.0))
          (rw (back-width (n * 1024) 1024, back-width (n * 128) 128, c.coded_count-coded.ensures.0)),
    )

pub overflow_sub-result : goal.overflow_sub-result
overflow_sub-result c =
    omega (arith, all_moved _ _ _ _ _ _ _ _ _ _ (search rules) c.requires.used_value.0 c.loop-c.invariant.2)

pub returns : goal.returns
returns c =
    omega (arith, all_moved _ _ _ _ _ _ _ _ _ _ (search rules) c.requires.used_value.0 c.loop-c.invariant.2)
