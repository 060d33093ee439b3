use mathlib.Core.Path.{◌≡◌, sym, ◌∙◌}
use Prim.Native.Nat.{◌+◌, ◌-◌, ◌*◌, zero-le}
use native.Mathlib.Omega.{arith}
use borrow.Author.Rules.{rules}
use Rattle.buffers.proofs.Build.{back-width}
use Rattle.buffers.proofs.Most.{part-most}
use Rattle.buffers.proofs.Scan.{sum-none, sum-turn}
use Rattle.rules.specs.Estimate.{spectral_bits}
use Rattle.rules.proofs.LentRows.{below, lent-long}
use Rattle.rules.proofs.Layouts.{coded-few}
use Rattle.resolutions.proofs.Stretches.{placed_part}
use Rattle.band_counts.proofs.Entries.{counted_part}
use Rattle.estimate.proofs.Bands.{from_first}
use Rattle.estimate.proofs.spectral_total.Goals as goal

pub loop-c-init : goal.loop-c-init
loop-c-init c = (search rules, sym (sum-none _))

pub coded_count-coded-requires : goal.coded_count-coded-requires
coded_count-coded-requires c =
    let z = c.requires.probe_fits.0.legal in
    record { legal_layout = z; channel_bound = below _ _ c.loop-c-test.true 16 z.few }

pub channel_bits-sum-requires : goal.channel_bits-sum-requires
channel_bits-sum-requires c =
    let k = c.loop-c.c in
    let h = c.loop-c-test.true in
    let n = c.coded_count-coded in record {
      stretched = (
        c.requires.probe_fits.0.stretched,
        counted_part c.args.probe.layout c.args.probe.scaled.now c.args.probe.counts.now c.requires.probe_fits.0.counted k h n.result n.ensures.0,
        part-most 63 (k * 128) (k * 128 + 128 - k * 128) c.args.probe.factors.now c.requires.probe_fits.0.small,
      );
      counts_len = (
        lent-long 1024 _ _ _ h c.requires.probe_fits.0.counted.long,
        lent-long 128 _ _ _ h c.requires.probe_fits.0.factors_len,
        zero-le,
        omega (arith, coded-few c.args.probe.layout c.requires.probe_fits.0.legal k, n.ensures.0),
        c.requires.probe_fits.1,
      );
      places_len = (lent-long 128 _ _ _ h c.requires.places_len.0, placed_part 128 k _ c.args.probe.factors.now c.args.places.now h c.requires.places_len.1);
    }

pub loop-c-preserved : goal.loop-c-preserved
loop-c-preserved c = (
  search rules,
  sum-turn _ _ _ _ c.loop-c.invariant.1
      (from_first _ _ _ _ _ _ c.channel_bits-sum.ensures.0
      ∙ rw (back-width (c.loop-c.c * 1024) 1024, back-width (c.loop-c.c * 128) 128, c.coded_count-coded.ensures.0)),
)

pub returns : goal.returns
unfolding spectral_bits
returns c =
    let e : c.loop-c.c ≡ c.args.probe.layout.channels = omega arith in
    (c.loop-c.invariant.1 ∙ rw e, search rules)
