use mathlib.Core.Path.{refl, ◌∙◌}
use native.Mathlib.Omega.{arith}
use borrow.Author.Rules.{rules}
use Rattle.buffers.proofs.Build.{filled_none, filled_more, filled-all}
use Rattle.rules_files.specs.Wav.{sample_at}
use Rattle.wav.proofs.Growing.{level-none, level-next, level_counted, level_noted}
use Rattle.wav.proofs.Taking.{finite-at}
use Rattle.wav.proofs.samples.take_samples.Goals as goal

pub loop-k-init : goal.loop-k-init
loop-k-init c = (filled_none _ _, c.none-loudness.ensures ∙ level-none _)

pub sample-requires-clause-depth_value_2 : goal.sample-requires-clause-depth_value_2
unfolding sample_at
sample-requires-clause-depth_value_2 c =
    finite-at c.args.wav.now c.args.depth c.args.body _ c.loop-k.k c.requires.samples_value (search rules)

pub with-loudness-requires : goal.with-loudness-requires
with-loudness-requires c = omega (arith, level_counted _ _ _ c.loop-k.invariant.1)

pub loop-k-preserved : goal.loop-k-preserved
unfolding sample_at
loop-k-preserved c = (
  filled_more (sample_at c.args.wav.now c.args.depth c.args.body) c.args.samples.now _ _ _ (omega arith) c.loop-k.invariant.0
      c.sample.ensures,
  level-next (sample_at c.args.wav.now c.args.depth c.args.body) _ _ _ _ c.loop-k.invariant.1 c.sample.ensures c.with-loudness.ensures,
)

pub note-requires : goal.note-requires
note-requires c = omega (arith, level_counted _ _ _ c.loop-k.invariant.1)

pub shape_of-samples : goal.shape_of-samples
shape_of-samples c = c.loop-k.invariant.0.0

pub returns : goal.returns
returns c = (
  filled-all _ c.args.samples.now c.loop-k.k _ _ refl (search rules) (search rules) c.loop-k.invariant.0,
  level_noted _ c.loop-k.k _ _ _ (search rules) c.loop-k.invariant.1 c.note.ensures,
)
