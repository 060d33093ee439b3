use mathlib.Core.Path.{ap, ◌∙◌}
use lib.ListN.{get_or}
use Rattle.crc.specs.Table.{fed}
use Rattle.crc.proofs.Laws.{feed-next}
use Rattle.crc.proofs.crc16_feed.Goals as goal

pub loop-byte-preserved : goal.loop-byte-preserved
loop-byte-preserved c =
    c.crc16_step-sum.ensures
    ∙ ap (λ s. fed s (get_or c.args.bytes.now c.loop-byte.byte-index 0)) c.loop-byte.invariant
    ∙ feed-next c.args.start c.args.bytes.now c.loop-byte.byte-index c.loop-byte-test.true
