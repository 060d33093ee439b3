use mathlib.Core.Path.{ap, ◌∙◌}
use mathlib.Core.List.{List}
use Prim.Native.Nat.{ℕ}
use native.Mathlib.Omega.{arith}
use borrow.Author.Rules.{rules}
use Rattle.buffers.proofs.Blocks.{blocked_none, blocked_lent, blocked_more, blocked_exact}
use Rattle.rules.specs.Level.{clear_two, clear_pair}
use Rattle.search_level.proofs.Searching.{cleared_at, cleared-size}
use Rattle.search_level.proofs.clear_pair.Goals as goal

pub loop-c-init : goal.loop-c-init
loop-c-init c = blocked_none _ 128 _

pub loop-c-preserved : goal.loop-c-preserved
loop-c-preserved c =
    let a = c.args in
    let size = cleared-size a.factors.now a.band a.layout.channels (omega arith) in
    let t = c.loop-c-test.true in
    blocked_more (cleared_at a.factors.now a.band) 128 a.layout.channels a.factors.now size c.loop-c.c c.loop-c.factors t c.loop-c.invariant
    c.clear_two.new.factors (omega arith)
    (c.clear_two.ensures
    ∙ ap (λ (fs : List ℕ). clear_two fs a.band)
    (blocked_lent (cleared_at a.factors.now a.band) 128 a.layout.channels a.factors.now size c.loop-c.c c.loop-c.factors t c.loop-c.invariant))

pub returns : goal.returns
unfolding clear_pair
returns c =
    blocked_exact _ 128 c.args.factors.now c.loop-c.c _ _ (search rules) (search rules) (search rules) c.loop-c.invariant
