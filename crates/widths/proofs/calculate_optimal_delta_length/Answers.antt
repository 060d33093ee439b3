use mathlib.Core.Path.{◌≡◌, ap, ◌∙◌}
use mathlib.Core.List.{List}
use Prim.Native.Nat.{ℕ, ◌+◌, ◌-◌, ◌<◌}
use lib.ListN.{get_or, take, drop}
use lib.Seq.{get_or-take}
use Rattle.std.proofs.lemmas.Grind.{get_or_after_one}
use Rattle.widths.specs.Walks.{walk_on}
use native.Mathlib.Omega.{arith}
use borrow.Author.Rules.{rules}
use Rattle.widths.proofs.Costs.{zero_end, best_zero}
use Rattle.widths.proofs.Walks.{walked-first, walked_next, walked-silent, walked_chosen}
use Rattle.widths.proofs.calculate_optimal_delta_length.Goals as goal

-- the factors past the first, by their places among all
next_read : (fs : List ℕ) (n i : ℕ) → i < n - 1 → get_or (take (n - 1) (drop 1 fs)) i 0 ≡ get_or fs (i + 1) 0
next_read fs n i h = let e : 1 + i ≡ i + 1 = omega arith in get_or-take (n - 1) (drop 1 fs) i 0 h ∙ get_or_after_one fs i 0 ∙ ap (λ (k : ℕ). get_or fs k 0) e

pub returns-then-n-eq0 : goal.returns-then-n-eq0
returns-then-n-eq0 c =
    let z = best_zero _ (zero_end _ _ 0 c.requires.1 (omega arith)) in
    (z.0, z.1, search rules, search rules)

pub loop-factor-init : goal.loop-factor-init
loop-factor-init c = rw c.of_first-walk.ensures (walked-first _ _ c.requires.1 (omega arith))

pub loop-factor-preserved : goal.loop-factor-preserved
loop-factor-preserved c =
    let i = c.loop-factor.factor-index in
    let w = walked_next _ _ c.requires.1 i _ (omega arith) c.loop-factor.invariant in
    let e = next_read c.args.factors.now c.args.n i (omega arith) in
    rw (c.with-walk.ensures ∙ ap (walk_on c.loop-factor.walk) e) w

pub returns-then-walk : goal.returns-then-walk
returns-then-walk c =
    let z = walked-silent _ _ c.requires.1 _ _ (omega arith) c.loop-factor.invariant c.if-walk.true in
    (z.0, z.1, search rules, search rules)

pub returns : goal.returns
returns c =
    let w = walked_chosen _ _ c.requires.1 _ _ (omega arith) c.loop-factor.invariant c.if-walk.false _ c.chosen.ensures.0 in
    (w.0, w.1, search rules, search rules)
