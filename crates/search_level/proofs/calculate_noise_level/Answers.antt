use mathlib.Core.Path.{◌≡◌, refl, sym, subst, ◌∙◌}
use Prim.Native.Nat.{ℕ, ◌≤◌, ◌<◌, ◌+◌, ◌-◌, ◌*◌}
use native.Mathlib.Omega.{arith}
use Rattle.buffers.specs.Walk.{AtMost}
use borrow.Author.Rules.{rules}
use Rattle.rules.specs.Level.{noise_level}
use Rattle.rules.proofs.Levels.{remove-done, remove_stop, remove-turn}
use Rattle.search_level.proofs.Cleared.{clear-most}
use Rattle.search_level.proofs.calculate_noise_level.Goals as goal

-- a removal more, of those that 128 bands allow
module _ (pairs top : ℕ) (few : 2 * pairs + top ≤ 128) (more : 3 ≤ top) where
  still_few : 2 * (pairs + 1) + (top - 2) ≤ 128
  still_few = omega arith

  one_left : 0 < 64 - pairs
  one_left = omega arith

  one_less : 64 - pairs - 1 ≡ 64 - (pairs + 1)
  one_less = omega arith

pub loop-found-init : goal.loop-found-init
unfolding noise_level
loop-found-init c = (refl, search rules, c.requires.stretched.2, refl)

pub returns-in-Some-clause-ok : goal.returns-in-Some-clause-ok
returns-in-Some-clause-ok c =
    let f = c.in-Some.ensures.some in
    let i = c.loop-found.invariant in
    let e = i.3 ∙ remove-done _ _ _ _ _ _ (subst (λ n. n ≤ 254) f.0 f.1) in
    rw e (f.0, f.1, refl, f.2, f.3)

pub returns-in-Some-clause-factors_left : goal.returns-in-Some-clause-factors_left
returns-in-Some-clause-factors_left c =
    let f = c.in-Some.ensures.some in
    let i = c.loop-found.invariant in
    let e = i.3 ∙ remove-done _ _ _ _ _ _ (subst (λ n. n ≤ 254) f.0 f.1) in
    rw e (refl, i.2)

pub returns-then-top-lt3-clause-err : goal.returns-then-top-lt3-clause-err
returns-then-top-lt3-clause-err c =
    let e = c.loop-found.invariant.3 ∙ remove_stop _ _ _ _ _ _ (omega arith) in
    rw e (c.in_default.ensures.none refl, refl)

pub returns-then-top-lt3-clause-factors_left : goal.returns-then-top-lt3-clause-factors_left
returns-then-top-lt3-clause-factors_left c =
    let i = c.loop-found.invariant in
    let e = i.3 ∙ remove_stop _ _ _ _ _ _ (omega arith) in
    rw e (refl, i.2)

pub loop-found-preserved : goal.loop-found-preserved
loop-found-preserved c =
    let i = c.loop-found.invariant in
    let l = c.loop-found in
    let more : 3 ≤ l.top = omega arith in
    let none : 254 < _ = omega (arith, c.in_default.ensures.none refl) in (
      c.clear_pair.auto.factors ∙ i.0,
      still_few l.pairs l.top i.1 more,
      subst (λ fs. AtMost 63 fs) (sym c.clear_pair.ensures) (clear-most 63 _ l.factors _ i.2),
      i.3
          ∙ (remove-turn _ _ _ _ _ _ none more
          (one_left l.pairs l.top i.1 more) ∙ rw (one_less l.pairs l.top i.1 more, ← c.clear_pair.ensures)),
    )
