use mathlib.Core.Path.{◌≡◌, refl, ap₂, ◌∙◌}
use mathlib.Core.List.{List}
use Prim.Native.Nat.{ℕ, ◌+◌}
use native.Mathlib.Numerals.{add-one}
use native.Mathlib.Omega.{arith}
use lib.ListN.{get_or}
use Rattle.widths.specs.Walks.{or_less, chosen_of}
use Rattle.widths.specs.declared.Width.{Width}
use Rattle.widths.proofs.chosen.Goals as goal

-- a width more, whose length is the one at its place
one_more : (lengths : List ℕ) (n i length : ℕ) (best next : Width) → length ≡ get_or lengths i 0 → best ≡ chosen_of lengths n i
    → next ≡ or_less (i + 1) length best → next ≡ chosen_of lengths n (i + 1)
unfolding chosen_of
one_more lengths n i length best next l b e = rw (add-one i) (e ∙ ap₂ (or_less (i + 1)) l b)

pub loop-i-init : goal.loop-i-init
unfolding chosen_of
loop-i-init c = (refl, omega arith, omega arith)

pub loop-i-preserved : goal.loop-i-preserved
loop-i-preserved c =
    let w = c.loop-i.invariant in
    let e = c.or_less-best.ensures in
    (one_more c.args.lengths _ c.loop-i.i _ _ _ (grind arith) w.0 e.0, e.1, omega (arith, e.2, w.2))
