-- `wav::samples::all_finite` meets its contract. Assumes nothing.
use mathlib.Core.Path.{refl, ◌∙◌}
use Prim.Native.Nat.{◌+◌, ◌*◌}
use native.Mathlib.Omega.{arith}
use borrow.Author.Tests.{ne_eqb}
use lib.Ieee.{binary32, of_bits}
use lib.Ieee.Scale.{finite}
use Rattle.std.proofs.Common.{rules}
use Rattle.std.proofs.lemmas.Iterator.{YieldsList-from_range}
use Rattle.std.proofs.lemmas.Iterator.Search.{all_from_yields_List}
use Rattle.rules_files.specs.Wav.{low_at, all_finite}
use Rattle.rules_files.proofs.Ranges.{all-range, every_same}
use Rattle.wav.proofs.Taking.{finite-whole, by_pattern}
use Rattle.wav.proofs.samples.all_finite.Goals as goal

pub returns-then-depth-ne32 : goal.returns-then-depth-ne32
returns-then-depth-ne32 c = rw (ne_eqb _ _ c.if-depth-ne32.true) (finite-whole _ _ _ _ c.if-depth-ne32.true)

pub returns-else-depth-ne32 : goal.returns-else-depth-ne32
unfolding all_finite
returns-else-depth-ne32 c =
    let s = c.args in
    all_from_yields_List (λ k. finite (of_bits binary32 (low_at s.wav.now (s.body + k * 4) 4))) _ _ c.all.result c.all.ensures.ran
    (YieldsList-from_range 0 s.count s.count refl (omega arith)) (λ x b q k. search rules)
    ∙ all-range _ s.count
    ∙ every_same _ _ s.count (λ k _. by_pattern s.wav.now s.depth s.body k _ c.if-depth-ne32.false refl)
