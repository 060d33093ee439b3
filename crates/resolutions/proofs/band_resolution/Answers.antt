-- `resolutions::band_resolution` meets its contract. Assumes nothing.
use mathlib.Core.Path.{◌∙◌, ap}
use Prim.Native.Nat.{ℕ}
use native.Mathlib.Omega.{arith}
use borrow.Author.Tests.{lt-ltb, le-ltb}
use Rattle.rules.specs.Resolution.{resolution}
use Rattle.resolutions.proofs.band_resolution.Goals as goal

pub returns-then-band-coded : goal.returns-then-band-coded
returns-then-band-coded c =
    let a = c.args in (
      rw (lt-ltb _ _ c.if-band-coded.true)
          (c.calculate_resolution.ensures.0 ∙ ap (λ (n : ℕ). resolution a.layout n a.factor) c.noise_at.ensures.0),
      c.calculate_resolution.ensures.1,
    )

pub returns-else-band-coded : goal.returns-else-band-coded
returns-else-band-coded c = (rw (le-ltb _ _ c.if-band-coded.false), omega arith)
