-- `resolutions::noise_curve::noise_at` meets its contract. Assumes nothing.
use native.Mathlib.Omega.{arith}
use borrow.Author.Tests.{lt-ltb, le-ltb}
use Rattle.rules.specs.Resolution.{noise_at}
use Rattle.resolutions.proofs.noise_curve.noise_at.Goals as goal

pub returns-then-band-boundary : goal.returns-then-band-boundary
unfolding noise_at
returns-then-band-boundary c = (rw (lt-ltb _ _ c.if-band-boundary.true) (omega arith), omega arith)

pub returns-else-band-boundary : goal.returns-else-band-boundary
unfolding noise_at
returns-else-band-boundary c = (rw (le-ltb _ _ c.if-band-boundary.false), omega arith)
