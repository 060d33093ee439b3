-- `crc::entry` meets its contract: the table is the checksums of all bytes, as antt computes them.
-- Assumes nothing.
use mathlib.Core.List.{[], ◌∷◌}
use Prim.Native.Nat.{ℕ}
use native.Mathlib.Omega.{arith}
use Rattle.bits.specs.Bits.{bits, value, bits_of}
use Rattle.buffers.specs.Walk.{build}
use Rattle.buffers.proofs.Build.{build-at}
use Rattle.crc.specs.Check.{checksum}
use Rattle.crc.proofs.entry.Goals as goal

pub returns : goal.returns
unfolding build checksum value bits_of bits
returns c = build-at (λ (n : ℕ). checksum (n ∷ [])) 256 c.args.n 0 (omega arith)
