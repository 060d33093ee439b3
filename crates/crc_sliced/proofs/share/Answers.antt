-- `crc_sliced::share` meets its contract: the 8 x 256 numbers are the checksums that antt computes.
-- Assumes nothing.
use mathlib.Core.Path.{ap, ◌∙◌}
use mathlib.Core.List.{List, [], ◌∷◌}
use Prim.Native.Nat.{ℕ}
use native.Mathlib.Omega.{arith}
use lib.ListN.{get_or, replicate}
use Rattle.bits.specs.Bits.{bits, value, bits_of}
use Rattle.buffers.specs.Walk.{build}
use Rattle.buffers.proofs.Build.{build-at}
use Rattle.crc.specs.Check.{checksum}
use Rattle.crc_sliced.proofs.share.Goals as goal

slice : ℕ → List ℕ
slice k = build (λ (n : ℕ). checksum (n ∷ replicate k 0)) 256

pub returns : goal.returns
unfolding slice build checksum value bits_of bits
returns c =
    ap (λ (xs : List ℕ). get_or xs c.args.n 0) (build-at slice 8 c.args.k [] c.requires)
    ∙ build-at (λ (n : ℕ). checksum (n ∷ replicate c.args.k 0)) 256 c.args.n 0 (omega arith)
