-- The test of a head says that it is legal, and a legal head passes it. Assumes nothing.
use mathlib.Core.Path.{◌≡◌}
use mathlib.Core.Bool.{true}
use Prim.Native.Nat.{ℕ, ◌≤◌}
use native.Mathlib.Omega.{arith}
use borrow.Author.Tests.{le-leb, leb-true}
use lib.Dec.{leb}
use Rattle.buffers.proofs.Tests.{and_fst, and_snd, and-true}
use Rattle.rules.specs.Record.{LegalHead, legal_head}

pub head-legal : (level boundary : ℕ) → legal_head level boundary ≡ true → LegalHead level boundary
unfolding legal_head
head-legal level boundary e = record {
  levels = leb-true level 511 (and_fst (leb level 511) (leb boundary 127) e);
  boundaries = leb-true boundary 127 (and_snd (leb level 511) (leb boundary 127) e);
}

pub legal_head_lem : (level boundary : ℕ) → LegalHead level boundary → legal_head level boundary ≡ true
unfolding legal_head
legal_head_lem level boundary h = and-true (le-leb _ _ h.levels) (le-leb _ _ h.boundaries)

-- A head that was legal under document 01 (level 0..254; boundary 0..127, 0 at level 0) is legal.
pub head-kept : (level boundary : ℕ) → level ≤ 254 → boundary ≤ 127 → (level ≡ 0 → boundary ≡ 0) → LegalHead level boundary
head-kept level boundary h g _ = record { levels = omega arith; boundaries = g }
