-- Document 01's worked numbers, on the stage itself. Assumes nothing.
use mathlib.Core.Path.{◌≡◌, ap}
use mathlib.Core.List.{[], ◌∷◌}
use native.Mathlib.Omega.{arith}
use Rattle.rules.specs.Refusals.{delivered, refused}
use Rattle.rules.specs.Stage.{StageLeft, encode_frame}
use Rattle.rules_worked.proofs.Runs.{Example, lent, run_outcome, run_none, run_frame}
use Rattle.rules_worked.proofs.Inputs.{five, six, secondary, quiet, loud, coarse, fine, later, removed, hfr, right}
use Rattle.rules_worked.proofs.Inputs.{frames, five_bytes, quiet_bytes, loud_bytes, coarse_bytes, later_bytes}

-- what the stage leaves on an example's spectra
abbrev pub left : Example → StageLeft
left e = encode_frame e.layout (lent e.layout e.spectra)

-- zero spectra, base = total = 1, F = 8, all Discrete: 5 channels pass at level 0 with 47 bits, 6 are refused (5, 0 pairs)
pub five-delivered : (left five).outcome ≡ delivered (0 ∷ 0 ∷ 0 ∷ 47 ∷ [])
five-delivered = run_outcome five right.0 (omega arith) (omega arith)

pub six-refused : (left six).outcome ≡ refused 5 0
six-refused = ap (λ x. x.outcome) (run_none six right.1 (omega arith))

-- further inputs: a secondary with three bands, two loud bands with a boundary between them, later subframes too, a pair removed, an HFR band
pub secondary-refused : (left secondary).outcome ≡ refused 5 1
secondary-refused = ap (λ x. x.outcome) (run_none secondary right.2 (omega arith))

pub loud-delivered : (left loud).outcome ≡ delivered (173 ∷ 1 ∷ 0 ∷ 116 ∷ [])
loud-delivered = run_outcome loud right.4 (omega arith) (omega arith)

pub later-delivered : (left later).outcome ≡ delivered (173 ∷ 1 ∷ 0 ∷ 120 ∷ [])
later-delivered = run_outcome later right.5 (omega arith) (omega arith)

pub removed-delivered : (left removed).outcome ≡ delivered (0 ∷ 0 ∷ 1 ∷ 35 ∷ [])
removed-delivered = run_outcome removed right.6 (omega arith) (omega arith)

pub hfr-delivered : (left hfr).outcome ≡ delivered (142 ∷ 0 ∷ 0 ∷ 120 ∷ [])
hfr-delivered = run_outcome hfr right.7 (omega arith) (omega arith)

-- the spectra of `loud` under the pairs 1, 8 and 9, 15 (request A8)
pub coarse-delivered : (left coarse).outcome ≡ delivered (0 ∷ 0 ∷ 0 ∷ 108 ∷ [])
coarse-delivered = run_outcome coarse right.9 (omega arith) (omega arith)

pub fine-refused : (left fine).outcome ≡ refused 5 0
fine-refused = ap (λ x. x.outcome) (run_none fine right.10 (omega arith))

-- their frames
pub five-frame : (left five).frame ≡ five_bytes
five-frame = run_frame five right.0 _ frames.0 (omega arith) (omega arith)

pub quiet_frame : (left quiet).frame ≡ quiet_bytes
quiet_frame = run_frame quiet right.3 _ frames.1 (omega arith) (omega arith)

pub loud_frame_lem : (left loud).frame ≡ loud_bytes
loud_frame_lem = run_frame loud right.4 _ frames.2 (omega arith) (omega arith)

pub coarse-frame : (left coarse).frame ≡ coarse_bytes
coarse-frame = run_frame coarse right.9 _ frames.5 (omega arith) (omega arith)

pub later-frame : (left later).frame ≡ later_bytes
later-frame = run_frame later right.5 _ frames.3 (omega arith) (omega arith)
