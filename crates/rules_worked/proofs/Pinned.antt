-- What the stage leaves in the buffers of worked inputs: side values by HFR, scaled values, factors and codes. Assumes nothing.
use mathlib.Core.Path.{◌≡◌, ap}
use mathlib.Core.List.{◌∷◌, ◌++◌}
use native.Mathlib.Omega.{arith}
use lib.IntN.{pos}
use lib.Ieee.{binary32, of_bits}
use lib.ListN.{replicate}
use Rattle.floats.specs.Single.{zero_f}
use Rattle.rules.specs.Stage.{StageLeft, delivery}
use Rattle.rules_worked.proofs.Runs.{run_delivered}
use Rattle.rules_worked.proofs.Inputs.{loud, coarse, removed, hfr, right}
use Rattle.rules_worked.proofs.Worked.{left}

-- HFR: one group, whose average of 0.0625 is multiplied by SQRT_2, has scale 47; the rest of side is 0
pub hfr-side : (left hfr).side ≡ 47 ∷ replicate 7 0
unfolding delivery
hfr-side = ap (λ (x : StageLeft). x.side) (run_delivered hfr right.7 (omega arith) (omega arith))

-- Scaling: 1.0 with factor 55, and the value of the second subframe, by band and subframe; 0.0 past the coded bands
pub loud-scaled :
    (left loud).scaled
    ≡ of_bits binary32 0x3F60CCE0 ∷ replicate 7 zero_f ++ (of_bits binary32 0x3F60CCE0 ∷ of_bits binary32 0xBD042108 ∷ replicate 1014 zero_f)
unfolding delivery
loud-scaled = ap (λ (x : StageLeft). x.scaled) (run_delivered loud right.4 (omega arith) (omega arith))

-- Scale factor, and Code, by subframe and band
pub loud-factors : (left loud).factors ≡ 55 ∷ 55 ∷ replicate 126 0
unfolding delivery
loud-factors = ap (λ (x : StageLeft). x.factors) (run_delivered loud right.4 (omega arith) (omega arith))

pub loud-codes : (left loud).codes ≡ pos 28 ∷ pos 14 ∷ replicate 1022 (pos 0)
unfolding delivery
loud-codes = ap (λ (x : StageLeft). x.codes) (run_delivered loud right.4 (omega arith) (omega arith))

-- the same with the highest resolution 8
pub coarse-codes : (left coarse).codes ≡ pos 14 ∷ pos 14 ∷ replicate 1022 (pos 0)
unfolding delivery
coarse-codes = ap (λ (x : StageLeft). x.codes) (run_delivered coarse right.9 (omega arith) (omega arith))

-- Removal: the factors of the pair are 0, the scaled values stay
pub removed-factors : (left removed).factors ≡ replicate 128 0
unfolding delivery
removed-factors = ap (λ (x : StageLeft). x.factors) (run_delivered removed right.6 (omega arith) (omega arith))

pub removed-scaled :
    (left removed).scaled ≡ replicate 8 zero_f ++ (of_bits binary32 0x3F60CCE0 ∷ replicate 7 zero_f ++ (of_bits binary32 0x3F60CCE0 ∷ replicate 1007 zero_f))
unfolding delivery
removed-scaled = ap (λ (x : StageLeft). x.scaled) (run_delivered removed right.6 (omega arith) (omega arith))
