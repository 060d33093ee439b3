-- Of a call that refusals 1 to 4 let pass every scaled value is within the clip and a single; so where the request's premise holds, the bits of each coded
-- value rise with the resolution. Assumes nothing.
use mathlib.Core.Path.{sym, subst}
use mathlib.Core.List.{List}
use mathlib.Core.Logic.{inl, inr}
use Prim.Native.Nat.{ℕ, ◌+◌, ◌*◌, ◌<◌}
use native.Mathlib.Omega.{arith}
use lib.Dec.{T, eqb}
use lib.Ieee.{Float, nan, binary32, fits, neg, mul, lt}
use lib.Ieee.Bits.{of_bits-fits}
use lib.Ieee.Fits.{cond-fits, neg-fits, mul-fits}
use lib.ListN.{get_or}
use Rattle.floats.specs.Single.{held_f, zero_f}
use Rattle.rules.specs.Layout.{coded_count_at, part}
use Rattle.rules.specs.Scaling.{clip, scale_of, scaled_value}
use Rattle.rules.specs.Stage.{StageLent}
use Rattle.rules.specs.declared.Layout.{Layout}
use Rattle.rules.proofs.Layouts.{legal_sizes, coded-few}
use Rattle.rules_demands.proofs.Exactly.{Good}
use Rattle.rules_demands.proofs.Pairs.{scaled_of}
use Rattle.within.specs.Within.{Within}
use Rattle.within.proofs.StageWithin.{stage_value, stage_within}
use Rattle.rules_finest.specs.Finest.{Unclipped, Ordered}
use Rattle.rules_finest.proofs.Orders.{unreached}
use Rattle.rules_finest.proofs.Growth.{Whole, held_whole, unreached_whole, value_grows}
use Rattle.rules_finest.proofs.Falls.{Grows}

-- each coded value is within the clip, and a single
pub record Scaled (x : Float) : Type 0 where
  pub single : T (fits binary32 x)
  pub within : Within x

abbrev pub AllScaled : (l : Layout) (scaled : List Float) → Type 0
AllScaled l scaled = (channel band subframe : ℕ) → channel < l.channels → band < coded_count_at l channel → subframe < 8
    → Scaled (get_or (part 1024 scaled channel) (band * 8 + subframe) nan)

pub ordered_grows : (l : Layout) (scaled : List Float) → AllScaled l scaled → Ordered l scaled → Grows l scaled
unfolding Ordered Unclipped
ordered_grows l scaled all (inl e) c b s r hc hb hs =
    let x : Float = get_or (part 1024 scaled c) (b * 8 + s) nan in
    let v = all c b s hc hb hs in
    value_grows l.mode x v.single v.within (subst (λ m. Whole m x) (sym e) (held_whole x)) r
ordered_grows l scaled all (inr u) c b s r hc hb hs =
    let x : Float = get_or (part 1024 scaled c) (b * 8 + s) nan in
    let v = all c b s hc hb hs in
    value_grows l.mode x v.single v.within (unreached_whole l.mode x (unreached x v.within (u c b s hc hb hs))) r

-- ---- the stage's
zero-single : T (fits binary32 zero_f)
unfolding fits
zero-single = tt

scaled-single : (f : ℕ) (x : Float) → T (fits binary32 (scaled_value f x))
unfolding scaled_value held_f
scaled-single f x =
    let y : Float = mul binary32 x (scale_of f) in
    cond-fits binary32 (eqb f 0) zero_f _ zero-single
    (cond-fits binary32 (lt y (neg clip)) (neg clip) _ (neg-fits binary32 clip (of_bits-fits binary32 0x3F7FFFFE))
    (cond-fits binary32 (lt clip y) clip y (of_bits-fits binary32 0x3F7FFFFE) (mul-fits binary32 x (scale_of f))))

module _ (l : Layout) (t : StageLent) (good : Good l t) where
  pub stage_scaled : AllScaled l (scaled_of l t)
  stage_scaled c b s hc hb hs =
      let g : b < 128 = omega (arith, coded-few l (legal_sizes l good.layout) c) in
      record {
        single = stage_value l t good c b s hc g hs (λ x. T (fits binary32 x)) zero-single (λ f _ x _. scaled-single f x);
        within = stage_within l t good c b s hc g hs;
      }

  pub stage_grows : Ordered l (scaled_of l t) → Grows l (scaled_of l t)
  stage_grows = ordered_grows l (scaled_of l t) stage_scaled
