-- What is left once a refusal's buffers are cleared. Assumes nothing.
use Rattle.std.specs.Prelude.{Result, Ok, Err, is_err}
use mathlib.Core.Path.{◌≡◌, refl, sym}
use mathlib.Core.List.{List}
use mathlib.Core.Bool.{true, false}
use Prim.Native.Nat.{ℕ}
use lib.IntN.{ℤ, pos}
use lib.Ieee.{Float}
use lib.ListN.{length, replicate}
use Rattle.floats.specs.Single.{zero_f}
use Rattle.rules.specs.Refusals.{stage_outcome}
use Rattle.rules.specs.Stage.{stage_left, cleared}
use Rattle.rules.specs.declared.Layout.{Layout}
use Rattle.rules.specs.declared.Delivery.{Delivery}
use Rattle.rules.specs.declared.StageRefusal.{StageRefusal}
use Rattle.rules.specs.declared.StageRefusal.TheVariants as stage
use Rattle.stage.specs.Delivery.{ExactBuffers, wiped_by, wiped}

module _ (l : Layout) (sc : List Float) (co : List ℤ) (fa si fr : List ℕ) where
  refused-cleared : (e : StageRefusal) → wiped l (stage_left (Err e) sc co fa si fr) ≡ cleared l (stage_outcome (Err e))
  unfolding wiped wiped_by stage_outcome
  refused-cleared stage.BadLayout = refl
  refused-cleared stage.ShortBuffer = refl
  refused-cleared (stage.BadIntensity i) = refl
  refused-cleared (stage.BadSpectrum i) = refl
  refused-cleared (stage.NoLevel pairs) = refl
  refused-cleared (stage.TooLong bits) = refl

  -- a success stays
  pub wiped_stays : (a : Result Delivery StageRefusal) → is_err a ≡ false → stage_left a sc co fa si fr ≡ wiped l (stage_left a sc co fa si fr)
  unfolding wiped wiped_by stage_outcome
  wiped_stays (Ok d) h = refl
  wiped_stays (Err e) h = absurd (cc h)

  -- a refusal's buffers are zero
  pub wiped-cleared : (a : Result Delivery StageRefusal) (sc' : List Float) (co' : List ℤ) (fa' si' fr' : List ℕ) → is_err a ≡ true
      → ExactBuffers l (length sc) (length co) (length fa) (length si) (length fr)
      → sc' ≡ replicate (length sc) zero_f → co' ≡ replicate (length co) (pos 0) → fa' ≡ replicate (length fa) 0 → si' ≡ replicate (length si) 0 → fr'
      ≡ replicate (length fr) 0
      → stage_left a sc' co' fa' si' fr' ≡ wiped l (stage_left a sc co fa si fr)
  wiped-cleared (Ok d) sc' co' fa' si' fr' h z p q s t u = absurd (cc h)
  wiped-cleared (Err e) sc' co' fa' si' fr' h z p q s t u =
      rw (p, q, s, t, u, z.scaled, z.codes, z.factors, z.side, z.frame) (sym (refused-cleared e))
