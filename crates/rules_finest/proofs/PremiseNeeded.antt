-- The premise cannot be dropped: in the Rust's mode, with values at the upper clip, refusal 5 comes though a level fits, a finer level stays unused, and so
-- does a larger boundary. In held mode the first two have the finest. Assumes nothing.
use mathlib.Core.Path.{◌≡◌, refl, ◌∙◌, ap, ap₂}
use mathlib.Core.List.{List, [], ◌∷◌, ◌++◌}
use mathlib.Core.Logic.{inl, inr}
use mathlib.Core.Bool.{Bool, true, not}
use Prim.Native.Nat.{ℕ, ◌+◌, ◌*◌, ◌≤◌, ◌<◌}
use native.Mathlib.Omega.{arith}
use borrow.Author.Tests.{not-true}
use lib.Ieee.{Float, nan, of_bits, neg, eq}
use lib.ListN.{take, get_or, replicate}
use lib.Seq.{take_all}
use Rattle.buffers.specs.Walk.{every}
use Rattle.buffers.proofs.Every.{every-at}
use Rattle.floats.specs.Single.{zero_f}
use Rattle.rules.specs.Layout.{spectrum_length, factor_length, frame_size, coded_count_at, kind_at, part}
use Rattle.rules.specs.Factor.{all_factors}
use Rattle.rules.specs.Scaling.{clip, all_scaled}
use Rattle.rules.specs.Estimate.{used_bits}
use Rattle.rules.specs.Refusals.{delivered, refused}
use Rattle.rules.specs.Stage.{StageLent}
use Rattle.rules.specs.declared.Mode.TheVariants.{Held}
use Rattle.rules_demands.specs.Pairs.{after_pairs}
use Rattle.rules_demands.proofs.Pairs.{factors_of, scaled_of, factors_left_lem}
use Rattle.rules_demands.proofs.Buffers.{scaled_left_lem}
use Rattle.rules_worked.proofs.Runs.{Example, Right, lent}
use Rattle.rules_worked.proofs.Worked.{left}
use Rattle.rules_worked.proofs.Unordered.{refused_rust, refused_held, coarser_rust, finest_held, mixture_rust, unordered_right, refused_rust_lem, refused_held_lem}
use Rattle.rules_worked.proofs.Unordered.{coarser_rust_lem, finest_held_lem, mixture_rust_lem, estimates}
use Rattle.rules_finest.specs.Finest.{Fits, Unclipped, Ordered}
use Rattle.rules_finest.proofs.Finest.{Finest, NowhereFits, finest_delivered, five_no_level_fits}

-- ---- what an input makes of its call
abbrev called : (e : Example) → StageLent
called e = lent e.layout e.spectra

abbrev scaled_left : (e : Example) → List Float
scaled_left e = take (spectrum_length e.layout) (left e).scaled

abbrev factors_left : (e : Example) → List ℕ
factors_left e = take (factor_length e.layout) (left e).factors

module _ (e : Example) (r : Right e) where
  whole : take (spectrum_length e.layout) e.spectra ≡ e.spectra
  whole = take_all (spectrum_length e.layout) e.spectra (omega (arith, ap (λ w. w.size) r))

  factors_made : factors_of e.layout (called e) ≡ e.factors
  factors_made = ap (all_factors e.layout) whole ∙ ap (λ w. w.factors) r

  scaled_made : scaled_of e.layout (called e) ≡ e.analysis.scaled
  scaled_made = ap₂ (all_scaled e.layout) whole factors_made ∙ ap (λ w. w.analysis.scaled) r

  -- a row of the estimate says what fits, of the call
  fits_made : (level boundary n : ℕ) → used_bits e.layout e.analysis.scaled e.factors level boundary ≡ n → n ≤ 8 * frame_size e.layout
      → Fits e.layout (scaled_of e.layout (called e)) (factors_of e.layout (called e)) level boundary
  unfolding Fits
  fits_made level boundary n row h = rw (scaled_made, factors_made, row) h

  -- and of the buffers that it left, where no pair was removed
  fits-left : (level boundary n v b m : ℕ) → used_bits e.layout e.analysis.scaled e.factors level boundary ≡ n → n ≤ 8 * frame_size e.layout
      → (left e).outcome ≡ delivered (v ∷ b ∷ 0 ∷ m ∷ []) → Fits e.layout (scaled_left e) (factors_left e) level boundary
  unfolding after_pairs
  fits-left level boundary n v b m row h o =
      rw (scaled_left_lem e.layout (called e) (v ∷ b ∷ 0 ∷ m ∷ []) o, factors_left_lem e.layout (called e) v b 0 m o) (fits_made level boundary n row h)

-- a place in a row
entry : {xs ys : List ℕ} (k : ℕ) → xs ≡ ys → get_or xs k 0 ≡ get_or ys k 0
entry k e = ap (λ xs. get_or xs k 0) e

-- ---- THE RUST'S MODE: refusal 5, though level 202 fits before any removal; level 209, though 202 fits; boundary 0, though 4 fits
pub premise_needed :
    (((left refused_rust).outcome ≡ refused 5 0)
    × Fits refused_rust.layout (scaled_of refused_rust.layout (called refused_rust)) (factors_of refused_rust.layout (called refused_rust)) 202 0)
    × (((left coarser_rust).outcome ≡ delivered (209 ∷ 0 ∷ 0 ∷ 41 ∷ []))
    × Fits coarser_rust.layout (scaled_left coarser_rust) (factors_left coarser_rust) 202 0)
    × (((left mixture_rust).outcome ≡ delivered (206 ∷ 0 ∷ 0 ∷ 113 ∷ []))
    × Fits mixture_rust.layout (scaled_left mixture_rust) (factors_left mixture_rust) 206 4)
premise_needed = (
  (refused_rust_lem, fits_made refused_rust unordered_right.0 202 0 57 (entry 0 estimates.0) (omega arith)),
  (coarser_rust_lem, fits-left coarser_rust unordered_right.2 202 0 57 209 0 41 (entry 0 estimates.2) (omega arith) coarser_rust_lem),
  (mixture_rust_lem, fits-left mixture_rust unordered_right.4 206 4 129 206 0 113 (entry 2 estimates.4) (omega arith) mixture_rust_lem),
)

-- ---- HELD MODE: refusal 5, and no level fits; level 213, the least
held_ordered : (e : Example) → e.layout.mode ≡ Held → (scaled : List Float) → Ordered e.layout scaled
unfolding Ordered
held_ordered e q scaled = inl q

pub held_finest :
    (((left refused_held).outcome ≡ refused 5 0) × NowhereFits refused_held.layout (called refused_held))
    × (((left finest_held).outcome ≡ delivered (213 ∷ 0 ∷ 0 ∷ 57 ∷ []))
    × Finest finest_held.layout (scaled_left finest_held) (factors_of finest_held.layout (called finest_held)) (factors_left finest_held) 213 0 0)
held_finest = (
  (refused_held_lem, ((five_no_level_fits refused_held.layout (called refused_held) (held_ordered refused_held refl _) 0).0 refused_held_lem).1),
  (finest_held_lem, finest_delivered finest_held.layout (called finest_held) 213 0 0 57 finest_held_lem (held_ordered finest_held refl _)),
)

-- ---- the lower clip is let in: where a band lies there throughout, the premise holds in the Rust's mode too
abbrev lowest : List Float
lowest = replicate 8 (neg clip) ++ replicate 1016 zero_f

abbrev not_upper : ℕ → Bool
not_upper s = not (eq (get_or (part 1024 lowest 0) (0 * 8 + s) nan) clip)

none_upper : every not_upper 8 ≡ true
unfolding every eq of_bits neg
none_upper = refl

pub lower_clip_ordered : Ordered refused_rust.layout lowest
unfolding Ordered Unclipped coded_count_at kind_at
lower_clip_ordered =
    inr
    (λ c b s hc hb hs.
    let z : c ≡ 0 = omega arith in
    let few : b < 1 = rw z at hb in
    let y : b ≡ 0 = omega arith in
    rw (z, y) (not-true _ (every-at not_upper 8 s none_upper hs)))
