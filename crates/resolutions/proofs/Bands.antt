-- Resolutions are at most 15, a channel has 128, and those of its coded bands are the record's. Assumes nothing.
use mathlib.Core.Path.{◌≡◌, sym, ◌∙◌, ap}
use mathlib.Core.List.{List}
use Prim.Native.Nat.{ℕ, ◌≤◌, zero-le}
use native.Mathlib.Omega.{arith}
use borrow.Author.Tests.{lt-ltb}
use lib.Dec.{eqb, ltb}
use lib.ListN.{length, take}
use lib.Seq.{get_or-take, length-take-le}
use Rattle.buffers.specs.Walk.{build, AtMost}
use Rattle.buffers.proofs.Tests.{cond_bound}
use Rattle.buffers.proofs.Build.{length-build, build-at, build-of, map-build}
use Rattle.buffers.proofs.Most.{build-most, blocks-most}
use Rattle.rules.specs.Layout.{LegalLayout, coded_count_at, part, factor_length}
use Rattle.rules.specs.Resolution.{noise_at, resolution_in, resolution, resolution_at, resolutions_of, band_resolution, channel_resolutions, all_resolutions}
use Rattle.rules.specs.Record.{Chan, resolutions, chan_of}
use Rattle.resolutions.specs.Coded.{coded_resolutions}
use Rattle.rules.specs.declared.Layout.{Layout}
use Rattle.rules.proofs.Bands.{resolutions_at, resolutions-part}
use Rattle.rules.proofs.Cuts.{build-same, length_part}
use Rattle.rules.proofs.Layouts.{coded-few}

pub resolution-le : (l : Layout) → LegalLayout l → (noise factor : ℕ) → resolution l noise factor ≤ 15
unfolding resolution resolution_in
resolution-le l z noise factor = cond_bound (eqb factor 0) (λ _. zero-le) (λ _. omega arith)

pub band-le : (l : Layout) → LegalLayout l → (level boundary : ℕ) (fs : List ℕ) (coded b : ℕ) → band_resolution l level boundary fs coded b ≤ 15
unfolding band_resolution resolution_at
band-le l z level boundary fs coded b = cond_bound (ltb b coded) (λ _. resolution-le l z _ _) (λ _. zero-le)

-- of a channel's 128 resolutions the coded ones are its coded factors'
coded_resolutions_lem : (l : Layout) (level boundary : ℕ) (fs : List ℕ) (coded : ℕ) → length fs ≡ 128 → coded ≤ 128
    → take coded (channel_resolutions l level boundary fs coded) ≡ resolutions_of l level boundary (take coded fs)
unfolding channel_resolutions resolutions_of band_resolution resolution_at
coded_resolutions_lem l level boundary fs coded e h =
    let n : length (take coded fs) ≡ coded = length-take-le coded fs (omega arith) in
    let f : ℕ → ℕ = band_resolution l level boundary fs coded in
    let m : length (take coded (build f 128)) ≡ coded = length-take-le coded (build f 128) (omega (arith, length-build f 128)) in
    rw n
    (build-of (resolution_at l level boundary (take coded fs)) coded 0 (take coded (build f 128)) m
    (λ i lt. get_or-take coded (build f 128) i 0 lt
    ∙ build-at f 128 i 0 (omega arith)
    ∙ rw (lt-ltb i coded lt) (ap (resolution l (noise_at level boundary i)) (sym (get_or-take coded fs i 0 lt)))))

-- the resolutions of all bands
module _ (l : Layout) (level boundary : ℕ) (factors : List ℕ) where
  pub resolutions-most : LegalLayout l → AtMost 15 (all_resolutions l level boundary factors)
  unfolding all_resolutions channel_resolutions
  resolutions-most z =
      blocks-most 15 (resolutions_at l level boundary factors)
      (λ c. build-most 15 (band_resolution l level boundary (part 128 factors c) (coded_count_at l c)) (band-le l z _ _ _ _) 128) l.channels

  -- those of the coded bands are those of the record in the buffers
  pub resolutions_are : (side : List ℕ) → LegalLayout l → length factors ≡ factor_length l
      → build (coded_resolutions l (all_resolutions l level boundary factors)) l.channels
      ≡ resolutions l level boundary (build (chan_of l factors side) l.channels)
  resolutions_are side z e =
      build-same _ (λ c. resolutions_of l level boundary (take (coded_count_at l c) (part 128 factors c))) l.channels
      (λ c h. ap (take (coded_count_at l c)) (resolutions-part l level boundary factors c h)
      ∙ coded_resolutions_lem l level boundary (part 128 factors c) (coded_count_at l c) (length_part 128 l.channels c factors (omega arith) h) (coded-few l z c))
      ∙ sym (map-build (λ (c : Chan). resolutions_of l level boundary c.factors) (chan_of l factors side) l.channels)
