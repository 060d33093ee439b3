-- A turn of each loop of a pair, as a step of the definition that it follows. Assumes nothing.
use mathlib.Core.Path.{◌≡◌, ap, ap₂, ◌∙◌}
use mathlib.Core.List.{List}
use Prim.Native.Nat.{ℕ, suc, ◌+◌, ◌-◌, ◌*◌, ◌≤◌}
use native.Mathlib.Numerals.{add-one}
use native.Mathlib.Omega.{arith}
use lib.Ieee.{Float, binary32, mul}
use lib.ListN.{set}
use Rattle.floats.specs.Single.{zero_f}
use Rattle.rules_stereo.specs.Mixed.{both_values, energies, Signal, signal, intensity_of, ratio_of, mixing_of}
use Rattle.rules_stereo.specs.Mixed.{band_mixed, bands_mixed, energies_at, subframe_mixed, subframes_mixed}
use Rattle.rules_stereo.specs.declared.Energies.{Energies}
use Rattle.rules_stereo.specs.declared.Mixing.{Mixing}
use Rattle.rules.specs.declared.Layout.{Layout}

-- one band more
pub bands_more : (ratio : Float) (at i : ℕ) (xs ys : List Float) → at ≤ i → ys ≡ bands_mixed ratio at (i - at) xs
    → set (set ys i (mul binary32 (both_values ys i) ratio)) (1024 + i) zero_f ≡ bands_mixed ratio at (i + 1 - at) xs
unfolding bands_mixed band_mixed
bands_more ratio at i xs ys h e =
    let z : i + 1 - at ≡ suc (i - at) = omega arith in
    let b : at + (i - at) ≡ i = omega arith in
    rw (z, b) (ap (λ (zs : List Float). set (set zs i (mul binary32 (both_values zs i) ratio)) (1024 + i) zero_f) e)

-- one subframe more
module _ (l : Layout) (s n : ℕ) (xs ys : List Float) (is : List ℕ) (p : Signal) (e : Energies) (q : Mixing) where
  abbrev at : ℕ
  at = s * 128 + l.base

  pub subframe_more : n ≡ l.total - l.base → signal xs is ≡ subframes_mixed l s p → e ≡ energies xs at n → q ≡ mixing_of e → ys ≡ bands_mixed q.ratio at n xs
      → signal ys (set is s q.value) ≡ subframes_mixed l (s + 1) p
  unfolding subframes_mixed subframe_mixed energies_at mixing_of
  subframe_more h w d m y =
      let u : e ≡ energies xs at (l.total - l.base) = rw h at d in
      let z : ys ≡ bands_mixed (ratio_of (energies xs at (l.total - l.base))) at (l.total - l.base) xs = rw (h, m, u) at y in
      let v : q.value ≡ intensity_of (energies xs at (l.total - l.base)) = ap (λ (k : Mixing). k.value) m ∙ ap intensity_of u in
      rw (add-one s, ← w) (ap₂ signal z (ap (set is s) v))
