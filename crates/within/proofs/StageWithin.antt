-- What the stage counts is within the clip: of finite spectra, and so of a call that refusals 1 to 4 let pass, every scaled value. Assumes nothing.
use mathlib.Core.Path.{◌≡◌, sym, ap, ◌∙◌, subst}
use mathlib.Core.Bool.{false, not, cond}
use mathlib.Core.List.{List}
use Prim.Native.Nat.{ℕ, ◌+◌, ◌*◌, ◌/◌, ◌%◌, ◌≤◌, ◌<◌}
use native.Mathlib.Nat.{div-add-mod', mod-lt}
use native.Mathlib.Omega.{arith}
use borrow.Author.Tests.{not-false}
use lib.Dec.{T, ltb}
use lib.Ieee.{Float, nan}
use lib.Ieee.Scale.{finite}
use lib.ListN.{length, get_or, take, drop}
use lib.Seq.{get_or-take, get_or-drop}
use Rattle.buffers.specs.Walk.{blocks}
use Rattle.buffers.proofs.Build.{length-build, build-at}
use Rattle.buffers.proofs.Tests.{cond_both}
use Rattle.buffers.proofs.Blocks.{length-blocks}
use Rattle.floats.specs.Single.{zero_f}
use Rattle.rules.specs.Layout.{spectrum_length, coded_count_at, part}
use Rattle.rules.specs.Factor.{all_factors, channel_factors, band_factor}
use Rattle.rules.specs.Scaling.{scaled_value, scaled_band, channel_scaled, all_scaled}
use Rattle.rules.specs.Stage.{StageLent, bad_spectrum}
use Rattle.rules.specs.declared.Layout.{Layout}
use Rattle.rules.proofs.Cuts.{row_end, block_part}
use Rattle.rules.proofs.Made.{band-held, factors-size, scaled-size}
use Rattle.rules_demands.proofs.Exactly.{Good}
use Rattle.rules_demands.proofs.Pairs.{scaled_of}
use Rattle.factors.specs.Finite.{AllFinite}
use Rattle.within.specs.Within.{Within, AllWithin}
use Rattle.within.proofs.HeldLaws.{ends, scaled-within}

-- a channel's value, by band and subframe
scaled_at_lem : (xs : List Float) (fs : List ℕ) (coded b s : ℕ) → b < 128 → s < 8
    → get_or (channel_scaled xs fs coded) (b * 8 + s) nan ≡ cond (ltb b coded) (scaled_value (get_or fs b 0) (get_or xs (s * 128 + b) nan)) zero_f
unfolding channel_scaled scaled_band
scaled_at_lem xs fs coded b s h g =
    let band : ℕ → List Float = scaled_band xs fs coded in
    let value : ℕ → Float = λ s. cond (ltb b coded) (scaled_value (get_or fs b 0) (get_or xs (s * 128 + b) nan)) zero_f in
    sym (get_or-take 8 (drop (b * 8) (blocks band 128)) s nan g ∙ get_or-drop (b * 8) (blocks band 128) s nan)
    ∙ ap (λ ys. get_or ys s nan) (block_part band 8 128 b (λ i _. length-build _ 8) h)
    ∙ build-at value 8 s nan g

-- of spectra that are finite
module _ (l : Layout) (spectra : List Float) (fine : (i : ℕ) → i < spectrum_length l → T (finite (get_or spectra i nan))) where
  abbrev factors : List ℕ
  factors = all_factors l spectra

  abbrev scaled : List Float
  scaled = all_scaled l spectra factors

  module _ (c b s : ℕ) (h : c < l.channels) (g : b < 128) (k : s < 8) where
    finite-at : T (finite (get_or (part 1024 spectra c) (s * 128 + b) nan))
    finite-at =
        let e = get_or-take 1024 (drop (c * 1024) spectra) (s * 128 + b) nan (omega arith) ∙ get_or-drop (c * 1024) spectra (s * 128 + b) nan in
        subst (λ x. T (finite x)) (sym e) (fine (c * 1024 + (s * 128 + b)) (omega (arith, row_end 1024 l.channels c h)))

    factor_at : get_or (part 128 factors c) b 0 ≤ 63
    unfolding all_factors channel_factors
    factor_at =
        let channel : ℕ → List ℕ = λ i. channel_factors (part 1024 spectra i) (coded_count_at l i) in
        let e = ap (λ xs. get_or xs b 0) (block_part channel 128 l.channels c (λ i _. factors-size _ _) h)
        ∙ build-at (band_factor (part 1024 spectra c) (coded_count_at l c)) 128 b 0 g in
        rw e (band-held (part 1024 spectra c) (coded_count_at l c) b)

    -- what 0.0 and the scaled values of finite spectra have, every scaled value has
    value_has : (P : Float → Type 0) → P zero_f → ((f : ℕ) → f ≤ 63 → (x : Float) → T (finite x) → P (scaled_value f x))
        → P (get_or (part 1024 scaled c) (b * 8 + s) nan)
    unfolding all_scaled
    value_has P zero each =
        let channel : ℕ → List Float = λ i. channel_scaled (part 1024 spectra i) (part 128 factors i) (coded_count_at l i) in
        let e = ap (λ xs. get_or xs (b * 8 + s) nan) (block_part channel 1024 l.channels c (λ i _. scaled-size _ _ _) h)
        ∙ scaled_at_lem (part 1024 spectra c) (part 128 factors c) (coded_count_at l c) b s g k in
        subst P (sym e) (cond_both P (ltb b (coded_count_at l c)) (λ _. each _ factor_at _ finite-at) (λ _. zero))

    value-within : Within (get_or (part 1024 scaled c) (b * 8 + s) nan)
    value-within = value_has Within ends.2 scaled-within

  scaled-long : length scaled ≡ spectrum_length l
  unfolding all_scaled
  scaled-long = length-blocks _ 1024 l.channels (λ i _. scaled-size _ _ _) l.channels (omega arith)

  by_place : AllWithin scaled
  unfolding AllWithin
  by_place i h =
      let c : ℕ = i / 1024 in
      let j : ℕ = i % 1024 in
      let p = div-add-mod' i 1024 in
      let q = div-add-mod' j 8 in
      let u : i % 1024 < 1024 = mod-lt i (omega arith) in
      let v : j % 8 < 8 = mod-lt j (omega arith) in
      let n : c < l.channels = omega (arith, scaled-long) in
      let b : j / 8 < 128 = omega arith in
      let e = get_or-take 1024 (drop (c * 1024) scaled) (j / 8 * 8 + j % 8) nan (omega arith) ∙ get_or-drop (c * 1024) scaled (j / 8 * 8 + j % 8) nan in
      let a : c * 1024 + (j / 8 * 8 + j % 8) ≡ i = omega arith in
      subst (λ k. Within (get_or scaled k nan)) a (subst Within e (value-within c (j / 8) (j % 8) n b v))

pub all-within : (l : Layout) (spectra : List Float) → AllFinite spectra → length spectra ≡ spectrum_length l
    → AllWithin (all_scaled l spectra (all_factors l spectra))
unfolding AllFinite
all-within l spectra f e = by_place l spectra (λ i h. f i (omega arith))

-- of a call that refusals 1 to 4 let pass
module _ (l : Layout) (t : StageLent) (good : Good l t) (c b s : ℕ) (h : c < l.channels) (g : b < 128) (k : s < 8) where
  passed : (i : ℕ) → i < spectrum_length l → T (finite (get_or (take (spectrum_length l) t.spectra) i nan))
  unfolding bad_spectrum
  passed i h =
      let x : Float = get_or t.spectra i nan in
      let f : not (finite x) ≡ false = good.spectra i h in
      subst (λ x. T (finite x)) (sym (get_or-take (spectrum_length l) t.spectra i nan h)) (subst T (sym (not-false (finite x) f)) tt)

  pub stage_value : (P : Float → Type 0) → P zero_f → ((f : ℕ) → f ≤ 63 → (x : Float) → T (finite x) → P (scaled_value f x))
      → P (get_or (part 1024 (scaled_of l t) c) (b * 8 + s) nan)
  stage_value = value_has l (take (spectrum_length l) t.spectra) passed c b s h g k

  -- so a band of the stage is counted by zones, never by the quantizer's marks
  pub stage_within : Within (get_or (part 1024 (scaled_of l t) c) (b * 8 + s) nan)
  stage_within = stage_value Within ends.2 scaled-within
