-- Where no scaled value of a coded band equals the upper clip the two modes are one: every code is in its range, so that nothing is held. Assumes nothing.
use mathlib.Core.Path.{◌≡◌, refl, sym, ap, ◌∙◌, fun_ext}
use mathlib.Core.List.{List}
use mathlib.Core.Option.{Option, none, some}
use mathlib.Core.Bool.{Bool, false, not, cond}
use Prim.Native.Nat.{ℕ, zero, suc, ◌+◌, ◌-◌, ◌*◌, ◌<◌}
use native.Mathlib.Omega.{arith}
use borrow.Author.Tests.{ltb-false, lt-ltb, le-ltb, not-false}
use lib.Dec.{ltb, eqb}
use lib.IntN.{pos, negsuc}
use lib.Ieee.{Float, nan, le}
use lib.ListN.{get_or, take}
use Rattle.buffers.proofs.Scan.{sum_same}
use Rattle.buffers.proofs.Tests.{cond_same, cond_both}
use Rattle.rules.specs.Signed.{held_z}
use Rattle.rules.specs.Layout.{legal_layout, kind_at, kinds_of, secondary_at, coded_count_at, side_count_at, group_count, bands_per_group, has_room, start_band, frame_size}
use Rattle.rules.specs.Layout.{spectrum_length, side_length, part}
use Rattle.rules.specs.Factor.{all_factors}
use Rattle.rules.specs.Scaling.{clip, all_scaled}
use Rattle.rules.specs.Hfr.{all_side, channel_side, scale_side, hfr_scale, spectrum_average, source_average}
use Rattle.rules.specs.Resolution.{resolution, resolution_at, resolutions_of, band_resolution, channel_resolutions, all_resolutions}
use Rattle.rules.specs.Code.{code_of, recorded_code, code_at, subframe_codes, channel_codes, all_codes}
use Rattle.rules.specs.Estimate.{value_bits, band_bits, channel_bits, header_bits, fixed_bits, spectral_bits, used_bits, exceeds}
use Rattle.rules.specs.Level.{LevelFound, level_of, clear_pair, remove, noise_level}
use Rattle.rules.specs.Boundary.{boundary_of}
use Rattle.rules.specs.Record.{rec_of}
use Rattle.rules.specs.Fields.{fields}
use Rattle.rules.specs.Frame.{frame_of, filled_fields}
use Rattle.rules.specs.Refusals.{Outcome}
use Rattle.rules.specs.Stage.{StageLent, StageLeft, Analysis, behind_gate, stage_room, stage_has_room, bad_intensity, gate, level_found, boundary_for}
use Rattle.rules.specs.Stage.{analysis, analysis_from, stage_record, delivery, after_packing, after_level, encode_frame}
use Rattle.rules.specs.declared.Mode.{Mode}
use Rattle.rules.specs.declared.Mode.TheVariants.{Rust, Held}
use Rattle.rules.specs.declared.Layout.{Layout}
use Rattle.rules.proofs.Bands.{resolutions-part, blank-band}
use Rattle.rules.proofs.Cuts.{by_order, build-same, blocks-same}
use Rattle.rules_demands.proofs.StageAnswers.{intensity_by, spectrum_by}
use Rattle.rules_demands.proofs.Exactly.{Good, first_passed}
use Rattle.rules_demands.proofs.Pairs.{factors_of, scaled_of}
use Rattle.rules_worked.proofs.Runs.{made_is}
use Rattle.within.proofs.ZoneLaws.{never_limited}
use Rattle.rules_finest.specs.Finest.{Unclipped}
use Rattle.rules_finest.proofs.Orders.{unreached}
use Rattle.rules_finest.proofs.Growth.{unreached_whole, wide_bits, counted}
use Rattle.rules_finest.proofs.StageGrows.{Scaled, stage_scaled}

-- the layout in another mode
abbrev pub in_mode : (mode : Mode) (l : Layout) → Layout
in_mode mode l = record {
  channels = l.channels;
  kinds = l.kinds;
  base = l.base;
  stereo = l.stereo;
  total = l.total;
  frame_size = l.frame_size;
  minimum = l.minimum;
  maximum = l.maximum;
  mode = mode;
}

-- ---- one value that does not reach the clip
module _ (x : Float) (v : Scaled x) (u : le clip x ≡ false) where
  bits_agree : (m n : Mode) (r : ℕ) → value_bits m r x ≡ value_bits n r x
  bits_agree m n r =
      by_order r 8
      (λ lt. omega (
        arith,
        counted m x v.single v.within (unreached_whole m x u) r lt,
        counted n x v.single v.within (unreached_whole n x u) r lt,
      ))
      (λ ge. wide_bits m r x ge ∙ sym (wide_bits n r x ge))

  held_code : (i : ℕ) → code_of Held (suc i) x ≡ code_of Rust (suc i) x
  unfolding code_of
  held_code i =
      by_order i 7
      (λ lt. rw (lt-ltb (suc i) 8 (omega arith)) (ap (held_z (negsuc 7) (pos 7)) (never_limited i lt x v.single v.within u)))
      (λ ge. rw (le-ltb (suc i) 8 (omega arith)))

  rust_code : (m : Mode) (r : ℕ) → recorded_code m r x ≡ recorded_code Rust r x
  unfolding recorded_code
  rust_code Rust r = refl
  rust_code Held zero = refl
  rust_code Held (suc i) = ap (cond (eqb (suc i) 0) (pos 0)) (held_code i)

  code_agrees : (m n : Mode) (r : ℕ) → recorded_code m r x ≡ recorded_code n r x
  code_agrees m n r = rust_code m r ∙ sym (rust_code n r)

-- a band of resolution 0
none_agrees : (m n : Mode) (x : Float) → recorded_code m 0 x ≡ recorded_code n 0 x
unfolding recorded_code
none_agrees m n x = refl

-- ---- the stage's rules that look at the mode
module _ (l : Layout) (t : StageLent) (m : Mode) (good : Good l t) (unclipped : Unclipped l (scaled_of l t)) where
  abbrev scaled : List Float
  scaled = scaled_of l t

  not_reached : (c b s : ℕ) → c < l.channels → b < coded_count_at l c → s < 8 → le clip (get_or (part 1024 scaled c) (b * 8 + s) nan) ≡ false
  unfolding Unclipped
  not_reached c b s hc hb hs = unreached _ (stage_scaled l t good c b s hc hb hs).within (unclipped c b s hc hb hs)

  spectral_agree : (fs : List ℕ) (level boundary : ℕ) → spectral_bits (in_mode m l) scaled fs level boundary ≡ spectral_bits l scaled fs level boundary
  unfolding spectral_bits channel_bits band_bits resolution_at resolution coded_count_at kind_at
  spectral_agree fs level boundary =
      sum_same _ _ l.channels
      (λ c hc. sum_same _ _ (coded_count_at l c)
      (λ b hb. sum_same _ _ 8
      (λ s hs. bits_agree _ (stage_scaled l t good c b s hc hb hs) (not_reached c b s hc hb hs) m l.mode _)))

  exceeds_agree : (fs : List ℕ) (level boundary : ℕ) → exceeds (in_mode m l) scaled fs level boundary ≡ exceeds l scaled fs level boundary
  unfolding exceeds used_bits fixed_bits header_bits coded_count_at kind_at side_count_at group_count bands_per_group
  exceeds_agree fs level boundary = ap (λ n. ltb (8 * frame_size l) (fixed_bits l fs + n)) (spectral_agree fs level boundary)

  codes_agree : (level boundary : ℕ) (fs : List ℕ)
      → all_codes (in_mode m l) (all_resolutions l level boundary fs) scaled ≡ all_codes l (all_resolutions l level boundary fs) scaled
  unfolding all_codes channel_codes subframe_codes code_at
  codes_agree level boundary fs =
      blocks-same _ _ l.channels (λ c hc. blocks-same _ _ 8 (λ s hs. build-same _ _ 128 (λ b hb. at c b s hc hb hs)))
    where
      at : (c b s : ℕ) → c < l.channels → b < 128 → s < 8
          → recorded_code m (get_or (part 128 (all_resolutions l level boundary fs) c) b 0) (get_or (part 1024 scaled c) (b * 8 + s) nan)
          ≡ recorded_code l.mode (get_or (part 128 (all_resolutions l level boundary fs) c) b 0) (get_or (part 1024 scaled c) (b * 8 + s) nan)
      at c b s hc hb hs =
          by_order b (coded_count_at l c)
          (λ lt. code_agrees _ (stage_scaled l t good c b s hc lt hs) (not_reached c b s hc lt hs) m l.mode _)
          (λ ge. rw (ap (λ rs. get_or rs b 0) (resolutions-part l level boundary fs c hc)
          ∙ blank-band l level boundary (part 128 fs c) (coded_count_at l c) b hb ge) (none_agrees m l.mode _))

  -- ---- the searches
  removal_agrees : (over : List ℕ → ℕ → Bool) (n top pairs : ℕ) (fs : List ℕ) → remove (in_mode m l) over n top pairs fs ≡ remove l over n top pairs fs
  unfolding remove clear_pair
  removal_agrees over zero top pairs fs = refl
  removal_agrees over (suc n) top pairs fs =
      cond_same (ltb 254 (level_of (over fs)))
      (λ _. cond_same (ltb top 3) (λ _. refl) (λ _. removal_agrees over n (top - 2) (pairs + 1) (clear_pair l fs (top - 2)))) (λ _. refl)

  found_agrees : (fs : List ℕ) → level_found (in_mode m l) scaled fs ≡ level_found l scaled fs
  unfolding noise_level
  found_agrees fs =
      removal_agrees _ 64 (start_band l) 0 fs
      ∙ ap (λ over. remove l over 64 (start_band l) 0 fs) (fun_ext (λ gs. fun_ext (λ level. exceeds_agree gs level 0)))

  boundary_agrees : (f : LevelFound) → boundary_for (in_mode m l) scaled f ≡ boundary_for l scaled f
  boundary_agrees f = ap (boundary_of f.level) (fun_ext (λ boundary. exceeds_agree f.factors f.level boundary))

  -- ---- what the rules make
  abbrev spectra : List Float
  spectra = take (spectrum_length l) t.spectra

  factors-same : all_factors (in_mode m l) spectra ≡ factors_of l t
  unfolding all_factors coded_count_at kind_at
  factors-same = refl

  scaled-same : all_scaled (in_mode m l) spectra (factors_of l t) ≡ scaled
  unfolding all_scaled coded_count_at kind_at
  scaled-same = refl

  side_same : (is : List ℕ) → all_side (in_mode m l) spectra scaled is ≡ all_side l spectra scaled is
  unfolding all_side channel_side secondary_at kind_at scale_side group_count bands_per_group hfr_scale spectrum_average source_average
  side_same is = refl

  resolutions-same : (level boundary : ℕ) (fs : List ℕ) → all_resolutions (in_mode m l) level boundary fs ≡ all_resolutions l level boundary fs
  unfolding all_resolutions channel_resolutions band_resolution resolution_at resolution coded_count_at kind_at
  resolutions-same level boundary fs = refl

  analysis_agrees : (is : List ℕ) → analysis (in_mode m l) spectra is ≡ analysis l spectra is
  unfolding analysis analysis_from
  analysis_agrees is =
      let f : LevelFound = level_found l scaled (factors_of l t) in
      let boundary : ℕ = boundary_for l scaled f in
      made_is (in_mode m l) spectra is (factors_of l t) scaled (all_side l spectra scaled is) f boundary
      (all_codes l (all_resolutions l f.level boundary f.factors) scaled) factors-same scaled-same (side_same is) (found_agrees (factors_of l t))
      (boundary_agrees f)
      (ap (λ rs. all_codes (in_mode m l) rs scaled) (resolutions-same f.level boundary f.factors) ∙ codes_agree f.level boundary f.factors)

-- ---- the call
module _ (l : Layout) (t : StageLent) (m : Mode) where
  packing_same : (a : Analysis) → after_level (in_mode m l) a ≡ after_level l a
  unfolding after_level after_packing delivery stage_record rec_of fields frame_of filled_fields kinds_of kind_at coded_count_at side_count_at group_count bands_per_group
      resolutions_of resolution_at resolution
  packing_same a = refl

  gate_same : gate (in_mode m l) (stage_room t) t.spectra t.intensities ≡ gate l (stage_room t) t.spectra t.intensities
  unfolding gate legal_layout stage_has_room has_room bad_intensity secondary_at kind_at
  gate_same = refl

  open_good : gate l (stage_room t) t.spectra t.intensities ≡ none → Good l t
  unfolding gate
  open_good =
      let P : Option Outcome → Type 0 = λ g. g ≡ none → Good l t in
      cond_both P (not (legal_layout l)) (λ _ e. shut e)
      (λ a. cond_both P (not (stage_has_room l (stage_room t))) (λ _ e. shut e)
      (λ b. cond_both P (ltb (intensity_by l t) (side_length l)) (λ _ e. shut e)
      (λ c. cond_both P (ltb (spectrum_by l t) (spectrum_length l)) (λ _ e. shut e)
      (λ d _. record {
        layout = not-false _ a;
        room = not-false _ b;
        intensities = first_passed _ _ (ltb-false _ _ c);
        spectra = first_passed _ _ (ltb-false _ _ d);
      }))))
    where
      shut : {A : Type 0} {o : Outcome} → some o ≡ none → A
      shut e = let z : ◌≡◌ {A = ℕ} 0 1 = cc e in absurd (omega arith)

  behind : (g : Option Outcome) (x y : StageLeft) → (g ≡ none → x ≡ y) → behind_gate g t x ≡ behind_gate g t y
  unfolding behind_gate
  behind (some o) x y h = refl
  behind none x y h = ap (behind_gate none t) (h refl)

  -- BOTH MODES leave the same answer and buffers, refused calls too.
  pub modes_agree : Unclipped l (scaled_of l t) → encode_frame (in_mode m l) t ≡ encode_frame l t
  unfolding encode_frame
  modes_agree unclipped =
      let is : List ℕ = take (side_length l) t.intensities in
      ap (λ g. behind_gate g t (after_level (in_mode m l) (analysis (in_mode m l) (take (spectrum_length l) t.spectra) is))) gate_same
      ∙ behind _ _ _ (λ e. packing_same _ ∙ ap (after_level l) (analysis_agrees l t m (open_good e) unclipped is))
