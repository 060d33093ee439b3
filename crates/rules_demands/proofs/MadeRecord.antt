-- What the stage makes has the stated lengths, and is legal but for the range of its codes. Assumes nothing.
use mathlib.Core.Path.{◌≡◌, refl, sym, ◌∙◌}
use mathlib.Core.List.{List, [], ◌∷◌}
use mathlib.Core.Bool.{Bool, true, false, cond, ◌&&◌}
use Prim.Native.Nat.{ℕ, zero, suc, ◌+◌, ◌-◌, ◌*◌, ◌/◌, ◌^◌, ◌≤◌, ◌<◌}
use native.Mathlib.Omega.{arith}
use borrow.Author.Tests.{le-ltb, ltb-false}
use lib.Dec.{ltb}
use lib.IntN.{ℤ, pos}
use lib.Ieee.{Float}
use lib.ListN.{length, take, drop, get_or, set, length-set}
use lib.Seq.{get_or-take, get_or-drop}
use Rattle.buffers.specs.Walk.{first_from, first, blocks}
use Rattle.buffers.proofs.Build.{length-build, build-at}
use Rattle.buffers.proofs.Blocks.{length-blocks}
use Rattle.buffers.proofs.Tests.{cond_both}
use Rattle.rules.specs.Layout.{LegalLayout, start_band, kind_at, is_secondary, secondary_at, group_count, coded_count_at, side_width, side_count_at, spectrum_length}
use Rattle.rules.specs.Layout.{factor_length, side_length, part}
use Rattle.rules.specs.Factor.{band_factor, channel_factors, all_factors}
use Rattle.rules.specs.Scaling.{all_scaled}
use Rattle.rules.specs.Hfr.{hfr_scale, intensity_side, scale_side, channel_side, side_of, all_side}
use Rattle.rules.specs.Level.{clear_two, clear_pair}
use Rattle.rules.specs.Resolution.{all_resolutions}
use Rattle.rules.specs.Code.{recorded_code, code_at, subframe_codes, channel_codes, all_codes}
use Rattle.rules.specs.Record.{legal_record, CodesInRange}
use Rattle.rules.specs.Fields.{fields}
use Rattle.rules.specs.Refusals.{delivered}
use Rattle.rules.specs.Stage.{Analysis, bad_intensity, analysis_from, analysis, stage_record, delivery}
use Rattle.rules.specs.declared.Layout.{Layout}
use Rattle.rules.proofs.Layouts.{sides_le}
use Rattle.rules.proofs.Made.{factor_le, factors-size, band-held, side-size}
use Rattle.rules.proofs.Bands.{blank-band, resolutions-part}
use Rattle.rules.proofs.Cuts.{by_order, length_part, part-of-front, block_part, set_keeps}
use Rattle.rules.proofs.Layouts.{coded-few}
use Rattle.rules_demands.proofs.LegalRecords.{Held, Blank, held_record, row_code}
use Rattle.rules.proofs.Boundaries.{boundary_of-le}
use Rattle.rules_demands.proofs.Searches.{boundary-silent, found-level, found-few, found_none, found_keeps}

-- ---- factors

-- factors of the stated length, each legal, and 0 past a channel's coded count
record Factors (l : Layout) (F : List ℕ) : Type 0 where
  long : length F ≡ factor_length l
  held : (c i : ℕ) → c < l.channels → i < 128 → get_or (part 128 F c) i 0 ≤ 63
  blank : (c i : ℕ) → c < l.channels → i < 128 → coded_count_at l c ≤ i → get_or (part 128 F c) i 0 ≡ 0

-- such are factors that are made channel by channel
factors_of_lem : (l : Layout) (g : ℕ → List ℕ) → ((c : ℕ) → c < l.channels → length (g c) ≡ 128) → ((c i : ℕ) → c < l.channels → i < 128 → get_or (g c) i 0 ≤ 63)
    → ((c i : ℕ) → c < l.channels → i < 128 → coded_count_at l c ≤ i → get_or (g c) i 0 ≡ 0) → Factors l (blocks g l.channels)
factors_of_lem l g size h o = record {
  long = length-blocks g 128 l.channels size l.channels (omega arith);
  held = λ c i k q. rw (block_part g 128 l.channels c size k) (h c i k q);
  blank = λ c i k q p. rw (block_part g 128 l.channels c size k) (o c i k q p);
}

module _ (xs : List Float) (coded i : ℕ) (h : i < 128) where
  channel_factor : get_or (channel_factors xs coded) i 0 ≡ band_factor xs coded i
  unfolding channel_factors
  channel_factor = build-at (band_factor xs coded) 128 i 0 h

  channel_held : get_or (channel_factors xs coded) i 0 ≤ 63
  channel_held = rw channel_factor (band-held xs coded i)

  channel_blank : coded ≤ i → get_or (channel_factors xs coded) i 0 ≡ 0
  unfolding band_factor
  channel_blank k = channel_factor ∙ rw (le-ltb i coded k)

all_factors_lem : (l : Layout) (spectra : List Float) → Factors l (all_factors l spectra)
unfolding all_factors
all_factors_lem l spectra =
    factors_of_lem l (λ c. channel_factors (part 1024 spectra c) (coded_count_at l c)) (λ c _. factors-size _ _)
    (λ c i _ h. channel_held (part 1024 spectra c) (coded_count_at l c) i h) (λ c i _ h k. channel_blank (part 1024 spectra c) (coded_count_at l c) i h k)

-- clearing keeps what 0 has
clear_keeps : (P : ℕ → Type 0) → P 0 → (xs : List ℕ) (b i : ℕ) → P (get_or xs i 0) → P (get_or (clear_two xs b) i 0)
unfolding clear_two
clear_keeps P o xs b i h = set_keeps P 0 o (set xs b 0) (b + 1) i (set_keeps P 0 o xs b i h)

length-clear : (xs : List ℕ) (b : ℕ) → length (clear_two xs b) ≡ length xs
unfolding clear_two
length-clear xs b = length-set (set xs b 0) (b + 1) 0 ∙ length-set xs b 0

clear-factors : (l : Layout) (F : List ℕ) (b : ℕ) → Factors l F → Factors l (clear_pair l F b)
unfolding clear_pair
clear-factors l F b f =
    factors_of_lem l (λ c. clear_two (part 128 F c) b)
    (λ c h. length-clear (part 128 F c) b ∙ length_part 128 l.channels c F (omega (arith, f.long)) h)
    (λ c i h k. clear_keeps (λ n. n ≤ 63) (omega arith) (part 128 F c) b i (f.held c i h k))
    (λ c i h k q. clear_keeps (λ n. n ≡ 0) refl (part 128 F c) b i (f.blank c i h k q))

-- ---- side values

-- every secondary's intensities are at most 15
pub record Intensities (l : Layout) (is : List ℕ) : Type 0 where
  pub small : (c j : ℕ) → c < l.channels → j < 8 → secondary_at l c ≡ true → get_or (part 8 is c) j 0 ≤ 15

-- an index that a search has passed does not have the property
passed_by : (t : Bool) (i k r : ℕ) → i + suc k ≤ cond t i r → (t ≡ false) × (suc i + k ≤ r)
passed_by true i k r h = absurd (omega arith)
passed_by false i k r h = (refl, omega arith)

first_passed : (p : ℕ → Bool) (i k : ℕ) → i + k ≤ first_from p i k → (j : ℕ) → i ≤ j → j < i + k → p j ≡ false
unfolding first_from
first_passed p i zero h j g q = absurd (omega arith)
first_passed p i (suc k) h j g q =
    let (e, m) = passed_by (p i) i k (first_from p (suc i) k) h in
    by_order j (suc i) (λ lt. let n : j ≡ i = omega arith in rw n e) (λ ge. first_passed p (suc i) k m j ge (omega arith))

not-above : (x : ℕ) (t : Bool) → (ltb 15 x && t) ≡ false → t ≡ true → x ≤ 15
not-above x t e h = ltb-false 15 x (and_false (ltb 15 x) t e h)
  where
    and_false : (a b : Bool) → (a && b) ≡ false → b ≡ true → a ≡ false
    and_false true b e h = sym h ∙ e
    and_false false b e h = refl

-- what is left of refusal 3 says so of the intensities, and of the part of them that the stage is given
module _ (l : Layout) (is : List ℕ) (none : side_length l ≤ first (bad_intensity l is) (side_length l)) where
  intensity_small : (c j : ℕ) → c < l.channels → j < 8 → secondary_at l c ≡ true → get_or is (c * 8 + j) 0 ≤ 15
  unfolding bad_intensity
  intensity_small c j h g t =
      let at : (c * 8 + j) / 8 ≡ c = omega arith in
      not-above (get_or is (c * 8 + j) 0) (secondary_at l ((c * 8 + j) / 8))
      (first_passed (bad_intensity l is) 0 (side_length l) (omega arith) (c * 8 + j) (omega arith) (omega arith)) (rw at t)

  pub intensities-small : Intensities l is
  intensities-small = record { small = λ c j h g t. rw (get_or-take 8 (drop (c * 8) is) j 0 g, get_or-drop (c * 8) is j 0) (intensity_small c j h g t) }

  pub front-small : Intensities l (take (side_length l) is)
  front-small = record { small = λ c j h g t. rw (part-of-front 8 l.channels c is h) (intensities-small.small c j h g t) }

-- a side value in its width, and 0 past the count
side-held : (t : Bool) (v w j g : ℕ) → (t ≡ true → v ≤ 15) → w ≤ 63 → cond t v (cond (ltb j g) w 0) < 2 ^ cond t 4 6
side-held true v w j g h k = let q = h refl in omega arith
side-held false v w j g h k = cond_both (λ n. n < 64) (ltb j g) (λ _. omega arith) (λ _. omega arith)

side-blank : (t : Bool) (v w j g : ℕ) → j < 8 → cond t 8 g ≤ j → cond t v (cond (ltb j g) w 0) ≡ 0
side-blank true v w j g h k = absurd (omega arith)
side-blank false v w j g h k = rw (le-ltb j g k)

-- value j of a channel's, of both kinds
side-value : (t : Bool) (l : Layout) (xs sc : List Float) (is : List ℕ) (j : ℕ) → j < 8
    → get_or (cond t (intensity_side is) (scale_side l xs sc)) j 0 ≡ cond t (get_or is j 0) (cond (ltb j (group_count l)) (hfr_scale l xs sc j) 0)
unfolding intensity_side scale_side
side-value true l xs sc is j h = build-at _ 8 j 0 h
side-value false l xs sc is j h = build-at _ 8 j 0 h

module _ (l : Layout) (spectra scaled : List Float) (is : List ℕ) where
  side-long : length (all_side l spectra scaled is) ≡ side_length l
  unfolding all_side
  side-long = length-blocks (side_of l spectra scaled is) 8 l.channels (λ c _. side-size l c _ _ _) l.channels (omega arith)

  pub side-at : (c j : ℕ) → c < l.channels → j < 8 → get_or (part 8 (all_side l spectra scaled is) c) j 0
      ≡ cond (secondary_at l c) (get_or (part 8 is c) j 0) (cond (ltb j (group_count l)) (hfr_scale l (part 1024 spectra c) (part 1024 scaled c) j) 0)
  unfolding all_side channel_side
  side-at c j h g =
      rw (block_part (side_of l spectra scaled is) 8 l.channels c (λ i _. side-size l i (part 1024 spectra i) (part 1024 scaled i) (part 8 is i)) h)
      (side-value (secondary_at l c) l (part 1024 spectra c) (part 1024 scaled c) (part 8 is c) j g)

  side-below : Intensities l is → (c j : ℕ) → c < l.channels → j < side_count_at l c
      → get_or (part 8 (all_side l spectra scaled is) c) j 0 < 2 ^ side_width (kind_at l c)
  unfolding secondary_at hfr_scale
  side-below h c j k g =
      let few : j < 8 = omega (arith, sides_le l c) in
      rw (side-at c j k few)
      (side-held (is_secondary (kind_at l c)) (get_or (part 8 is c) j 0) (hfr_scale l (part 1024 spectra c) (part 1024 scaled c) j) j (group_count l)
      (h.small c j k few) (factor_le _))

  side-zero : (c j : ℕ) → c < l.channels → side_count_at l c ≤ j → j < 8 → get_or (part 8 (all_side l spectra scaled is) c) j 0 ≡ 0
  unfolding secondary_at side_count_at
  side-zero c j k g q = side-at c j k q ∙ side-blank (is_secondary (kind_at l c)) _ _ j (group_count l) q g

-- ---- codes and scaled values

-- of any resolutions
module _ (l : Layout) (rs : List ℕ) (scaled : List Float) where
  abbrev codes_of : ℕ → List ℤ
  codes_of c = channel_codes l.mode (part 128 rs c) (part 1024 scaled c)

  codes-size : (c : ℕ) → c < l.channels → length (codes_of c) ≡ 1024
  unfolding channel_codes subframe_codes
  codes-size c _ = length-blocks (subframe_codes l.mode (part 128 rs c) (part 1024 scaled c)) 128 8 (λ s _. length-build _ 128) 8 (omega arith)

  pub codes-long : length (all_codes l rs scaled) ≡ spectrum_length l
  unfolding all_codes
  codes-long = length-blocks codes_of 1024 l.channels codes-size l.channels (omega arith)

  pub code_at_lem : (c s b : ℕ) → c < l.channels → s < 8 → b < 128
      → get_or (part 1024 (all_codes l rs scaled) c) (s * 128 + b) (pos 0) ≡ code_at l.mode (part 128 rs c) (part 1024 scaled c) s b
  unfolding all_codes channel_codes subframe_codes
  code_at_lem c s b h g k =
      rw (block_part codes_of 1024 l.channels c codes-size h)
      (sym (row_code (codes_of c) s b k)
      ∙ rw (block_part (subframe_codes l.mode (part 128 rs c) (part 1024 scaled c)) 128 8 s (λ j _. length-build _ 128) g)
      (build-at (code_at l.mode (part 128 rs c) (part 1024 scaled c) s) 128 b (pos 0) k))

-- past the coded count there is none
codes-zero : (l : Layout) (level boundary : ℕ) (scaled : List Float) (F : List ℕ) (c s b : ℕ) → c < l.channels → s < 8 → coded_count_at l c ≤ b → b < 128
    → get_or (part 1024 (all_codes l (all_resolutions l level boundary F) scaled) c) (s * 128 + b) (pos 0) ≡ pos 0
unfolding code_at recorded_code
codes-zero l level boundary scaled F c s b h g q k =
    code_at_lem l (all_resolutions l level boundary F) scaled c s b h g k
    ∙ rw (resolutions-part l level boundary F c h, blank-band l level boundary (part 128 F c) (coded_count_at l c) b k q)

-- ---- what is made

module _ (l : Layout) (spectra : List Float) (is : List ℕ) where
  made_fine : Factors l (analysis l spectra is).found.factors
  unfolding analysis analysis_from
  made_fine = found_keeps l _ (Factors l) (clear-factors l) (all_factors l spectra) (all_factors_lem l spectra)

  pub made_factors : length (analysis l spectra is).found.factors ≡ factor_length l
  made_factors = made_fine.long

  pub made_side : length (analysis l spectra is).side ≡ side_length l
  unfolding analysis analysis_from
  made_side = side-long l spectra (all_scaled l spectra (all_factors l spectra)) is

  pub made_codes : length (analysis l spectra is).codes ≡ spectrum_length l
  unfolding analysis analysis_from
  made_codes = codes-long l _ _

  pub made_level : (analysis l spectra is).found.level ≤ 255
  unfolding analysis analysis_from
  made_level = found-level l _ _

  pub made_pairs : LegalLayout l → (analysis l spectra is).found.pairs ≤ 63
  unfolding analysis analysis_from
  made_pairs z = found-few l _ _ z

  -- refusal 5's number
  pub made_none : LegalLayout l → (analysis l spectra is).found.level ≡ 255 → (analysis l spectra is).found.pairs ≡ (start_band l - 1) / 2
  unfolding analysis analysis_from
  made_none z e = found_none l _ _ z e

  pub made_boundary : (analysis l spectra is).boundary ≤ 127
  unfolding analysis analysis_from
  made_boundary = boundary_of-le _ _

  -- the stage's habit, which a legal record need not have
  pub made_silent : (analysis l spectra is).found.level ≡ 0 → (analysis l spectra is).boundary ≡ 0
  unfolding analysis analysis_from
  made_silent e = boundary-silent _ _ e

  made_held : LegalLayout l → Intensities l is → (analysis l spectra is).found.level ≤ 254
      → CodesInRange l (analysis l spectra is).found.level (analysis l spectra is).boundary (analysis l spectra is).found.factors
      (analysis l spectra is).codes
      → Held l (analysis l spectra is).found.level (analysis l spectra is).boundary (analysis l spectra is).found.factors (analysis l spectra is).side
      (analysis l spectra is).codes
  unfolding analysis analysis_from
  made_held z small h codes = record {
    head = record { levels = omega arith; boundaries = made_boundary };
    factors = λ c i k g. let q = coded-few l z c in let v = made_fine.held c i k (omega arith) in omega arith;
    side = side-below l spectra _ is small;
    codes = codes;
  }

  made_blank : Blank l (analysis l spectra is).found.factors (analysis l spectra is).side (analysis l spectra is).codes
  unfolding analysis analysis_from
  made_blank = record {
    factors = λ c i k g q. made_fine.blank c i k q g;
    side = side-zero l spectra _ is;
    codes = codes-zero l _ _ _ _;
  }

  -- **Legal record**: the stage's record is one where each code is in its range
  pub made_legal : LegalLayout l → Intensities l is → (analysis l spectra is).found.level ≤ 254
      → CodesInRange l (analysis l spectra is).found.level (analysis l spectra is).boundary (analysis l spectra is).found.factors
      (analysis l spectra is).codes
      → legal_record l (analysis l spectra is).found.level (analysis l spectra is).boundary (analysis l spectra is).found.factors
      (analysis l spectra is).side (analysis l spectra is).codes ≡ true
  made_legal z small h codes = held_record l _ _ _ _ _ (made_held z small h codes) made_blank

-- the bits told are those that the fields take, as the estimate's are not
pub finished_outcome : (l : Layout) (m : Analysis) →
    (delivery l m).outcome ≡ delivered (m.found.level ∷ m.boundary ∷ m.found.pairs ∷ length (fields l (stage_record l m)) ∷ [])
unfolding delivery
finished_outcome l m = refl
