-- How the header's reader comes to each of its answers. Assumes nothing.
use mathlib.Core.Path.{◌≡◌, refl, sym, ap, ◌∙◌, subst}
use mathlib.Core.List.{List, [], ◌∷◌}
use mathlib.Core.Bool.{Bool, true, false, not, ◌&&◌}
use Prim.Native.Nat.{ℕ, ◌-◌, ◌≤◌, ◌<◌}
use native.Mathlib.Omega.{arith}
use borrow.Author.Tests.{lt-ltb, le-ltb, not-true, not-false}
use lib.Dec.{eqb, leb}
use lib.ListN.{length, get_or, take, drop, length-drop}
use lib.Seq.{length-take-le, get_or-take, get_or-drop}
use Rattle.std.specs.Prelude.{Option, Some, None, Ok, Err}
use Rattle.std.specs.List.{list_all}
use Rattle.buffers.specs.Walk.{every}
use Rattle.rules_files.proofs.Ranges.{every_same, all-every}
use Rattle.crc.specs.Sealed.{is_sealed}
use Rattle.rules.specs.Layout.{legal_layout, LegalLayout, bands_per_group}
use Rattle.rules.specs.declared.Layout.{Layout}
use Rattle.rules.specs.declared.Mode.TheVariants.{Rust}
use Rattle.rules_files.specs.declared.header.LoopFields.{LoopFields}
use Rattle.rules_files.specs.declared.header.FileHeader.{FileHeader}
use Rattle.rules_files.specs.declared.header.HeaderReadRefusal.TheVariants as why
use Rattle.rules_files.specs.FileHeader.{Piece, size_piece, channels_piece, rate_piece, count_piece, delay_piece, padding_piece, frame_size_piece}
use Rattle.rules_files.specs.FileHeader.{minimum_piece, maximum_piece, track_piece, config_piece, total_piece, base_piece, stereo_piece, per_group_piece}
use Rattle.rules_files.specs.FileHeader.{start_frame_piece, end_frame_piece, start_delay_piece, end_padding_piece, cipher_piece, channel_config}
use Rattle.rules_files.specs.HeaderReading.{field_at, stands, all_stand, tail_of, loop_at, fields_of, layout_with, limits_right, given_pieces, loop_right, zero_bytes}
use Rattle.rules_files.specs.HeaderReading.{names_right, fields_right, rest_zero, start_and_end, points_back, exact_read, read_header}
use Rattle.rules_files.proofs.HeaderJudging.{and_group, stand_append, LoopIs, loop_facts, Limits, legal_any, sizes_any, limits_facts}

-- ---- the numbers

module _ (h : List ℕ) where
  pub loop_made : (f : LoopFields) → f.start_frame ≡ field_at h start_frame_piece → f.delay ≡ field_at h start_delay_piece
      → f.end_frame ≡ field_at h end_frame_piece → f.padding ≡ field_at h end_padding_piece → f ≡ loop_at h
  unfolding loop_at
  loop_made f p q r s = λ i. record { start_frame = p i; end_frame = r i; delay = q i; padding = s i }

  pub fields_made : (channels base stereo total size minimum maximum rate frames padding : ℕ) (points : Option LoopFields)
      → channels ≡ field_at h channels_piece
      → base ≡ field_at h base_piece → stereo ≡ field_at h stereo_piece → total ≡ field_at h total_piece → size ≡ field_at h frame_size_piece
      → minimum ≡ field_at h minimum_piece → maximum ≡ field_at h maximum_piece → rate ≡ field_at h rate_piece → frames ≡ field_at h count_piece
      → padding ≡ field_at h padding_piece → points ≡ (fields_of h).points
      → ◌≡◌ {A = FileHeader} (record {
        channels = channels;
        base = base;
        stereo = stereo;
        total = total;
        frame_size = size;
        minimum = minimum;
        maximum = maximum;
        rate = rate;
        frames = frames;
        padding = padding;
        points = points;
      }) (fields_of h)
  unfolding fields_of
  fields_made c b s t z lo hi r n p x p₁ p₂ p₃ p₄ p₅ p₆ p₇ p₈ p₉ p₁₀ p₁₁ = rw (p₁, p₂, p₃, p₄, p₅, p₆, p₇, p₈, p₉, p₁₀, p₁₁)

-- ---- zeros

pub all_zero : (h : List ℕ) (from to : ℕ) → to ≤ length h → list_all (λ x. eqb x 0) (take (to - from) (drop from h)) ≡ zero_bytes h from to
unfolding zero_bytes
all_zero h from to l =
    let s : List ℕ = take (to - from) (drop from h) in
    let n : length s ≡ to - from = length-take-le (to - from) (drop from h) (omega (arith, length-drop from h)) in
    all-every (λ x. eqb x 0) 0 s
    ∙ ap (every (λ i. eqb (get_or s i 0) 0)) n
    ∙ every_same _ _ (to - from)
    (λ i k. ap (λ x. eqb x 0) (get_or-take (to - from) (drop from h) i 0 k ∙ get_or-drop from h i 0))

-- ---- limits

module _ (f : FileHeader) (l : Layout) (e : l ≡ layout_with f l.kinds l.mode) where
  pub limits_split : limits_right f ≡ (legal_layout l && (leb f.channels 8 && (leb 1 f.rate && leb f.rate 0x7FFFFF)))
  unfolding limits_right
  limits_split =
      ap (λ (b : Bool). b && (leb f.channels 8 && (leb 1 f.rate && leb f.rate 0x7FFFFF)))
      (sym (ap legal_layout e ∙ legal_any f l.kinds [] l.mode Rust))

-- ---- pieces

module _ (h : List ℕ) (p q : Piece) where
  pub two_stand : all_stand h (p ∷ q ∷ []) ≡ (stands h p && (stands h q && true))
  unfolding all_stand
  two_stand = refl

  pub three_stand : (r : Piece) → all_stand h (p ∷ q ∷ r ∷ []) ≡ (stands h p && (stands h q && (stands h r && true)))
  unfolding all_stand
  three_stand r = refl

  pub four_stand : (r s : Piece) → all_stand h (p ∷ q ∷ r ∷ s ∷ []) ≡ (stands h p && (stands h q && (stands h r && (stands h s && true))))
  unfolding all_stand
  four_stand r s = refl

-- ---- fields

abbrev pub fixed_pieces : List Piece
fixed_pieces = size_piece ∷ delay_piece ∷ track_piece ∷ []

abbrev pub derived_pieces : (l : Layout) (at : ℕ) → List Piece
derived_pieces l at = config_piece (channel_config l.channels) ∷ per_group_piece (bands_per_group l) ∷ cipher_piece at ∷ []

module _ (h : List ℕ) (f : FileHeader) (e : f ≡ fields_of h) (l : Layout) (w : l ≡ layout_with f l.kinds l.mode) where
  same_derived : all_stand h (derived_pieces (layout_with f [] Rust) (tail_of h)) ≡ all_stand h (derived_pieces l (tail_of h))
  unfolding bands_per_group
  same_derived = sym (ap (λ (x : Layout). all_stand h (derived_pieces x (tail_of h))) w)

  -- the tests in the order that they are made in
  pub fields_split : fields_right h
      ≡ (limits_right f && (all_stand h fixed_pieces && (all_stand h (derived_pieces l (tail_of h)) && loop_right f.points)))
  unfolding fields_right
  fields_split =
      let s : all_stand h (given_pieces (fields_of h) (tail_of h))
      ≡ (all_stand h fixed_pieces && all_stand h (derived_pieces (layout_with (fields_of h) [] Rust) (tail_of h))) =
      stand_append h fixed_pieces (derived_pieces (layout_with (fields_of h) [] Rust) (tail_of h)) in
      rw (s, ← e, same_derived)
      (ap (λ (b : Bool). limits_right f && b)
      (sym (and_group (all_stand h fixed_pieces) (all_stand h (derived_pieces l (tail_of h))) (loop_right f.points))))

  -- the facts that configuration and bands per group ask for
  pub derived_asks : limits_right f ≡ true → LegalLayout l × (l.channels ≤ 8)
  derived_asks t =
      let k : Limits f = limits_facts f t in
      (subst LegalLayout (sym w) (sizes_any f [] l.kinds Rust l.mode k.sizes), subst (λ (x : Layout). x.channels ≤ 8) (sym w) k.few)

-- ---- the points back

module _ (f : LoopFields) (r : Bool) (e : r ≡ loop_right (Some f)) where
  pub back_wrong : not r ≡ true → None ≡ points_back (Some f)
  unfolding points_back
  back_wrong t = rw (sym e ∙ not-true r t)

  pub back_facts : not r ≡ false → LoopIs f
  back_facts t = loop_facts f (sym e ∙ not-false r t)

  pub back_right : not r ≡ false → Some (start_and_end f) ≡ points_back (Some f)
  unfolding points_back
  back_right t = rw (sym e ∙ not-false r t)

-- ---- the call

module _ (h : List ℕ) (a : Bool) (p : a ≡ is_sealed h) where
  pub read_unsealed : not a ≡ true → Err why.WrongCheck ≡ exact_read h
  unfolding exact_read
  read_unsealed t = rw (sym p ∙ not-true a t)

  module _ (t : not a ≡ false) (b : Bool) (q : b ≡ names_right h) where
    pub read_unnamed : not b ≡ true → Err why.WrongName ≡ exact_read h
    unfolding exact_read
    read_unnamed u = rw (sym p ∙ not-false a t, sym q ∙ not-true b u)

    module _ (u : not b ≡ false) (f : FileHeader) (k : f ≡ fields_of h) (c : Bool) (r : c ≡ fields_right h) where
      pub read_bad : not c ≡ true → Err why.BadField ≡ exact_read h
      unfolding exact_read
      read_bad v = rw (sym p ∙ not-false a t, sym q ∙ not-false b u, sym r ∙ not-true c v)

      module _ (v : not c ≡ false) (d : Bool) (s : d ≡ rest_zero h) where
        pub read_rest : not d ≡ true → Err why.NotZero ≡ exact_read h
        unfolding exact_read
        read_rest w = rw (sym p ∙ not-false a t, sym q ∙ not-false b u, sym r ∙ not-false c v, sym s ∙ not-true d w)

        pub read_whole : not d ≡ false → Ok f ≡ exact_read h
        unfolding exact_read
        read_whole w = rw (sym p ∙ not-false a t, sym q ∙ not-false b u, sym r ∙ not-false c v, sym s ∙ not-false d w, k)

module _ (h : List ℕ) where
  pub read_short : length h < 96 → Err why.ShortBuffer ≡ read_header h
  unfolding read_header
  read_short l = rw (lt-ltb _ _ l)

  pub read_long : 96 ≤ length h → exact_read (take 96 h) ≡ read_header h
  unfolding read_header
  read_long l = rw (le-ltb _ _ l)
