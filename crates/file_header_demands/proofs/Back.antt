-- Request A14: what the writer delivers is read as the fields of its layout and its stream. Assumes nothing.
use mathlib.Core.Path.{◌≡◌, refl, sym, ap, ◌∙◌}
use mathlib.Core.List.{List, [], ◌∷◌, ◌++◌}
use mathlib.Core.Bool.{Bool, true, false, cond}
use Prim.Native.Nat.{ℕ, zero, suc, ◌+◌, ◌≤◌, ◌<◌}
use native.Mathlib.Omega.{arith}
use borrow.Author.Tests.{eq-eqb, ne_eqb, le-ltb}
use lib.Dec.{eqb}
use lib.ListN.{length, get_or, length-append, get_or-append}
use lib.Seq.{take_at}
use Rattle.std.specs.Prelude.{Option, Some, None, Ok}
use Rattle.buffers.specs.Walk.{build}
use Rattle.buffers.proofs.Build.{build-at, length-build}
use Rattle.buffers.proofs.Every.{every-all}
use Rattle.buffers.proofs.Tests.{and-true}
use Rattle.crc.specs.Sealed.{check, sealed}
use Rattle.rules.specs.Layout.{legal_layout, bands_per_group}
use Rattle.rules.specs.Lent.{overwrite}
use Rattle.rules.specs.Refusals.{delivered}
use Rattle.rules.specs.declared.Layout.{Layout}
use Rattle.rules.specs.declared.Mode.TheVariants.{Rust}
use Rattle.rules.proofs.Answers.{never}
use Rattle.rules.proofs.Layouts.{legal_sizes}
use Rattle.rules_files.specs.declared.header.LoopPoints.{LoopPoints}
use Rattle.rules_files.specs.declared.header.Stream.{Stream}
use Rattle.rules_files.specs.declared.header.FileHeader.{FileHeader}
use Rattle.rules_files.specs.FileHeader.{Piece, piece, magic_pieces, format_pieces, frame_pieces, band_pieces, loop_pieces, after_loop, tail_pieces}
use Rattle.rules_files.specs.FileHeader.{byte_of, pieces, pieces_with, total_piece, base_piece, stereo_piece}
use Rattle.rules_files.specs.FileHeader.{channels_piece, rate_piece, count_piece, padding_piece, frame_size_piece, minimum_piece, maximum_piece}
use Rattle.rules_files.specs.FileHeader.{loop_name, header_byte, header_of, fits_header, write_header}
use Rattle.rules_files.specs.HeaderReading.{number_at, field_at, all_stand, looped, tail_of, name_pieces, names_right, loop_at, fields_of, layout_with, limits_right}
use Rattle.rules_files.specs.HeaderReading.{given_pieces, fields_right, zero_bytes, rest_zero, stream_back, loop_frames, fields_for, exact_read, read_header}
use Rattle.rules_files.proofs.Pieces.{within}
use Rattle.rules_files.proofs.HeaderFitting.{fits_facts}
use Rattle.rules_files.proofs.HeaderTheorems.{header-bytes, header_case}
use Rattle.rules_files.proofs.HeaderJudging.{sizes_any, limits_true}
use Rattle.file_header_demands.proofs.Points.{frames_right, points-there}
use Rattle.file_header_demands.proofs.Standing.{Stand, stand_true, stand_left, stand_right, written_stand, byte_behind}

-- where a number stands says nothing of its value
pub any_value : (h : List ℕ) (at width v w : ℕ) → number_at h (piece at width v) ≡ number_at h (piece at width w)
unfolding number_at
any_value h at width v w = refl

-- what the chunks behind `comp` say
record TailRead (h : List ℕ) (p : Option LoopPoints) : Type 0 where
  pub place : tail_of h ≡ after_loop p
  pub loop : cond (looped h) (Some (loop_at h)) None ≡ loop_frames p
  pub tail : Stand h (tail_pieces (after_loop p))

tail_read : (h : List ℕ) (p : Option LoopPoints) → Stand h (loop_pieces p ++ tail_pieces (after_loop p)) → TailRead h p
unfolding Stand loop_pieces after_loop loop_at loop_frames
tail_read h None s =
    let n : number_at h loop_name ≡ 0x63697068 = any_value h 40 4 _ _ ∙ s.0 in
    let e : looped h ≡ false = ne_eqb (number_at h loop_name) 0x6C6F6F70 (λ q. omega arith) in
    record { place = rw e; loop = rw e; tail = s }
tail_read h (Some p) s =
    let e : looped h ≡ true = eq-eqb _ _ s.0 in
    record {
      place = rw e;
      loop = rw (
        e,
        any_value h 44 4 0 _ ∙ s.1.0,
        any_value h 48 4 0 _ ∙ s.1.1.0,
        any_value h 52 2 0 _ ∙ s.1.1.1.0,
        any_value h 54 2 0 _ ∙ s.1.1.1.1.0,
      );
      tail = stand_right h (loop_pieces (Some p)) (tail_pieces 56) s;
    }

module _ (l : Layout) (st : Stream) where
  abbrev h : List ℕ
  h = header_of l st

  -- ---- the rest

  body_byte : (i : ℕ) → i < 94 → get_or h i 0 ≡ header_byte l st i
  unfolding header_of
  body_byte i q =
      let m : List ℕ = build (header_byte l st) 94 in
      let n : length m ≡ 94 = length-build (header_byte l st) 94 in
      get_or-append m (check m) 0 i (omega arith) ∙ build-at (header_byte l st) 94 i 0 q

  two-zeros : (header_byte l st 38 ≡ 0) × (header_byte l st 39 ≡ 0)
  unfolding pieces byte_of loop_pieces after_loop
  two-zeros = by_points st.points
    where
      by_points : (p : Option LoopPoints) → (byte_of (pieces_with l st p) 38 0 ≡ 0) × (byte_of (pieces_with l st p) 39 0 ≡ 0)
      by_points None = (refl, refl)
      by_points (Some p) = (refl, refl)

  last-piece : within (after_loop st.points + 10) (pieces l st) ≡ true
  unfolding pieces within loop_pieces after_loop
  last-piece = by_points st.points
    where
      by_points : (p : Option LoopPoints) → within (after_loop p + 10) (pieces_with l st p) ≡ true
      by_points None = refl
      by_points (Some p) = refl

  late : (p : Option LoopPoints) → after_loop p ≤ 56
  unfolding after_loop
  late None = omega arith
  late (Some p) = omega arith

  rest-written : tail_of h ≡ after_loop st.points → rest_zero h ≡ true
  unfolding rest_zero zero_bytes
  rest-written e =
      let q : after_loop st.points ≤ 56 = late st.points in
      let a : zero_bytes h 38 40 ≡ true = every-all _ 2 (λ i k. eq-eqb _ _ (front i k)) in
      let b : zero_bytes h (after_loop st.points + 6 + 4) 94 ≡ true =
      every-all _ _ (λ i k. eq-eqb _ _ (body_byte (after_loop st.points + 6 + 4 + i) (omega arith)
      ∙ byte_behind (after_loop st.points + 10) (pieces l st) last-piece (after_loop st.points + 6 + 4 + i) 0 (omega arith))) in
      rw e (and-true a b)
    where
      front : (i : ℕ) → i < 2 → get_or h (38 + i) 0 ≡ 0
      front zero k = body_byte 38 (omega arith) ∙ two-zeros.0
      front (suc zero) k = body_byte 39 (omega arith) ∙ two-zeros.1
      front (suc (suc i)) k = absurd (omega arith)

  module _ (legal : legal_layout l ≡ true) (fits : fits_header l st ≡ true) where
    s₁ : Stand h (pieces l st)
    s₁ = written_stand l st legal fits

    abbrev p₅ : List Piece
    p₅ = loop_pieces st.points ++ tail_pieces (after_loop st.points)

    abbrev p₄ : List Piece
    p₄ = band_pieces l ++ p₅

    abbrev p₃ : List Piece
    p₃ = frame_pieces l ++ p₄

    abbrev p₂ : List Piece
    p₂ = format_pieces l.channels st ++ p₃

    s₂ : Stand h p₂
    unfolding pieces
    s₂ = stand_right h magic_pieces p₂ s₁

    s₃ : Stand h p₃
    s₃ = stand_right h (format_pieces l.channels st) p₃ s₂

    s₄ : Stand h p₄
    s₄ = stand_right h (frame_pieces l) p₄ s₃

    magic : Stand h magic_pieces
    unfolding pieces
    magic = stand_left h magic_pieces p₂ s₁

    format : Stand h (format_pieces l.channels st)
    format = stand_left h (format_pieces l.channels st) p₃ s₂

    frame : Stand h (frame_pieces l)
    frame = stand_left h (frame_pieces l) p₄ s₃

    band : Stand h (band_pieces l)
    band = stand_left h (band_pieces l) p₅ s₄

    t : TailRead h st.points
    t = tail_read h st.points (stand_right h (band_pieces l) p₅ s₄)

    names_written : names_right h ≡ true
    unfolding names_right Stand
    names_written = rw t.place
        (stand_true h (name_pieces (after_loop st.points)) (magic.0, (magic.1.0, (format.0, (frame.0, (t.tail.0, (t.tail.1.1.0, tt)))))))

    fields-written : fields_of h ≡ fields_for l st
    unfolding fields_of Stand
    fields-written =
        let e₁ : field_at h channels_piece ≡ l.channels = any_value h _ _ _ _ ∙ format.1.0 in
        let e₂ : field_at h base_piece ≡ l.base = any_value h _ _ _ _ ∙ band.1.1.0 in
        let e₃ : field_at h stereo_piece ≡ l.stereo = any_value h _ _ _ _ ∙ band.1.1.1.0 in
        let e₄ : field_at h total_piece ≡ l.total = any_value h _ _ _ _ ∙ band.1.0 in
        let e₅ : field_at h frame_size_piece ≡ l.frame_size = any_value h _ _ _ _ ∙ frame.1.0 in
        let e₆ : field_at h minimum_piece ≡ l.minimum = any_value h _ _ _ _ ∙ frame.1.1.0 in
        let e₇ : field_at h maximum_piece ≡ l.maximum = any_value h _ _ _ _ ∙ frame.1.1.1.0 in
        let e₈ : field_at h rate_piece ≡ st.rate = any_value h _ _ _ _ ∙ format.1.1.0 in
        let e₉ : field_at h count_piece ≡ st.frames = any_value h _ _ _ _ ∙ format.1.1.1.0 in
        let e₁₀ : field_at h padding_piece ≡ st.padding = any_value h _ _ _ _ ∙ format.1.1.1.1.1.0 in
        rw (e₁, e₂, e₃, e₄, e₅, e₆, e₇, e₈, e₉, e₁₀, t.loop)

    given_written : all_stand h (given_pieces (fields_for l st) (after_loop st.points)) ≡ true
    unfolding Stand bands_per_group
    given_written =
        stand_true h (given_pieces (fields_for l st) (after_loop st.points))
        (magic.1.1.0, (format.1.1.1.1.0, (frame.1.1.1.1.0, (band.0, (band.1.1.1.1.0, (t.tail.1.0, tt))))))

    limits-written : limits_right (fields_for l st) ≡ true
    limits-written =
        let k = fits_facts l st fits in
        limits_true (fields_for l st)
        (record {
          sizes = sizes_any (fields_for l st) l.kinds [] l.mode Rust (legal_sizes l legal);
          few = k.channels;
          rated = k.rated;
          rate = k.rate;
        })

    right_written : fields_right h ≡ true
    unfolding fields_right
    right_written =
        rw (fields-written, t.place)
        (and-true limits-written (and-true given_written (frames_right st.points (fits_facts l st fits).points)))

    -- the 96 bytes are read as the fields
    pub exact_back : exact_read h ≡ Ok (fields_for l st)
    unfolding exact_read
    exact_back = rw ((header-bytes l st).2, names_written, right_written, rest-written t.place, fields-written)

    -- and so is a longer buffer that begins with them
    pub laid_back : (rest : List ℕ) → read_header (h ++ rest) ≡ Ok (fields_for l st)
    unfolding read_header
    laid_back rest =
        let n : length h ≡ 96 = (header-bytes l st).0 in
        let k : 96 ≤ length (h ++ rest) = rw (length-append h rest) (omega arith) in
        rw (le-ltb _ _ k, take_at h rest 96 n) exact_back

    -- the layout with its own kinds and mode, and the stream
    pub fields_back : (layout_with (fields_for l st) l.kinds l.mode ≡ l) × (stream_back (fields_for l st) ≡ st)
    fields_back = (
      refl,
      ap (λ (p : Option LoopPoints). record { rate = st.rate; frames = st.frames; padding = st.padding; points = p })
          (points-there st.points (fits_facts l st fits).points),
    )

-- what the writer delivers is read as its layout's and its stream's fields; with the layout's kinds and mode they give both back
pub header-back : (l : Layout) (st : Stream) (h : List ℕ) → (write_header l st h).outcome ≡ delivered []
    → (read_header (write_header l st h).header ≡ Ok (fields_for l st))
    × (layout_with (fields_for l st) l.kinds l.mode ≡ l) × (stream_back (fields_for l st) ≡ st)
header-back l st h =
    header_case l st h
    (λ x. x.outcome ≡ delivered [] → (read_header x.header ≡ Ok (fields_for l st))
    × (layout_with (fields_for l st) l.kinds l.mode ≡ l) × (stream_back (fields_for l st) ≡ st))
    (λ _ e. never (sym e)) (λ _ _ e. never (sym e)) (λ _ _ _ e. never (sym e))
    (λ a _ f _. let (x, y) = fields_back l st a f in (laid_back l st a f _, x, y))

-- equal headers mean equal fields, kinds and mode aside
pub equal_headers : (l l' : Layout) (st st' : Stream) → legal_layout l ≡ true → fits_header l st ≡ true → legal_layout l' ≡ true → fits_header l' st' ≡ true
    → header_of l st ≡ header_of l' st' → (fields_for l st ≡ fields_for l' st') × (st ≡ st')
equal_headers l l' st st' a b a' b' e =
    let r : Ok (fields_for l st) ≡ Ok (fields_for l' st') = sym (exact_back l st a b) ∙ ap exact_read e ∙ exact_back l' st' a' b' in
    let f : fields_for l st ≡ fields_for l' st' = cc in
    (f, sym (fields_back l st a b).1 ∙ ap stream_back f ∙ (fields_back l' st' a' b').1)
