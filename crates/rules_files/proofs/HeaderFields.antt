-- Request A1: each field of a header that fits reads back to its value from its offset. Request A8: two bytes of it are the layout's pair. Assumes nothing.
use mathlib.Core.Path.{◌≡◌, refl, sym, ap, ◌∙◌}
use mathlib.Core.List.{List, [], ◌∷◌, ◌++◌}
use mathlib.Core.Bool.{Bool, true, false, cond, ◌&&◌}
use Prim.Native.Nat.{ℕ, zero, suc, ◌+◌, ◌-◌, ◌*◌, ◌^◌, ◌≤◌, ◌<◌}
use native.Mathlib.Omega.{arith}
use borrow.Author.Tests.{leb-true, le-leb, lt-leb, lt-ltb}
use lib.Dec.{leb, ltb}
use lib.ListN.{length, get_or, take, drop, length-drop, get_or-append}
use lib.Seq.{length-take-le, get_or-take, get_or-drop}
use Rattle.std.specs.Prelude.{Option, Some, None}
use Rattle.buffers.specs.Walk.{build}
use Rattle.buffers.proofs.Build.{build-at, build-of, length-build, back-width}
use Rattle.buffers.proofs.Tests.{and_fst, and_snd, all_le, cond_bound, get_d_le}
use Rattle.crc.specs.Sealed.{check, sealed}
use Rattle.crc.proofs.Sealed.{length-sealed}
use Rattle.numbers.specs.Numbers.{high_first, of_high}
use Rattle.numbers.proofs.HighFirst.{high-length, high-back}
use Rattle.rules.specs.Layout.{legal_layout, LegalLayout, bands_per_group, ceil_div}
use Rattle.rules.specs.Lent.{overwrite}
use Rattle.rules.specs.Refusals.{delivered}
use Rattle.rules.specs.declared.Layout.{Layout}
use Rattle.rules.proofs.Layouts.{legal_sizes}
use Rattle.rules.proofs.Answers.{never}
use Rattle.rules_files.specs.declared.header.LoopPoints.{LoopPoints}
use Rattle.rules_files.specs.declared.header.LoopFields.{LoopFields}
use Rattle.rules_files.specs.declared.header.Stream.{Stream}
use Rattle.rules_files.specs.FileHeader.{Piece, piece, covers, piece_bytes, byte_of, pieces, pieces_with, loop_pieces, after_loop, header_byte, header_of}
use Rattle.rules_files.specs.FileHeader.{magic_pieces, format_pieces, frame_pieces, band_pieces, tail_pieces}
use Rattle.rules_files.specs.FileHeader.{on_edge, loop_fields, channel_mapping, channel_config, fits_header, PointsFit, HeaderFits, write_header}
use Rattle.rules_files.proofs.Pieces.{within}
use Rattle.rules_files.proofs.HeaderFitting.{fits_facts}
use Rattle.rules_files.proofs.HeaderTheorems.{apart, pieces-apart, LoopMoved, loop_moved, header_case}

abbrev pub no_piece : Piece
no_piece = piece 0 0 0

-- ---- a byte that a piece covers is that piece's

-- before the first of pieces that stand apart there is none
before : (ps : List Piece) (i blank : ℕ) → apart ps ≡ true → ((q : Piece) (qs : List Piece) → ps ≡ q ∷ qs → i < q.offset) → byte_of ps i blank ≡ blank
unfolding byte_of apart
before [] i blank e h = refl
before (q ∷ []) i blank e h = rw (lt-leb q.offset i (h q [] refl))
before (q ∷ r ∷ ps) i blank e h =
    rw (lt-leb q.offset i (h q (r ∷ ps) refl))
    (before (r ∷ ps) i blank (and_snd (leb (q.offset + q.width) r.offset) _ e)
    (λ s ss z. let l : q.offset + q.width ≤ r.offset = leb-true _ _ (and_fst _ _ e) in
    let o : r.offset ≡ s.offset = ap (λ (x : List Piece). (get_or x 0 no_piece).offset) z in omega (arith, h q (r ∷ ps) refl)))

inside : (ps : List Piece) (k i blank : ℕ) → apart ps ≡ true → k < length ps → (get_or ps k no_piece).offset ≤ i
    → i < (get_or ps k no_piece).offset + (get_or ps k no_piece).width
    → byte_of ps i blank ≡ get_or (piece_bytes (get_or ps k no_piece)) (i - (get_or ps k no_piece).offset) 0
unfolding byte_of apart
inside [] k i blank e h a b = absurd (omega arith)
inside (p ∷ []) zero i blank e h a b = rw (le-leb _ _ a, lt-ltb _ _ b)
inside (p ∷ q ∷ ps) zero i blank e h a b =
    rw (le-leb _ _ a, lt-ltb _ _ b)
    (before (q ∷ ps) i _ (and_snd (leb (p.offset + p.width) q.offset) _ e)
    (λ s ss z. let l : p.offset + p.width ≤ q.offset = leb-true _ _ (and_fst _ _ e) in
    let o : q.offset ≡ s.offset = ap (λ (x : List Piece). (get_or x 0 no_piece).offset) z in omega arith))
inside (p ∷ []) (suc k) i blank e h a b = absurd (omega arith)
inside (p ∷ q ∷ ps) (suc k) i blank e h a b = inside (q ∷ ps) k i _ (and_snd (leb (p.offset + p.width) q.offset) _ e) (omega arith) a b

within-at : (n : ℕ) (ps : List Piece) (k : ℕ) → within n ps ≡ true → k < length ps → (get_or ps k no_piece).offset + (get_or ps k no_piece).width ≤ n
unfolding within
within-at n [] k w h = absurd (omega arith)
within-at n (p ∷ ps) zero w h = leb-true _ _ (and_fst _ _ w)
within-at n (p ∷ ps) (suc k) w h = within-at n ps k (and_snd (leb (p.offset + p.width) n) _ w) (omega arith)

-- ---- every value fits its width

abbrev Fits : Piece → Type 0
Fits p = p.value < 256 ^ p.width

unfoldable AllFit : List Piece → Type 0
AllFit [] = Unit {0}
AllFit (p ∷ ps) = Fits p × AllFit ps

fit_at : (ps : List Piece) (k : ℕ) → AllFit ps → k < length ps → Fits (get_or ps k no_piece)
unfolding AllFit
fit_at [] k f h = absurd (omega arith)
fit_at (p ∷ ps) zero f h = f.0
fit_at (p ∷ ps) (suc k) f h = fit_at ps k f.1 (omega arith)

per_group_small : (l : Layout) → LegalLayout l → bands_per_group l ≤ 255
unfolding bands_per_group ceil_div
per_group_small l s = omega arith

config_small : (channels : ℕ) → channel_config channels ≤ 7
unfolding channel_mapping all_le
config_small c = get_d_le 7 channel_mapping refl c

fit_both : (ps qs : List Piece) → AllFit ps → AllFit qs → AllFit (ps ++ qs)
unfolding AllFit
fit_both [] qs f g = g
fit_both (p ∷ ps) qs f g = (f.0, fit_both ps qs f.1 g)

magic_fits : AllFit magic_pieces
unfolding AllFit
magic_fits = (omega arith, (omega arith, (omega arith, tt)))

tail-fits : (at : ℕ) → AllFit (tail_pieces at)
unfolding AllFit
tail-fits at = (omega arith, (omega arith, (omega arith, tt)))

loop_fits : (points : Option LoopPoints) → PointsFit points → AllFit (loop_pieces points)
unfolding AllFit loop_pieces
loop_fits None h = tt
loop_fits (Some p) h =
    let f : LoopFields = loop_fields p.start p.end in
    let m : LoopMoved p.start p.end = loop_moved p.start p.end in
    let s : 1024 * f.start_frame + f.delay ≡ p.start + 128 = m.begins in
    let e : 1024 * (f.end_frame + 1) - f.padding ≡ p.end + 128 = m.ends in
    let a : p.start + 128 ≤ 0xFFFFFFFF = h.0 in
    let b : p.end + 128 ≤ 0xFFFFFFFF = h.1 in
    (omega arith, (omega arith, (omega arith, (omega (arith, m.delay), (omega (arith, m.padding), tt)))))

module _ (l : Layout) (st : Stream) (s : LegalLayout l) (h : HeaderFits l st) where
  format_fits : AllFit (format_pieces l.channels st)
  unfolding AllFit
  format_fits = (omega arith, (omega arith, (omega arith, (omega arith, (omega arith, (omega arith, tt))))))

  frame-fits : AllFit (frame_pieces l)
  unfolding AllFit
  frame-fits = (omega arith, (omega arith, (omega arith, (omega arith, (omega arith, tt)))))

  band-fits : AllFit (band_pieces l)
  unfolding AllFit
  band-fits = (omega (arith, config_small l.channels), (omega arith, (omega arith, (omega arith, (omega (arith, per_group_small l s), tt)))))

  all_fit : AllFit (pieces l st)
  unfolding pieces
  all_fit =
      fit_both magic_pieces _ magic_fits
      (fit_both (format_pieces l.channels st) _ format_fits
      (fit_both (frame_pieces l) _ frame-fits
      (fit_both (band_pieces l) _ band-fits (fit_both (loop_pieces st.points) _ (loop_fits st.points h.points) (tail-fits (after_loop st.points))))))

-- all stand before the check
within-body : (l : Layout) (st : Stream) → within 94 (pieces l st) ≡ true
unfolding pieces within loop_pieces after_loop
within-body l st = by_points st.points
  where
    by_points : (p : Option LoopPoints) → within 94 (pieces_with l st p) ≡ true
    by_points None = refl
    by_points (Some p) = refl

-- ---- the number of its width at its offset, the high byte first, is its value

module _ (l : Layout) (st : Stream) (k : ℕ) (h : k < length (pieces l st)) where
  abbrev pub p : Piece
  p = get_or (pieces l st) k no_piece

  bytes_read : take p.width (drop p.offset (header_of l st)) ≡ piece_bytes p
  unfolding header_of
  bytes_read =
      let m : List ℕ = build (header_byte l st) 94 in
      let n : length m ≡ 94 = length-build (header_byte l st) 94 in
      let w : p.offset + p.width ≤ 94 = within-at 94 (pieces l st) k (within-body l st) h in
      let g : ℕ → ℕ = λ i. get_or (piece_bytes p) i 0 in
      build-of g p.width 0 (take p.width (drop p.offset (sealed m)))
      (length-take-le p.width (drop p.offset (sealed m)) (omega (arith, length-drop p.offset (sealed m), length-sealed m)))
      (λ i q. get_or-take p.width (drop p.offset (sealed m)) i 0 q
      ∙ get_or-drop p.offset (sealed m) i 0
      ∙ get_or-append m (check m) 0 (p.offset + i) (omega arith)
      ∙ build-at (header_byte l st) 94 (p.offset + i) 0 (omega arith)
      ∙ inside (pieces l st) k (p.offset + i) 0 (pieces-apart l st) h (omega arith) (omega arith)
      ∙ ap g (back-width p.offset i))
      ∙ sym (build-of g p.width 0 (piece_bytes p) (high-length p.width p.value) (λ i q. refl))

  pub pieces_read : legal_layout l ≡ true → fits_header l st ≡ true → of_high (take p.width (drop p.offset (header_of l st))) ≡ p.value
  pieces_read legal fits =
      ap of_high bytes_read ∙ high-back p.width p.value (fit_at (pieces l st) k (all_fit l st (legal_sizes l legal) (fits_facts l st fits)) h)

-- ---- request A8: bytes 30 and 31 are the layout's pair

module _ (l : Layout) (st : Stream) where
  body_byte : (h : List ℕ) (i : ℕ) → i < 94 → get_or (overwrite (header_of l st) h) i 0 ≡ header_byte l st i
  unfolding header_of
  body_byte h i q =
      let m : List ℕ = build (header_byte l st) 94 in
      let n : length m ≡ 94 = length-build (header_byte l st) 94 in
      get_or-append (sealed m) (drop (length (sealed m)) h) 0 i (omega (arith, length-sealed m))
      ∙ get_or-append m (check m) 0 i (omega arith)
      ∙ build-at (header_byte l st) 94 i 0 q

  pair-bytes : LegalLayout l → (header_byte l st 30 ≡ l.minimum) × (header_byte l st 31 ≡ l.maximum)
  unfolding pieces byte_of loop_pieces after_loop high_first
  pair-bytes s = by_points st.points
    where
      by_points : (p : Option LoopPoints) → (byte_of (pieces_with l st p) 30 0 ≡ l.minimum) × (byte_of (pieces_with l st p) 31 0 ≡ l.maximum)
      by_points None = (omega arith, omega arith)
      by_points (Some p) = (omega arith, omega arith)

  -- of every delivered header
  pub header-pair : (h : List ℕ) → (write_header l st h).outcome ≡ delivered []
      → (get_or (write_header l st h).header 30 0 ≡ l.minimum) × (get_or (write_header l st h).header 31 0 ≡ l.maximum)
  header-pair h =
      header_case l st h (λ x. x.outcome ≡ delivered [] → (get_or x.header 30 0 ≡ l.minimum) × (get_or x.header 31 0 ≡ l.maximum))
      (λ _ e. never (sym e)) (λ _ _ e. never (sym e)) (λ _ _ _ e. never (sym e))
      (λ legal _ _ _. let (low, high) = pair-bytes (legal_sizes l legal) in (body_byte h 30 (omega arith) ∙ low, body_byte h 31 (omega arith) ∙ high))
