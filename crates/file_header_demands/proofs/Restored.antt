-- Request A14: what is accepted, written again with any kinds, gives the same 96 bytes; so accepted is exactly what the writer writes. Assumes nothing.
use mathlib.Core.Path.{◌≡◌, refl, sym, ap, ◌∙◌, subst}
use mathlib.Core.List.{List, [], ◌∷◌, ◌++◌}
use mathlib.Core.Logic.{◌↔◌}
use mathlib.Core.Bool.{Bool, true, false, cond, not, ◌&&◌, ◌||◌}
use Prim.Native.Nat.{ℕ, ◌+◌, ◌-◌, ◌*◌, ◌^◌, ◌≤◌, ◌<◌}
use native.Mathlib.Omega.{arith}
use borrow.Author.Tests.{not-true, not-false, eqb-true, leb-true, ltb-true, ltb-false, le-ltb}
use lib.Dec.{leb, ltb}
use lib.ListN.{length, get_or, take, drop, length-drop, take-append-drop}
use lib.Seq.{length-take-le}
use Rattle.std.specs.Prelude.{Option, Some, None, Ok}
use Rattle.bits.specs.Bits.{Bytes}
use Rattle.buffers.specs.Walk.{every}
use Rattle.buffers.proofs.Every.{every-at}
use Rattle.buffers.proofs.Tests.{and_fst, and_snd, cond_both}
use Rattle.crc.specs.Sealed.{is_sealed}
use Rattle.numbers.specs.Numbers.{of_high}
use Rattle.numbers.proofs.HighFirst.{high-below}
use Rattle.rules.specs.Layout.{legal_layout, bands_per_group}
use Rattle.rules.specs.Lent.{overwrite}
use Rattle.rules.specs.Reader.{ReaderLent, read_frame}
use Rattle.rules.specs.Refusals.{delivered, refused}
use Rattle.rules.specs.declared.Channel.{Channel}
use Rattle.rules.specs.declared.Layout.{Layout}
use Rattle.rules.specs.declared.Mode.{Mode}
use Rattle.rules.specs.declared.Mode.TheVariants.{Rust}
use Rattle.rules.proofs.Layouts.{legal_true}
use Rattle.rules_files.specs.declared.header.LoopPoints.{LoopPoints}
use Rattle.rules_files.specs.declared.header.LoopFields.{LoopFields}
use Rattle.rules_files.specs.declared.header.Stream.{Stream}
use Rattle.rules_files.specs.declared.header.FileHeader.{FileHeader}
use Rattle.rules_files.specs.FileHeader.{Piece, piece, magic_pieces, format_pieces, frame_pieces, band_pieces, field_pieces, loop_pieces}
use Rattle.rules_files.specs.FileHeader.{tail_at, after_loop, tail_pieces}
use Rattle.rules_files.specs.FileHeader.{count_piece, padding_piece, loop_fields, pieces, pieces_with, header_of, fits_header, HeaderLeft, write_header}
use Rattle.rules_files.specs.FileHeader.{start_frame_piece, end_frame_piece, start_delay_piece, end_padding_piece}
use Rattle.rules_files.specs.HeaderReading.{number_at, field_at, all_stand, looped, tail_of, name_pieces, names_right, loop_at, fields_of, layout_with, limits_right}
use Rattle.rules_files.specs.HeaderReading.{given_pieces, loop_right, fields_right, zero_bytes, rest_zero, points_back, stream_back, exact_read, read_header}
use Rattle.rules_demands.proofs.ReaderExactly.{read_one_exactly}
use Rattle.rules_files.proofs.HeaderFitting.{fits_true}
use Rattle.rules_files.proofs.HeaderTheorems.{header-bytes, header_case}
use Rattle.rules_files.proofs.HeaderReads.{exact_case}
use Rattle.rules_files.proofs.HeaderJudging.{LoopIs, loop_facts, Limits, limits_facts, legal_any}
use Rattle.file_header_demands.proofs.Points.{fields_again, back_given, back_fits}
use Rattle.file_header_demands.proofs.Standing.{Stand, stand_facts, stand_both, covered, header_again, zero-at, bytes_take, bytes_drop}
use Rattle.file_header_demands.proofs.Back.{any_value, header-back}

-- ---- loop and tail

record Again (h : List ℕ) (at : ℕ) (p : Option LoopPoints) : Type 0 where
  pub place : after_loop p ≡ at
  pub stand : Stand h (loop_pieces p ++ tail_pieces (after_loop p))

given_again : (h : List ℕ) (p : LoopPoints) → loop_fields p.start p.end ≡ loop_at h → looped h ≡ true → Stand h (tail_pieces 56) → Again h 56 (Some p)
unfolding Stand loop_pieces after_loop loop_at
given_again h p e t s =
    let name : number_at h (piece 40 4 0x6C6F6F70) ≡ 0x6C6F6F70 = eqb-true _ _ t in
    let all : Stand h (field_pieces (loop_at h)) = (name, (any_value h 44 4 _ _, (any_value h 48 4 _ _, (any_value h 52 2 _ _, (any_value h 54 2 _ _, tt))))) in
    record {
      place = refl;
      stand = stand_both h (field_pieces (loop_fields p.start p.end)) (tail_pieces 56) (subst (λ (x : LoopFields). Stand h (field_pieces x)) (sym e) all) s;
    }

tail_again : (h : List ℕ) (b : Bool) → looped h ≡ b → loop_right (cond b (Some (loop_at h)) None) ≡ true → Stand h (tail_pieces (tail_at b))
    → Again h (tail_at b) (points_back (cond b (Some (loop_at h)) None))
unfolding points_back loop_pieces after_loop
tail_again h false t r s = record { place = refl; stand = s }
tail_again h true t r s =
    let k : LoopIs (loop_at h) = loop_facts _ r in
    subst (Again h 56) (sym (back_given _ k)) (given_again h _ (fields_again _ k) t s)

-- ---- the rest

-- what no piece covers
uncovered : (l : Layout) (st : Stream) (p : Option LoopPoints)
    → every (λ i. covered (pieces_with l st p) i || ((leb 38 i && ltb i 40) || leb (after_loop p + 10) i)) 94 ≡ true
unfolding covered loop_pieces after_loop every
uncovered l st None = refl
uncovered l st (Some p) = refl

-- ---- all four passes

module _ (h : List ℕ) (b : Bytes h) (n : length h ≡ 96) (t : is_sealed h ≡ true) (names : names_right h ≡ true) (right : fields_right h ≡ true)
    (rest : rest_zero h ≡ true) (kinds : List Channel) (mode : Mode) where
  abbrev f : FileHeader
  f = fields_of h

  abbrev l : Layout
  l = layout_with f kinds mode

  abbrev st : Stream
  st = stream_back f

  limits : Limits f
  unfolding fields_right
  limits = limits_facts f (and_fst (limits_right f) _ right)

  right₂ : (all_stand h (given_pieces f (tail_of h)) && loop_right f.points) ≡ true
  unfolding fields_right
  right₂ = and_snd (limits_right f) _ right

  given : Stand h (given_pieces f (tail_of h))
  given = stand_facts h (given_pieces f (tail_of h)) (and_fst _ _ right₂)

  loop : loop_right f.points ≡ true
  loop = and_snd (all_stand h (given_pieces f (tail_of h))) _ right₂

  named : Stand h (name_pieces (tail_of h))
  unfolding names_right
  named = stand_facts h (name_pieces (tail_of h)) names

  pub lawful : legal_layout l ≡ true
  lawful = legal_any f kinds [] mode Rust ∙ legal_true (layout_with f [] Rust) limits.sizes

  number-below : (p : Piece) → p.offset + p.width ≤ 96 → number_at h p < 256 ^ p.width
  unfolding number_at
  number-below p w =
      let u : List ℕ = take p.width (drop p.offset h) in
      let k : length u ≡ p.width = length-take-le p.width (drop p.offset h) (omega (arith, length-drop p.offset h)) in
      subst (λ (m : ℕ). of_high u < 256 ^ m) k (high-below u (bytes_take p.width (drop p.offset h) (bytes_drop p.offset h b)))

  pub fitting : fits_header l st ≡ true
  unfolding fields_of
  fitting =
      fits_true l st
      (record {
        channels = limits.few;
        rated = limits.rated;
        rate = limits.rate;
        frames = omega (arith, number-below (count_piece 0) (omega arith));
        padding = omega (arith, number-below (padding_piece 0) (omega arith));
        points = back_fits f.points loop;
      })

  magic : Stand h magic_pieces
  unfolding Stand
  magic = (named.0, (named.1.0, (given.0, tt)))

  format : Stand h (format_pieces l.channels st)
  unfolding Stand fields_of
  format =
      (named.1.1.0, (any_value h 12 1 _ _, (any_value h 13 3 _ _, (any_value h 16 4 _ _, (given.1.0, (any_value h 22 2 _ _, tt))))))

  frame : Stand h (frame_pieces l)
  unfolding Stand fields_of
  frame = (named.1.1.1.0, (any_value h 28 2 _ _, (any_value h 30 1 _ _, (any_value h 31 1 _ _, (given.1.1.0, tt)))))

  band : Stand h (band_pieces l)
  unfolding Stand fields_of bands_per_group
  band = (given.1.1.1.0, (any_value h 34 1 _ _, (any_value h 35 1 _ _, (any_value h 36 1 _ _, (given.1.1.1.1.0, tt)))))

  again : Again h (tail_of h) st.points
  unfolding Stand fields_of
  again = tail_again h (looped h) refl loop (named.1.1.1.1.0, (given.1.1.1.1.1.0, (named.1.1.1.1.1.0, tt)))

  all : Stand h (pieces l st)
  unfolding pieces
  all =
      stand_both h magic_pieces _ magic
      (stand_both h (format_pieces l.channels st) _ format
      (stand_both h (frame_pieces l) _ frame (stand_both h (band_pieces l) _ band again.stand)))

  blank : (i : ℕ) → i < 94 → covered (pieces l st) i ≡ false → 0 ≡ get_or h i 0
  unfolding rest_zero pieces
  blank i q c = by_place (leb 38 i && ltb i 40) refl (past (every-at _ 94 i (uncovered l st st.points) q))
    where
      past : (covered (pieces_with l st st.points) i || ((leb 38 i && ltb i 40) || leb (after_loop st.points + 10) i)) ≡ true
          → ((leb 38 i && ltb i 40) || leb (after_loop st.points + 10) i) ≡ true
      past e = rw c at e

      by_place : (x : Bool) → (leb 38 i && ltb i 40) ≡ x → (x || leb (after_loop st.points + 10) i) ≡ true → 0 ≡ get_or h i 0
      by_place true e k =
          zero-at h 38 40 i (and_fst (zero_bytes h 38 40) _ rest) (leb-true _ _ (and_fst (leb 38 i) (ltb i 40) e))
          (ltb-true _ _ (and_snd (leb 38 i) (ltb i 40) e))
      by_place false e k =
          let a : after_loop st.points + 10 ≤ i = leb-true _ _ k in
          zero-at h (tail_of h + 6 + 4) 94 i (and_snd (zero_bytes h 38 40) _ rest) (omega (arith, again.place)) q

  pub same_bytes : header_of l st ≡ h
  same_bytes = header_again h b l st n t all blank

-- ---- what is accepted

pub record Accepted (h : List ℕ) (f : FileHeader) : Type 0 where
  pub closed : is_sealed h ≡ true
  pub names : names_right h ≡ true
  pub right : fields_right h ≡ true
  pub rest : rest_zero h ≡ true
  pub fields : f ≡ fields_of h

pub exact_accepted : (h : List ℕ) (f : FileHeader) → exact_read h ≡ Ok f → Accepted h f
exact_accepted h f =
    exact_case h (λ a. a ≡ Ok f → Accepted h f)
    (λ _ e. let z : ◌≡◌ {A = ℕ} 0 1 = cc e in absurd (omega arith)) (λ _ _ e. let z : ◌≡◌ {A = ℕ} 0 1 = cc e in absurd (omega arith))
    (λ _ _ _ e. let z : ◌≡◌ {A = ℕ} 0 1 = cc e in absurd (omega arith)) (λ _ _ _ _ e. let z : ◌≡◌ {A = ℕ} 0 1 = cc e in absurd (omega arith))
    (λ a b c d e. record { closed = a; names = b; right = c; rest = d; fields = cc e })

-- a header that is read has 96 bytes, and those are accepted
pub read_accepted : (h : List ℕ) (f : FileHeader) → read_header h ≡ Ok f → (96 ≤ length h) × Accepted (take 96 h) f
unfolding read_header
read_accepted h f =
    cond_both (λ a. a ≡ Ok f → (96 ≤ length h) × Accepted (take 96 h) f) (ltb (length h) 96)
    (λ _ e. let z : ◌≡◌ {A = ℕ} 0 1 = cc e in absurd (omega arith)) (λ k e. (ltb-false _ _ k, exact_accepted (take 96 h) f e))

-- ---- the theorems

module _ (h : List ℕ) (b : Bytes h) (f : FileHeader) (e : read_header h ≡ Ok f) (kinds : List Channel) (mode : Mode) where
  -- the layout handed out is legal with any kinds and mode, and has at most eight channels
  pub handed-legal : (legal_layout (layout_with f kinds mode) ≡ true) × (f.channels ≤ 8)
  unfolding fields_right
  handed-legal =
      let (_, a) = read_accepted h f e in
      let k : Limits f = rw a.fields (limits_facts (fields_of (take 96 h)) (and_fst (limits_right (fields_of (take 96 h))) _ a.right)) in
      (legal_any f kinds [] mode Rust ∙ legal_true (layout_with f [] Rust) k.sizes, k.few)

  -- so the strict reader never answers 1 for it
  pub handed_read : (lent : ReaderLent) (beside : ℕ) → (read_frame (layout_with f kinds mode) lent).outcome ≡ refused 1 beside → ⊥
  handed_read lent beside r =
      let (wrong, _) = (read_one_exactly (layout_with f kinds mode) lent beside).0 r in
      let z : ◌≡◌ {A = Bool} true false = sym handed-legal.0 ∙ wrong in
      let y : ◌≡◌ {A = ℕ} 0 1 = cc in
      omega arith

  pub restored_bytes : (fits_header (layout_with f kinds mode) (stream_back f) ≡ true) × (header_of (layout_with f kinds mode) (stream_back f) ≡ take 96 h)
  restored_bytes =
      let (n, a) = read_accepted h f e in
      let k : length (take 96 h) ≡ 96 = length-take-le 96 h n in
      rw a.fields (
        fitting (take 96 h) (bytes_take 96 h b) k a.closed a.names a.right a.rest kinds mode,
        same_bytes (take 96 h) (bytes_take 96 h b) k a.closed a.names a.right a.rest kinds mode,
      )

  -- what is accepted, written again with any kinds and mode over any buffer, is delivered and gives the same 96 bytes
  pub header_restored : (g : List ℕ) → 96 ≤ length g
      → write_header (layout_with f kinds mode) (stream_back f) g ≡ record { outcome = delivered []; header = take 96 h ++ drop 96 g }
  unfolding write_header
  header_restored g m =
      let (fits, same) = restored_bytes in
      let (legal, _) = handed-legal in
      let n = (header-bytes (layout_with f kinds mode) (stream_back f)).0 in
      rw (legal, le-ltb _ _ m, fits, n, same)

pub record IsRead (h : List ℕ) : Type 0 where
  pub fields : FileHeader
  pub read : read_header h ≡ Ok fields

pub record IsWritten (h : List ℕ) : Type 0 where
  pub layout : Layout
  pub stream : Stream
  pub written : write_header layout stream h ≡ record { outcome = delivered []; header = h }

-- accepted exactly when some layout and stream are delivered as these bytes
pub header-accepted : (h : List ℕ) → Bytes h → IsRead h ↔ IsWritten h
header-accepted h b = (there, back)
  where
    there : IsRead h → IsWritten h
    there r =
        let (n, _) = read_accepted h r.fields r.read in
        record {
          layout = layout_with r.fields [] Rust;
          stream = stream_back r.fields;
          written = header_restored h b r.fields r.read [] Rust h n
              ∙ ap (λ (x : List ℕ). record { outcome = delivered []; header = x }) (take-append-drop 96 h);
        }

    back : IsWritten h → IsRead h
    back w =
        let (r, _, _) = header-back w.layout w.stream h (ap (λ (x : HeaderLeft). x.outcome) w.written) in
        record { fields = _; read = ap (λ (x : HeaderLeft). read_header x.header) (sym w.written) ∙ r }
