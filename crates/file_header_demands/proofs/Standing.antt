-- Pieces that stand in a header: in the writer's bytes all of them do; and bytes where all do and the rest is 0 are the writer's. Assumes nothing.
use mathlib.Core.Path.{◌≡◌, refl, sym, ap, ◌∙◌}
use mathlib.Core.List.{List, [], ◌∷◌, ◌++◌}
use mathlib.Core.Bool.{Bool, true, false, cond, ◌&&◌, ◌||◌}
use Prim.Native.Nat.{ℕ, zero, suc, ◌+◌, ◌-◌, ◌≤◌, ◌<◌}
use native.Mathlib.Omega.{arith}
use borrow.Author.Tests.{eq-eqb, eqb-true, leb-true, ltb-true, le-ltb}
use lib.Dec.{eqb, leb, ltb}
use lib.ListN.{length, get_or, take, drop, length-drop}
use lib.Seq.{length-take-le, get_or-take, get_or-drop}
use Rattle.bits.specs.Bits.{Bytes}
use Rattle.buffers.specs.Walk.{build, every}
use Rattle.buffers.proofs.Build.{build-of}
use Rattle.buffers.proofs.Every.{every-at}
use Rattle.buffers.proofs.Tests.{and_fst, and_snd, and-true}
use Rattle.crc.specs.Sealed.{sealed, is_sealed}
use Rattle.crc.proofs.Sealed.{is_sealed_only}
use Rattle.numbers.specs.Numbers.{high_first, of_high}
use Rattle.numbers.proofs.HighFirst.{high_restored}
use Rattle.rules.specs.Layout.{legal_layout}
use Rattle.rules.specs.declared.Layout.{Layout}
use Rattle.rules_files.specs.declared.header.Stream.{Stream}
use Rattle.rules_files.specs.FileHeader.{Piece, covers, piece_bytes, byte_of, pieces, header_byte, header_of, fits_header}
use Rattle.rules_files.specs.HeaderReading.{number_at, stands, all_stand, zero_bytes}
use Rattle.rules_files.proofs.Pieces.{within, header-within}
use Rattle.rules_files.proofs.HeaderFields.{no_piece, pieces_read}

-- ---- pieces that stand, as facts

unfoldable pub Stand : (h : List ℕ) (ps : List Piece) → Type 0
Stand h [] = Unit {0}
Stand h (p ∷ ps) = (number_at h p ≡ p.value) × Stand h ps

module _ (h : List ℕ) where
  pub stand_facts : (ps : List Piece) → all_stand h ps ≡ true → Stand h ps
  unfolding Stand all_stand
  stand_facts [] e = tt
  stand_facts (p ∷ ps) e = (eqb-true _ _ (and_fst (stands h p) (all_stand h ps) e), stand_facts ps (and_snd (stands h p) (all_stand h ps) e))

  pub stand_true : (ps : List Piece) → Stand h ps → all_stand h ps ≡ true
  unfolding Stand all_stand
  stand_true [] s = refl
  stand_true (p ∷ ps) s = and-true (eq-eqb _ _ s.0) (stand_true ps s.1)

  pub stand_both : (ps qs : List Piece) → Stand h ps → Stand h qs → Stand h (ps ++ qs)
  unfolding Stand
  stand_both [] qs s t = t
  stand_both (p ∷ ps) qs s t = (s.0, stand_both ps qs s.1 t)

  pub stand_left : (ps qs : List Piece) → Stand h (ps ++ qs) → Stand h ps
  unfolding Stand
  stand_left [] qs s = tt
  stand_left (p ∷ ps) qs s = (s.0, stand_left ps qs s.1)

  pub stand_right : (ps qs : List Piece) → Stand h (ps ++ qs) → Stand h qs
  unfolding Stand
  stand_right [] qs s = s
  stand_right (p ∷ ps) qs s = stand_right ps qs s.1

  by_index : (ps : List Piece) → ((k : ℕ) → k < length ps → number_at h (get_or ps k no_piece) ≡ (get_or ps k no_piece).value) → Stand h ps
  unfolding Stand
  by_index [] f = tt
  by_index (p ∷ ps) f = (f 0 (omega arith), by_index ps (λ k q. f (suc k) (omega arith)))

-- ---- in the writer's bytes

pub written_stand : (l : Layout) (st : Stream) → legal_layout l ≡ true → fits_header l st ≡ true → Stand (header_of l st) (pieces l st)
unfolding number_at
written_stand l st legal fits = by_index (header_of l st) (pieces l st) (λ k q. pieces_read l st k q legal fits)

-- behind the last piece nothing is put
pub byte_behind : (n : ℕ) (ps : List Piece) → within n ps ≡ true → (i blank : ℕ) → n ≤ i → byte_of ps i blank ≡ blank
unfolding within byte_of
byte_behind n [] w i blank q = refl
byte_behind n (p ∷ ps) w i blank q =
    let e : p.offset + p.width ≤ n = leb-true _ _ (and_fst _ _ w) in
    let g : p.offset + p.width ≤ i = omega arith in
    let c : covers p i ≡ false = uncovered (leb p.offset i) (le-ltb _ _ g) in
    rw c (byte_behind n ps (and_snd (leb (p.offset + p.width) n) _ w) i blank q)
  where
    uncovered : (b : Bool) → ltb i (p.offset + p.width) ≡ false → (b && ltb i (p.offset + p.width)) ≡ false
    uncovered true e = e
    uncovered false e = refl

-- ---- bytes back

pub bytes_drop : (n : ℕ) (s : List ℕ) → Bytes s → Bytes (drop n s)
bytes_drop zero s b = b
bytes_drop (suc n) [] b = tt
bytes_drop (suc n) (x ∷ s) b = bytes_drop n s b.1

pub bytes_take : (n : ℕ) (s : List ℕ) → Bytes s → Bytes (take n s)
bytes_take zero s b = tt
bytes_take (suc n) [] b = tt
bytes_take (suc n) (x ∷ s) b = (b.0, bytes_take n s b.1)

-- some piece covers byte i
unfoldable pub covered : (ps : List Piece) (i : ℕ) → Bool
covered [] i = false
covered (p ∷ ps) i = covers p i || covered ps i

module _ (h : List ℕ) (b : Bytes h) where
  piece_bytes_lem : (p : Piece) → p.offset + p.width ≤ length h → number_at h p ≡ p.value → piece_bytes p ≡ take p.width (drop p.offset h)
  unfolding number_at
  piece_bytes_lem p w e =
      let t : List ℕ = take p.width (drop p.offset h) in
      let n : length t ≡ p.width = length-take-le p.width (drop p.offset h) (omega (arith, length-drop p.offset h)) in
      ap (high_first p.width) (sym e)
      ∙ ap (λ (k : ℕ). high_first k (of_high t)) (sym n)
      ∙ high_restored t (bytes_take p.width (drop p.offset h) (bytes_drop p.offset h b))

  byte_inside : (p : Piece) (i : ℕ) → p.offset + p.width ≤ length h → number_at h p ≡ p.value → covers p i ≡ true
      → get_or (piece_bytes p) (i - p.offset) 0 ≡ get_or h i 0
  byte_inside p i w e c =
      let a : p.offset ≤ i = leb-true _ _ (and_fst (leb p.offset i) (ltb i (p.offset + p.width)) c) in
      let z : i < p.offset + p.width = ltb-true _ _ (and_snd (leb p.offset i) (ltb i (p.offset + p.width)) c) in
      let q : p.offset + (i - p.offset) ≡ i = omega arith in
      ap (λ (s : List ℕ). get_or s (i - p.offset) 0) (piece_bytes_lem p w e)
      ∙ get_or-take p.width (drop p.offset h) (i - p.offset) 0 (omega arith)
      ∙ get_or-drop p.offset h (i - p.offset) 0
      ∙ ap (λ (k : ℕ). get_or h k 0) q

  whole : (ps : List Piece) (i blank : ℕ) → within (length h) ps ≡ true → Stand h ps → (covered ps i ≡ false → blank ≡ get_or h i 0)
      → byte_of ps i blank ≡ get_or h i 0
  unfolding byte_of within Stand covered
  whole [] i blank w s z = z refl
  whole (p ∷ ps) i blank w s z = whole ps i _ (and_snd (leb (p.offset + p.width) (length h)) _ w) s.1 (by_cover (covers p i) refl)
    where
      by_cover : (c : Bool) → covers p i ≡ c → covered ps i ≡ false → cond c (get_or (piece_bytes p) (i - p.offset) 0) blank ≡ get_or h i 0
      by_cover true e k = byte_inside p i (leb-true _ _ (and_fst _ _ w)) s.0 e
      by_cover false e k = z (rw (e, k))

  pub header_again : (l : Layout) (st : Stream) → length h ≡ 96 → is_sealed h ≡ true → Stand h (pieces l st)
      → ((i : ℕ) → i < 94 → covered (pieces l st) i ≡ false → 0 ≡ get_or h i 0) → header_of l st ≡ h
  unfolding header_of
  header_again l st n t s z =
      let w : within (length h) (pieces l st) ≡ true = ap (λ (k : ℕ). within k (pieces l st)) n ∙ header-within l st in
      let k : length h - 2 ≡ 94 = omega arith in
      let c : take 94 h ≡ build (header_byte l st) 94 =
      build-of (header_byte l st) 94 0 (take 94 h) (length-take-le 94 h (omega arith))
      (λ i q. get_or-take 94 h i 0 q ∙ sym (whole (pieces l st) i 0 w s (z i q))) in
      ap sealed (sym c ∙ ap (λ (m : ℕ). take m h) (sym k)) ∙ sym (is_sealed_only h b (omega arith) t)

-- ---- a stretch of zeros

pub zero-at : (h : List ℕ) (from to i : ℕ) → zero_bytes h from to ≡ true → from ≤ i → i < to → 0 ≡ get_or h i 0
unfolding zero_bytes
zero-at h from to i e a z =
    let q : from + (i - from) ≡ i = omega arith in
    sym (ap (λ (k : ℕ). get_or h k 0) (sym q) ∙ eqb-true _ _ (every-at _ (to - from) (i - from) e (omega arith)))
