-- Pieces put over a list: its length, its bytes, and the header's 94. Assumes nothing.
use mathlib.Core.Path.{◌≡◌, refl, sym, ap, ◌∙◌}
use mathlib.Core.List.{List, [], ◌∷◌, ◌++◌}
use mathlib.Core.Bool.{Bool, true, false, cond, ◌&&◌}
use Prim.Native.Nat.{ℕ, ◌+◌, ◌-◌, ◌≤◌}
use native.Mathlib.Omega.{arith}
use borrow.Author.Tests.{leb-true, leb-false, ltb-true, ltb-false}
use lib.Dec.{leb, ltb}
use lib.ListN.{length, get_or, take, replicate, get_or-replicate}
use lib.Seq.{length-take-le, get_or-take}
use Rattle.std.specs.Prelude.{Option, Some, None}
use Rattle.buffers.specs.Walk.{build}
use Rattle.buffers.proofs.Build.{build-of}
use Rattle.buffers.proofs.Tests.{and_fst, and_snd}
use Rattle.numbers.specs.Numbers.{high_first, replaced}
use Rattle.numbers.proofs.HighFirst.{high-length}
use Rattle.numbers.proofs.Replaced.{replaced-length, replaced-before, replaced_inside, replaced-after}
use Rattle.rules.specs.declared.Layout.{Layout}
use Rattle.rules_files.specs.declared.header.LoopPoints.{LoopPoints}
use Rattle.rules_files.specs.declared.header.Stream.{Stream}
use Rattle.rules_files.specs.FileHeader.{Piece, covers, piece_bytes, byte_of, stamped, pieces, pieces_with, header_byte}
use Rattle.rules_files.specs.FileHeader.{magic_pieces, format_pieces, frame_pieces, band_pieces, loop_pieces, after_loop, tail_pieces}

-- every piece ends within n bytes
unfoldable pub within : (n : ℕ) (ps : List Piece) → Bool
within n [] = true
within n (p ∷ ps) = leb (p.offset + p.width) n && within n ps

-- one piece after the other, in two parts
pub stamped-append : (ps qs : List Piece) (s : List ℕ) → stamped (ps ++ qs) s ≡ stamped qs (stamped ps s)
unfolding stamped
stamped-append [] qs s = refl
stamped-append (p ∷ ps) qs s = stamped-append ps qs (replaced s p.offset (piece_bytes p))

-- one put after the other
pub put_first : (p : Piece) (ps : List Piece) (s u t : List ℕ) → u ≡ replaced s p.offset (piece_bytes p) → t ≡ stamped ps u → t ≡ stamped (p ∷ ps) s
unfolding stamped
put_first p ps s u t e f = f ∙ ap (stamped ps) e

-- of a value that was worked out
pub put_worked : (p : Piece) (ps : List Piece) (s u t : List ℕ) (v : ℕ) → v ≡ p.value → u ≡ replaced s p.offset (high_first p.width v) → t ≡ stamped ps u
    → t ≡ stamped (p ∷ ps) s
put_worked p ps s u t v q e f = put_first p ps s u t (e ∙ ap (λ (x : ℕ). replaced s p.offset (high_first p.width x)) q) f

pub put_none : (s : List ℕ) → s ≡ stamped [] s
unfolding stamped
put_none s = refl

module _ (s : List ℕ) (p : Piece) (h : p.offset + p.width ≤ length s) where
  put_length : length (replaced s p.offset (piece_bytes p)) ≡ length s
  put_length = replaced-length s p.offset (piece_bytes p) (rw (high-length p.width p.value) h)

  put_at : (i : ℕ) → get_or (replaced s p.offset (piece_bytes p)) i 0 ≡ cond (covers p i) (get_or (piece_bytes p) (i - p.offset) 0) (get_or s i 0)
  put_at i = by_start (leb p.offset i) refl
    where
      by_end : (b : Bool) → ltb i (p.offset + p.width) ≡ b → p.offset ≤ i
          → get_or (replaced s p.offset (piece_bytes p)) i 0 ≡ cond b (get_or (piece_bytes p) (i - p.offset) 0) (get_or s i 0)
      by_end true e k = replaced_inside s p.offset (piece_bytes p) i k (rw (high-length p.width p.value) (ltb-true _ _ e)) (omega arith)
      by_end false e k = replaced-after s p.offset (piece_bytes p) i (rw (high-length p.width p.value) (ltb-false _ _ e)) (omega arith)

      by_start : (b : Bool) → leb p.offset i ≡ b
          → get_or (replaced s p.offset (piece_bytes p)) i 0 ≡ cond (b && ltb i (p.offset + p.width)) (get_or (piece_bytes p) (i - p.offset) 0) (get_or s i 0)
      by_start true e = by_end (ltb i (p.offset + p.width)) refl (leb-true _ _ e)
      by_start false e = replaced-before s p.offset (piece_bytes p) i (leb-false _ _ e) (omega arith)

module _ (n : ℕ) where
  pub stamped-length : (ps : List Piece) (s : List ℕ) → within n ps ≡ true → length s ≡ n → length (stamped ps s) ≡ n
  unfolding stamped within
  stamped-length [] s w e = e
  stamped-length (p ∷ ps) s w e =
      let h : p.offset + p.width ≤ length s = rw e (leb-true _ _ (and_fst _ _ w)) in
      stamped-length ps (replaced s p.offset (piece_bytes p)) (and_snd (leb (p.offset + p.width) n) _ w) (put_length s p h ∙ e)

  pub stamped-at : (ps : List Piece) (s : List ℕ) → within n ps ≡ true → length s ≡ n → (i : ℕ) → get_or (stamped ps s) i 0 ≡ byte_of ps i (get_or s i 0)
  unfolding stamped within byte_of
  stamped-at [] s w e i = refl
  stamped-at (p ∷ ps) s w e i =
      let h : p.offset + p.width ≤ length s = rw e (leb-true _ _ (and_fst _ _ w)) in
      stamped-at ps (replaced s p.offset (piece_bytes p)) (and_snd (leb (p.offset + p.width) n) _ w) (put_length s p h ∙ e) i
      ∙ ap (byte_of ps i) (put_at s p h i)

-- ---- the header's pieces

module _ (l : Layout) (st : Stream) where
  -- all stand before the check
  pub header-within : within 96 (pieces l st) ≡ true
  unfolding pieces within loop_pieces after_loop
  header-within = by_points st.points
    where
      by_points : (p : Option LoopPoints) → within 96 (pieces_with l st p) ≡ true
      by_points None = refl
      by_points (Some p) = refl

  -- over zeros they give the first 94 bytes
  pub header-body : take 94 (stamped (pieces l st) (replicate 96 0)) ≡ build (header_byte l st) 94
  header-body =
      let z : length (stamped (pieces l st) (replicate 96 0)) ≡ 96 = stamped-length 96 (pieces l st) (replicate 96 0) header-within refl in
      build-of (header_byte l st) 94 0 (take 94 (stamped (pieces l st) (replicate 96 0)))
      (length-take-le 94 (stamped (pieces l st) (replicate 96 0)) (omega arith))
      (λ i h. get_or-take 94 (stamped (pieces l st) (replicate 96 0)) i 0 h
      ∙ stamped-at 96 (pieces l st) (replicate 96 0) header-within refl i
      ∙ ap (byte_of (pieces l st) i) (get_or-replicate 96 i 0 0 (omega arith)))

  -- chunk by chunk, as the writer puts them
  pub header-stamped : (s a b c d e f : List ℕ) (at : ℕ) → a ≡ stamped magic_pieces s → b ≡ stamped (format_pieces l.channels st) a
      → c ≡ stamped (frame_pieces l) b → d ≡ stamped (band_pieces l) c → e ≡ stamped (loop_pieces st.points) d
      → at ≡ after_loop st.points → f ≡ stamped (tail_pieces at) e → f ≡ stamped (pieces l st) s
  unfolding pieces
  header-stamped s a b c d e f at ea eb ec ed ee q ef =
      let p₅ : List Piece = tail_pieces (after_loop st.points) in
      let p₄ : List Piece = loop_pieces st.points ++ p₅ in
      let p₃ : List Piece = band_pieces l ++ p₄ in
      let p₂ : List Piece = frame_pieces l ++ p₃ in
      let p₁ : List Piece = format_pieces l.channels st ++ p₂ in
      ef
      ∙ ap (λ (n : ℕ). stamped (tail_pieces n) e) q
      ∙ ap (stamped p₅) ee
      ∙ sym (stamped-append (loop_pieces st.points) p₅ d)
      ∙ ap (stamped p₄) ed
      ∙ sym (stamped-append (band_pieces l) p₄ c)
      ∙ ap (stamped p₃) ec
      ∙ sym (stamped-append (frame_pieces l) p₃ b)
      ∙ ap (stamped p₂) eb
      ∙ sym (stamped-append (format_pieces l.channels st) p₂ a)
      ∙ ap (stamped p₁) ea
      ∙ sym (stamped-append magic_pieces p₁ s)
