-- Request A14, for C: what `hca_write_header` stores is read by `hca_read_header` to the same numbers, and those give the same bytes. Assumes nothing.
use mathlib.Core.Path.{◌≡◌, refl, sym, ap, ◌∙◌}
use mathlib.Core.List.{List, [], ◌∷◌, ◌++◌}
use mathlib.Core.Bool.{true, false, cond, not}
use Prim.Native.Nat.{ℕ, ◌≤◌, ◌<◌}
use native.Mathlib.Omega.{arith}
use borrow.Author.Tests.{le-ltb}
use lib.Dec.{ltb, eqb}
use lib.ListN.{length, get_or, take, drop}
use Rattle.std.specs.Prelude.{Option, Some, None, Ok}
use Rattle.bits.specs.Bits.{Bytes}
use Rattle.buffers.specs.Walk.{build}
use Rattle.buffers.proofs.Tests.{cond_both}
use Rattle.rules.specs.Lent.{overwrite}
use Rattle.rules.specs.Refusals.{delivered, refused}
use Rattle.rules.specs.declared.Layout.{Layout}
use Rattle.rules.specs.declared.Mode.TheVariants.{Rust}
use Rattle.rules_files.specs.declared.header.LoopPoints.{LoopPoints}
use Rattle.rules_files.specs.declared.header.Stream.{Stream}
use Rattle.rules_files.specs.declared.header.FileHeader.{FileHeader}
use Rattle.rules_files.specs.FileHeader.{HeaderLeft, write_header}
use Rattle.rules_files.specs.HeaderReading.{points_back, loop_numbers, layout_numbers, loop_frames, read_header, header_read_outcome, header_layout}
use Rattle.rules_files.proofs.HeaderTheorems.{header_case}
use Rattle.file_header_demands.proofs.Back.{header-back}
use Rattle.file_header_demands.proofs.Restored.{header_restored}
use Rattle.refusals.specs.Refusals.{refusal_of}
use Rattle.hca_layout.specs.Layouts.{mode_of, channel_at, layout_of, is_layout}
use Rattle.hca_answers.specs.Outcomes.{result_of, numbers_of, answer_after}
use Rattle.hca_files.specs.WriteHeader.{CHeaderLeft, c_header_left, points_of, stream_of, c_header_from, c_write_header}
use Rattle.hca_files.specs.ReadHeader.{c_header_read_left, c_header_read_from, c_read_header}

-- ---- there

module _ (numbers kinds stream points header : List ℕ) where
  abbrev written : HeaderLeft
  written = write_header (layout_of numbers kinds) (stream_of stream points) header

  -- a call that returns 0 stored the writer's header
  stored-zero : (c_header_from written).result ≡ 0 → written.outcome ≡ delivered []
  unfolding c_header_from refusal_of
  stored-zero =
      header_case (layout_of numbers kinds) (stream_of stream points) header (λ x. (c_header_from x).result ≡ 0 → x.outcome ≡ delivered [])
      (λ _ e. absurd (omega arith)) (λ _ _ e. absurd (omega arith)) (λ _ _ _ e. absurd (omega arith)) (λ _ _ _ _. refl)

  record_zero : (c_write_header numbers kinds stream points header).result ≡ 0
      → (written.outcome ≡ delivered []) × ((c_write_header numbers kinds stream points header).header ≡ written.header)
  unfolding c_write_header c_header_from refusal_of
  record_zero =
      cond_both (λ (x : CHeaderLeft). x.result ≡ 0 → (written.outcome ≡ delivered []) × (x.header ≡ written.header)) (not (is_layout numbers kinds))
      (λ _ e. absurd (omega arith))
      (λ _. cond_both (λ (x : CHeaderLeft). x.result ≡ 0 → (written.outcome ≡ delivered []) × (x.header ≡ written.header)) (ltb (length stream) 3)
      (λ _ e. absurd (omega arith))
      (λ _. cond_both (λ (x : CHeaderLeft). x.result ≡ 0 → (written.outcome ≡ delivered []) × (x.header ≡ written.header)) (eqb (length points) 1)
      (λ _ e. absurd (omega arith))
      (λ _ e. (stored-zero e, refl))))

  -- the same seven numbers, the three of the stream, and the loop
  pub c_header_back : (layout answer : List ℕ) → 7 ≤ length layout → 8 ≤ length answer → (c_write_header numbers kinds stream points header).result ≡ 0
      → c_read_header (c_write_header numbers kinds stream points header).header layout answer
      ≡ c_header_read_left 0
      (overwrite (get_or numbers 0 0 ∷ get_or numbers 1 0 ∷ get_or numbers 2 0 ∷ get_or numbers 3 0 ∷ get_or numbers 4 0 ∷ get_or numbers 5 1 ∷ get_or numbers 6 15 ∷ [])
      layout)
      (overwrite (get_or stream 0 0 ∷ get_or stream 1 0 ∷ get_or stream 2 0 ∷ loop_numbers (loop_frames (points_of points))) answer)
  unfolding c_read_header c_header_read_from header_read_outcome header_layout result_of numbers_of answer_after layout_of stream_of
  c_header_back layout answer k m e =
      let (d, same) = record_zero e in
      let (r, _, _) = header-back (layout_of numbers kinds) (stream_of stream points) header d in
      let q : 4 ≤ length answer = omega arith in
      rw (le-ltb _ _ m, le-ltb _ _ k, same, r, le-ltb _ _ q)

-- ---- and back

-- the points as C's call takes them
unfoldable pub point_numbers : (points : Option LoopPoints) → List ℕ
point_numbers None = []
point_numbers (Some p) = p.start ∷ p.end ∷ []

points-stored : (p : Option LoopPoints) → points_of (point_numbers p) ≡ p
unfolding points_of point_numbers
points-stored None = refl
points-stored (Some p) = refl

two-or-none : (p : Option LoopPoints) → eqb (length (point_numbers p)) 1 ≡ false
unfolding point_numbers
two-or-none None = refl
two-or-none (Some p) = refl

-- the numbers of a header that is read, with any kinds, give the same 96 bytes
pub c_header_again : (h : List ℕ) → Bytes h → (f : FileHeader) → read_header h ≡ Ok f → (kinds header : List ℕ)
    → is_layout (layout_numbers f) kinds ≡ true → 96 ≤ length header
    → c_write_header (layout_numbers f) kinds (f.rate ∷ f.frames ∷ f.padding ∷ []) (point_numbers (points_back f.points)) header
    ≡ c_header_left 0 (take 96 h ++ drop 96 header)
unfolding c_write_header c_header_from refusal_of layout_of stream_of
c_header_again h b f e kinds header k m =
    rw (k, two-or-none (points_back f.points), points-stored (points_back f.points), header_restored h b f e (build (channel_at kinds) 16) Rust header m)
