-- What refusal 16 tests, as a test and as facts. Assumes nothing.
use mathlib.Core.Path.{◌≡◌, refl}
use mathlib.Core.Bool.{true, false}
use Prim.Native.Nat.{◌+◌, ◌≤◌}
use borrow.Author.Tests.{le-leb, leb-true}
use lib.Dec.{leb}
use Rattle.std.specs.Prelude.{Option, Some, None}
use Rattle.buffers.proofs.Tests.{and_fst, and_snd, and-true, not_true_false}
use Rattle.rules.specs.declared.Layout.{Layout}
use Rattle.rules_files.specs.declared.header.LoopPoints.{LoopPoints}
use Rattle.rules_files.specs.declared.header.Stream.{Stream}
use Rattle.rules_files.specs.FileHeader.{encoder_delay, fits_points, fits_header, PointsFit, HeaderFits}

pub points_true : (p : Option LoopPoints) → PointsFit p → fits_points p ≡ true
unfolding fits_points
points_true None h = refl
points_true (Some p) h = and-true (le-leb _ _ h.0) (le-leb _ _ h.1)

pub points_facts : (p : Option LoopPoints) → fits_points p ≡ true → PointsFit p
unfolding fits_points
points_facts None e = tt
points_facts (Some p) e =
    (leb-true _ _ (and_fst (leb (p.start + encoder_delay) 0xFFFFFFFF) _ e), leb-true _ _ (and_snd (leb (p.start + encoder_delay) 0xFFFFFFFF) _ e))

pub points_false : (p : Option LoopPoints) → (PointsFit p → ⊥) → fits_points p ≡ false
points_false p h = not_true_false (fits_points p) (λ e. h (points_facts p e))

module _ (l : Layout) (st : Stream) where
  pub fits_true : HeaderFits l st → fits_header l st ≡ true
  unfolding fits_header
  fits_true h =
      rw (
        le-leb _ _ h.channels,
        le-leb _ _ h.rated,
        le-leb _ _ h.rate,
        le-leb _ _ h.frames,
        le-leb _ _ h.padding,
        points_true st.points h.points,
      )

  -- where the other numbers fit, the points decide
  pub fits_by_points : l.channels ≤ 8 → 1 ≤ st.rate → st.rate ≤ 0x7FFFFF → st.frames ≤ 0xFFFFFFFF → st.padding ≤ 0xFFFF
      → fits_header l st ≡ fits_points st.points
  unfolding fits_header
  fits_by_points a b c d e = rw (le-leb _ _ a, le-leb _ _ b, le-leb _ _ c, le-leb _ _ d, le-leb _ _ e)

  pub fits_facts : fits_header l st ≡ true → HeaderFits l st
  unfolding fits_header
  fits_facts e₁ =
      let e₂ = and_snd (leb l.channels 8) _ e₁ in
      let e₃ = and_snd (leb 1 st.rate) _ e₂ in
      let e₄ = and_snd (leb st.rate 0x7FFFFF) _ e₃ in
      let e₅ = and_snd (leb st.frames 0xFFFFFFFF) _ e₄ in
      record {
        channels = leb-true _ _ (and_fst (leb l.channels 8) _ e₁);
        rated = leb-true _ _ (and_fst (leb 1 st.rate) _ e₂);
        rate = leb-true _ _ (and_fst (leb st.rate 0x7FFFFF) _ e₃);
        frames = leb-true _ _ (and_fst (leb st.frames 0xFFFFFFFF) _ e₄);
        padding = leb-true _ _ (and_fst (leb st.padding 0xFFFF) _ e₅);
        points = points_facts st.points (and_snd (leb st.padding 0xFFFF) _ e₅);
      }

  pub fits_false : (HeaderFits l st → ⊥) → fits_header l st ≡ false
  fits_false h = not_true_false (fits_header l st) (λ e. h (fits_facts e))
