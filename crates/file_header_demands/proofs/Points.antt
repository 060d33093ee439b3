-- Request A14: a loop's points and its four numbers undo each other, exactly on the points that fit and the numbers that 28 takes. Assumes nothing.
use mathlib.Core.Path.{◌≡◌, refl, sym, ap, ap₂, subst}
use mathlib.Core.Bool.{Bool, true, false, cond}
use Prim.Native.Nat.{ℕ, ◌+◌, ◌-◌, ◌*◌, ◌/◌, ◌%◌, ◌≤◌, ◌<◌}
use native.Mathlib.Omega.{arith}
use borrow.Author.Tests.{eqb-true, eqb-false}
use lib.Dec.{eqb}
use Rattle.std.specs.Prelude.{Option, Some, None}
use Rattle.rules_files.specs.declared.header.LoopPoints.{LoopPoints}
use Rattle.rules_files.specs.declared.header.LoopFields.{LoopFields}
use Rattle.rules_files.specs.FileHeader.{loop_fields, PointsFit}
use Rattle.rules_files.specs.HeaderReading.{loop_right, start_and_end, points_back, loop_frames}
use Rattle.rules_files.proofs.HeaderTheorems.{LoopMoved, loop_moved}
use Rattle.rules_files.proofs.HeaderJudging.{LoopIs, loop_facts, loop_true, loop_none}

-- ---- from points

given_is : (start end : ℕ) → start + 128 ≤ 0xFFFFFFFF → end + 128 ≤ 0xFFFFFFFF → LoopIs (loop_fields start end)
given_is start end a b =
    let m : LoopMoved start end = loop_moved start end in
    record {
      delayed = m.delay;
      padded = m.padding;
      start-low = omega (arith, m.begins);
      start-high = omega (arith, m.begins);
      end_low = omega (arith, m.ends);
      end_high = omega (arith, m.ends);
    }

pub frames_right : (p : Option LoopPoints) → PointsFit p → loop_right (loop_frames p) ≡ true
unfolding loop_frames
frames_right None h = loop_none
frames_right (Some p) h = loop_true _ (given_is p.start p.end h.0 h.1)

pub points-there : (p : Option LoopPoints) → PointsFit p → points_back (loop_frames p) ≡ p
unfolding loop_frames points_back start_and_end
points-there None h = refl
points-there (Some p) h =
    let f : LoopFields = loop_fields p.start p.end in
    let m : LoopMoved p.start p.end = loop_moved p.start p.end in
    let r : loop_right (Some f) ≡ true = loop_true _ (given_is p.start p.end h.0 h.1) in
    let s : 1024 * f.start_frame + f.delay - 128 ≡ p.start = omega (arith, m.begins) in
    let e : 1024 * (f.end_frame + 1) - f.padding - 128 ≡ p.end = omega (arith, m.ends) in
    rw r (λ i. Some (record { start = s i; end = e i }))

-- ---- from the four numbers

module _ (last padding e : ℕ) (k : padding < 1024) (q : e ≡ 1024 * (last + 1) - padding) where
  -- an end on an edge has padding 0, and belongs to the frame before
  end_again : (cond (eqb (e % 1024) 0) (e / 1024 - 1) (e / 1024) ≡ last) × (cond (eqb (e % 1024) 0) 0 (1024 - e % 1024) ≡ padding)
  end_again = by_edge (eqb (e % 1024) 0) refl
    where
      by_edge : (b : Bool) → eqb (e % 1024) 0 ≡ b → (cond b (e / 1024 - 1) (e / 1024) ≡ last) × (cond b 0 (1024 - e % 1024) ≡ padding)
      by_edge true t = let z : e % 1024 ≡ 0 = eqb-true _ _ t in (omega arith, omega arith)
      by_edge false t = let z : e % 1024 ≡ 0 → ⊥ = eqb-false _ _ t in (omega arith, omega arith)

module _ (f : LoopFields) (k : LoopIs f) where
  pub fields_again : loop_fields (start_and_end f).start (start_and_end f).end ≡ f
  unfolding loop_fields start_and_end
  fields_again =
      let s : 1024 * f.start_frame + f.delay - 128 + 128 ≡ 1024 * f.start_frame + f.delay = omega arith in
      let e : 1024 * (f.end_frame + 1) - f.padding - 128 + 128 ≡ 1024 * (f.end_frame + 1) - f.padding = omega arith in
      let a : (1024 * f.start_frame + f.delay) / 1024 ≡ f.start_frame = omega arith in
      let d : (1024 * f.start_frame + f.delay) % 1024 ≡ f.delay = omega arith in
      let (x, y) = end_again f.end_frame f.padding (1024 * (f.end_frame + 1) - f.padding) k.padded refl in
      rw (s, e, a, d, x, y)

  pub points_fit : PointsFit (Some (start_and_end f))
  unfolding start_and_end
  points_fit = (omega arith, omega arith)

  pub back_given : points_back (Some f) ≡ Some (start_and_end f)
  unfolding points_back
  back_given = rw (loop_true f k)

  frames_given : loop_frames (points_back (Some f)) ≡ Some f
  unfolding loop_frames
  frames_given = rw back_given (ap (λ (x : LoopFields). Some x) fields_again)

pub frames-back : (x : Option LoopFields) → loop_right x ≡ true → loop_frames (points_back x) ≡ x
unfolding loop_frames points_back
frames-back None e = refl
frames-back (Some f) e = frames_given f (loop_facts f e)

pub back_fits : (x : Option LoopFields) → loop_right x ≡ true → PointsFit (points_back x)
unfolding points_back
back_fits None e = tt
back_fits (Some f) e = let k = loop_facts f e in subst PointsFit (sym (back_given f k)) (points_fit f k)

-- both ways at once: of points that fit, and of numbers that 28 takes
pub points_back_lem : ((p : Option LoopPoints) → PointsFit p → (loop_right (loop_frames p) ≡ true) × (points_back (loop_frames p) ≡ p))
    × ((x : Option LoopFields) → loop_right x ≡ true → PointsFit (points_back x) × (loop_frames (points_back x) ≡ x))
points_back_lem = ((λ p h. (frames_right p h, points-there p h)), (λ x e. (back_fits x e, frames-back x e)))

-- and where 28 takes four numbers for no points there are none
pub points_none : (f : LoopFields) → loop_right (Some f) ≡ false → points_back (Some f) ≡ None
unfolding points_back
points_none f e = rw e
