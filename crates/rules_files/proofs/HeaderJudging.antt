-- Request A14: what a header is judged by, as tests and as facts, for the code and for the theorems. Assumes nothing.
use mathlib.Core.Path.{◌≡◌, refl, sym, ap, ◌∙◌}
use mathlib.Core.List.{List, [], ◌∷◌, ◌++◌}
use mathlib.Core.Bool.{Bool, true, false, not, ◌&&◌}
use Prim.Native.Nat.{ℕ, ◌+◌, ◌-◌, ◌*◌, ◌≤◌, ◌<◌}
use native.Mathlib.Omega.{arith}
use borrow.Author.Tests.{le-leb, leb-true, lt-ltb, ltb-true, not-true, not-false}
use lib.Dec.{leb, ltb}
use lib.ListN.{length, get_or}
use Rattle.std.specs.Prelude.{Some, None}
use Rattle.buffers.proofs.Tests.{and_fst, and_snd, and-true, not_true_false}
use Rattle.rules.specs.Layout.{legal_layout, LegalLayout}
use Rattle.rules.specs.declared.Channel.{Channel}
use Rattle.rules.specs.declared.Layout.{Layout}
use Rattle.rules.specs.declared.Mode.{Mode}
use Rattle.rules.specs.declared.Mode.TheVariants.{Rust}
use Rattle.rules.proofs.Layouts.{legal_true, legal_sizes}
use Rattle.rules_files.specs.declared.header.LoopFields.{LoopFields}
use Rattle.rules_files.specs.declared.header.FileHeader.{FileHeader}
use Rattle.rules_files.specs.FileHeader.{Piece}
use Rattle.rules_files.specs.HeaderReading.{stands, all_stand, layout_with, limits_right, moved_start, moved_end, is_moved, loop_right}

-- ---- pieces that stand

pub and_group : (a b c : Bool) → (a && (b && c)) ≡ ((a && b) && c)
and_group true b c = refl
and_group false b c = refl

module _ (h : List ℕ) where
  pub stand_append : (ps qs : List Piece) → all_stand h (ps ++ qs) ≡ (all_stand h ps && all_stand h qs)
  unfolding all_stand
  stand_append [] qs = refl
  stand_append (p ∷ ps) qs = ap (λ (b : Bool). stands h p && b) (stand_append ps qs) ∙ and_group (stands h p) (all_stand h ps) (all_stand h qs)

  pub first_fails : (p : Piece) (ps : List Piece) (r : Bool) → r ≡ stands h p → not r ≡ true → false ≡ all_stand h (p ∷ ps)
  unfolding all_stand
  first_fails p ps r e t = rw (sym e ∙ not-true r t)

  pub first-stands : (p : Piece) (ps : List Piece) (r b : Bool) → r ≡ stands h p → not r ≡ false → b ≡ all_stand h ps → b ≡ all_stand h (p ∷ ps)
  unfolding all_stand
  first-stands p ps r b e t q = rw (sym e ∙ not-false r t) q

  pub last-stands : (p : Piece) (r : Bool) → r ≡ stands h p → r ≡ all_stand h (p ∷ [])
  unfolding all_stand
  last-stands p true e = rw (← e)
  last-stands p false e = rw (← e)

-- ---- a loop

pub record LoopIs (f : LoopFields) : Type 0 where
  pub delayed : f.delay < 1024
  pub padded : f.padding < 1024
  pub start-low : 128 ≤ 1024 * f.start_frame + f.delay
  pub start-high : 1024 * f.start_frame + f.delay ≤ 0xFFFFFFFF
  pub end_low : 128 ≤ 1024 * (f.end_frame + 1) - f.padding
  pub end_high : 1024 * (f.end_frame + 1) - f.padding ≤ 0xFFFFFFFF

module _ (f : LoopFields) where
  pub loop_facts : loop_right (Some f) ≡ true → LoopIs f
  unfolding loop_right
  loop_facts e₁ =
      let e₂ = and_snd (ltb f.delay 1024) _ e₁ in
      let e₃ = and_snd (ltb f.padding 1024) _ e₂ in
      let s = and_fst (is_moved (moved_start f.start_frame f.delay)) _ e₃ in
      let e = and_snd (is_moved (moved_start f.start_frame f.delay)) _ e₃ in
      record {
        delayed = ltb-true _ _ (and_fst (ltb f.delay 1024) _ e₁);
        padded = ltb-true _ _ (and_fst (ltb f.padding 1024) _ e₂);
        start-low = leb-true _ _ (and_fst (leb 128 (moved_start f.start_frame f.delay)) _ s);
        start-high = leb-true _ _ (and_snd (leb 128 (moved_start f.start_frame f.delay)) _ s);
        end_low = leb-true _ _ (and_fst (leb 128 (moved_end f.end_frame f.padding)) _ e);
        end_high = leb-true _ _ (and_snd (leb 128 (moved_end f.end_frame f.padding)) _ e);
      }

  pub loop_true : LoopIs f → loop_right (Some f) ≡ true
  unfolding loop_right
  loop_true k =
      rw (
        lt-ltb _ _ k.delayed,
        lt-ltb _ _ k.padded,
        le-leb _ _ k.start-low,
        le-leb _ _ k.start-high,
        le-leb _ _ k.end_low,
        le-leb _ _ k.end_high,
      )

  pub loop_false : (LoopIs f → ⊥) → loop_right (Some f) ≡ false
  loop_false k = not_true_false _ (λ e. k (loop_facts e))

pub loop_none : loop_right None ≡ true
unfolding loop_right
loop_none = refl

-- ---- limits

pub record Limits (f : FileHeader) : Type 0 where
  pub sizes : LegalLayout (layout_with f [] Rust)
  pub few : f.channels ≤ 8
  pub rated : 1 ≤ f.rate
  pub rate : f.rate ≤ 0x7FFFFF

-- the limits look at no kind and at no mode
pub legal_any : (f : FileHeader) (kinds other : List Channel) (mode other-mode : Mode)
    → legal_layout (layout_with f kinds mode) ≡ legal_layout (layout_with f other other-mode)
unfolding legal_layout
legal_any f kinds other mode other-mode = refl

pub sizes_any : (f : FileHeader) (kinds other : List Channel) (mode other-mode : Mode)
    → LegalLayout (layout_with f kinds mode) → LegalLayout (layout_with f other other-mode)
sizes_any f kinds other mode other-mode s = legal_sizes (layout_with f other other-mode)
    (legal_any f other kinds other-mode mode ∙ legal_true (layout_with f kinds mode) s)

module _ (f : FileHeader) where
  pub limits_facts : limits_right f ≡ true → Limits f
  unfolding limits_right
  limits_facts e₁ =
      let e₂ = and_snd (legal_layout (layout_with f [] Rust)) _ e₁ in
      let e₃ = and_snd (leb f.channels 8) _ e₂ in
      record {
        sizes = legal_sizes (layout_with f [] Rust) (and_fst (legal_layout (layout_with f [] Rust)) _ e₁);
        few = leb-true _ _ (and_fst (leb f.channels 8) _ e₂);
        rated = leb-true _ _ (and_fst (leb 1 f.rate) _ e₃);
        rate = leb-true _ _ (and_snd (leb 1 f.rate) _ e₃);
      }

  pub limits_true : Limits f → limits_right f ≡ true
  unfolding limits_right
  limits_true k = rw (legal_true (layout_with f [] Rust) k.sizes, le-leb _ _ k.few, le-leb _ _ k.rated, le-leb _ _ k.rate)

  pub limits_false : (Limits f → ⊥) → limits_right f ≡ false
  limits_false k = not_true_false _ (λ e. k (limits_facts e))
