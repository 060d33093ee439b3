-- What the gate lets pass is finite. Assumes nothing.
use mathlib.Core.Path.{◌≡◌, refl, sym, subst}
use mathlib.Core.List.{List}
use mathlib.Core.Bool.{Bool, true, false, cond, not}
use mathlib.Core.Option.{none, some}
use Prim.Native.Nat.{ℕ, ◌<◌}
use native.Mathlib.Omega.{arith}
use borrow.Author.Tests.{ltb-false, not-false}
use lib.Dec.{T, ltb}
use lib.Ieee.{Float, nan}
use lib.Ieee.Scale.{finite}
use lib.ListN.{get_or, take, length-take}
use lib.Seq.{get_or-take}
use Rattle.buffers.specs.Walk.{first}
use Rattle.rules.specs.Layout.{legal_layout, spectrum_length, side_length}
use Rattle.rules.specs.Refusals.{Outcome}
use Rattle.rules.specs.Stage.{stage_has_room, bad_intensity, bad_spectrum, gate}
use Rattle.rules.specs.declared.Layout.{Layout}
use Rattle.rules.specs.declared.StageRoom.{StageRoom}
use Rattle.rules_demands.proofs.Exactly.{None, first_passed}
use Rattle.factors.specs.Finite.{AllFinite}
use Rattle.stage_gate.proofs.Rooms.{shut}

open_by : (t u v w : Bool) (o p q r : Outcome) → cond (not t) (some o) (cond (not u) (some p) (cond v (some q) (cond w (some r) none))) ≡ none → w ≡ false
open_by true true false false o p q r e = refl
open_by true true false true o p q r e = absurd (shut e)
open_by true true true w o p q r e = absurd (shut e)
open_by true false v w o p q r e = absurd (shut e)
open_by false u v w o p q r e = absurd (shut e)

-- no value is bad
pub gate_passed : (l : Layout) (r : StageRoom) (xs : List Float) (is : List ℕ) → gate l r xs is ≡ none → None (bad_spectrum xs) (spectrum_length l)
unfolding gate
gate_passed l r xs is e =
    first_passed (bad_spectrum xs) (spectrum_length l)
    (ltb-false _ _ (open_by (legal_layout l) (stage_has_room l r) (ltb (first (bad_intensity l is) (side_length l)) (side_length l)) _ _ _ _ _ e))

-- so the part that the run is lent is finite
pub none-finite : (n : ℕ) (xs : List Float) → None (bad_spectrum xs) n → AllFinite (take n xs)
unfolding AllFinite bad_spectrum
none-finite n xs good i h =
    let k : i < n = omega (arith, length-take n xs) in
    let f : not (finite (get_or xs i nan)) ≡ false = good i k in
    subst (λ x. T (finite x)) (sym (get_or-take n xs i nan k)) (subst T (sym (not-false (finite (get_or xs i nan)) f)) tt)

pub gate-finite : (l : Layout) (r : StageRoom) (xs : List Float) (is : List ℕ) → gate l r xs is ≡ none → AllFinite (take (spectrum_length l) xs)
gate-finite l r xs is e = none-finite (spectrum_length l) xs (gate_passed l r xs is e)
