-- A part of finite spectra is finite. Assumes nothing.
use mathlib.Core.Path.{sym, subst, ◌∙◌}
use mathlib.Core.List.{List}
use Prim.Native.Nat.{ℕ, ◌+◌, ◌-◌, ◌<◌, min}
use native.Mathlib.Omega.{arith}
use lib.Dec.{T}
use lib.Ieee.{Float, nan}
use lib.Ieee.Scale.{finite}
use lib.ListN.{length, take, drop, length-take, length-drop}
use lib.Seq.{get_or-take, get_or-drop}
use Rattle.factors.specs.Finite.{AllFinite}

pub part-finite : (a k : ℕ) (xs : List Float) → AllFinite xs → AllFinite (take k (drop a xs))
unfolding AllFinite
part-finite a k xs f i h =
    let l : i < min k (length xs - a) = simp (length-take, length-drop) at h in
    subst (λ (x : Float). T (finite x)) (sym (get_or-take k (drop a xs) i nan (omega arith) ∙ get_or-drop a xs i nan)) (f (a + i) (omega arith))
