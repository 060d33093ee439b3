use mathlib.Core.Path.{◌≡◌, refl, sym, ap, subst, ◌∙◌}
use mathlib.Core.List.{List}
use Prim.Native.Nat.{ℕ, ◌≤◌, ◌<◌, ◌+◌, ◌*◌}
use native.Mathlib.Omega.{arith}
use lib.Ieee.{Float, nan}
use lib.ListN.{length, get_or, length-set}
use mir.Syntax.{w32}
use mir.ValLaws.{to_z-of_z}
use borrow.Author.Rules.{rules}
use Rattle.floats.specs.Single.{Short}
use Rattle.rules.specs.Code.{recorded_code}
use Rattle.rules.specs.declared.Mode.{Mode}
use Rattle.within.specs.Within.{AllWithin}
use Rattle.codes.specs.Columns.{column_at, cut_by, code_by, Based}
use Rattle.codes.specs.declared.band.Column.{Column}
use Rattle.codes.proofs.Columns.{column_code, column_short, column_based}
use Rattle.codes.proofs.Bands.{band-none, band_more, band-same}
use Rattle.codes.proofs.band.band_codes.Goals as goal

-- any of the values may be cut by its column
may_cut : (k : Column) (m : Mode) (r : ℕ) → r ≤ 15 → k ≡ column_at m r → (xs : List Float) → AllWithin xs → (i : ℕ) → i < length xs
    → Based k × Short (cut_by k (get_or xs i nan))
unfolding AllWithin
may_cut k m r h e xs w i l =
    let x : Float = get_or xs i nan in
    (subst Based (sym e) (column_based r h x (w i l) m), subst (λ (k : Column). Short (cut_by k x)) (sym e) (column_short r h x (w i l) m))

same_code : (k : Column) (m : Mode) (r : ℕ) → r ≤ 15 → k ≡ column_at m r → (xs : List Float) → AllWithin xs → (i : ℕ) → i < length xs
    → code_by k (get_or xs i nan) ≡ recorded_code m r (get_or xs i nan)
unfolding AllWithin
same_code k m r h e xs w i l = ap (λ (k : Column). code_by k (get_or xs i nan)) e ∙ column_code r h (get_or xs i nan) (w i l) m

pub loop-s-init : goal.loop-s-init
loop-s-init c = (refl, band-none _ _ _)

pub code_by-requires : goal.code_by-requires
code_by-requires c =
    may_cut _ c.args.mode c.args.resolution c.requires.resolution_bound.0 c.column_of-column.ensures _ c.requires.resolution_bound.2 _ (search rules)

pub loop-s-preserved : goal.loop-s-preserved
loop-s-preserved c =
    let a = c.args in
    let v = to_z-of_z w32 c.code_by.result (record { sfits = c.code_by.type_inv }) ∙ c.code_by.ensures in (
      length-set c.loop-s.codes _ _ ∙ c.loop-s.invariant.0,
      rw (v, c.loop-s.invariant.1)
          (sym (band_more (λ i. code_by c.column_of-column.result (get_or a.scaled.now (a.band * 8 + i) nan)) a.band a.codes.now c.loop-s.s)),
    )

pub shape_of-codes : goal.shape_of-codes
shape_of-codes c = c.loop-s.invariant.0

pub returns : goal.returns
returns c =
    let a = c.args in
    let e = c.column_of-column.ensures in
    let q : c.loop-s.s ≡ 8 = search rules in
    (rw q at c.loop-s.invariant.1)
    ∙ band-same _ _ a.band a.codes.now 8
    (λ i g.
    same_code _ a.mode a.resolution c.requires.resolution_bound.0 e a.scaled.now c.requires.resolution_bound.2 (a.band * 8 + i) (omega (arith, c.requires.resolution_bound.1, c.requires.scaled_len.0)))
