-- `estimate::band_bits_at` meets its contract. Assumes nothing.
use mathlib.Core.Path.{◌≡◌, refl, sym, ap, subst, ◌∙◌}
use mathlib.Core.List.{List}
use Prim.Native.Nat.{ℕ, ◌+◌, ◌*◌, ◌%◌, ◌<◌}
use native.Mathlib.Omega.{arith}
use lib.IntN.{ℤ, pos, nat_abs}
use lib.Ieee.{Float}
use lib.ListN.{get_or}
use mir.Syntax.{w32}
use mir.Val.{to_z, of_z}
use mir.ValLaws.{to_z-of_z}
use Rattle.rules.specs.Estimate.{band_bits}
use Rattle.rules.specs.declared.Mode.{Mode}
use Rattle.band_counts.specs.Counts.{BandCounted, count_entry, count_in}
use Rattle.band_counts.proofs.Entries.{band-le, taken_band}
use Rattle.estimate.proofs.band_bits_at.Goals as goal

-- the entry as it is read
entry_read : (m : Mode) (sc : List Float) (counts : List ℤ) (b r : ℕ) → BandCounted m sc counts b
    → to_z w32 (of_z w32 (get_or counts (b * 8 + r % 8) (pos 0))) ≡ count_entry m sc b (r % 8)
entry_read m sc counts b r w =
    let k : r % 8 < 8 = omega arith in
    let x = band-le m sc b (r % 8) (omega arith) in
    let y = band-le m sc b (r % 8 + 8) (omega arith) in
    ap (λ z. to_z w32 (of_z w32 z)) (w (r % 8) k) ∙ to_z-of_z w32 (count_entry m sc b (r % 8)) (record { sfits = omega arith })

pub taken-requires : goal.taken-requires
taken-requires c =
    let r = c.read_curve-r in
    let e = entry_read c.args.layout.mode c.args.scaled.now c.args.counts.now c.args.band r.result c.requires.stretched.1 in
    (subst (λ z. z ≡ pos (nat_abs z)) (sym e) refl, r.ensures.1)

pub returns : goal.returns
returns c =
    let m = c.args.layout.mode in
    let sc = c.args.scaled.now in
    let b = c.args.band in
    let r = c.read_curve-r in
    let e =
    c.taken.ensures
    ∙ ap (λ z. count_in z r.result) (entry_read m sc c.args.counts.now b r.result c.requires.stretched.1)
    ∙ taken_band m sc b r.result r.ensures.1 in
    let l = band-le m sc b r.result r.ensures.1 in
    (e ∙ ap (band_bits m sc b) r.ensures.0, omega arith)
