-- A layout's pair of resolutions (request A8): a resolution lies within it; factor 0 has resolution 0, whatever the pair; 1 and 15 do nothing. Assumes nothing.
use mathlib.Core.Path.{◌≡◌, refl, ◌∙◌}
use mathlib.Core.Bool.{Bool, true, false, cond, ◌&&◌}
use Prim.Native.Nat.{ℕ, zero, suc, ◌+◌, ◌-◌, ◌*◌, ◌/◌, ◌≤◌, ◌<◌, min}
use native.Mathlib.Omega.{arith}
use borrow.Author.Tests.{ltb-true, ltb-false, le-ltb, leb-true, ne_eqb}
use lib.Dec.{leb, ltb}
use lib.IntN.{ℤ, pos, negsuc, ◌+ℤ◌, ◌-ℤ◌, nat_abs}
use lib.ListN.{get_or}
use Rattle.buffers.specs.Walk.{every}
use Rattle.buffers.proofs.Every.{every-at}
use Rattle.buffers.proofs.Tests.{and_fst, and_snd}
use Rattle.rules.specs.Tables.{resolution_curve}
use Rattle.rules.specs.Signed.{held_z}
use Rattle.rules.specs.Layout.{LegalLayout}
use Rattle.rules.specs.Resolution.{curve_position, held_position, resolution_in, resolution}
use Rattle.rules.specs.declared.Layout.{Layout}

-- the position that is held, without a sign
pub held-is : (noise factor : ℕ) → held_position noise factor ≡ min (noise + 2 - 5 * factor / 2) 58
unfolding held_position curve_position
held-is noise factor = go noise (5 * factor / 2)
  where
    inside : (n : ℕ) → nat_abs (held_z (pos 0) (pos 58) (pos n)) ≡ min n 58
    inside n = unfold held_z in by (ltb 58 n) refl
      where
        by : (t : Bool) → ltb 58 n ≡ t → nat_abs (cond (ltb n 0) (pos 0) (cond t (pos 58) (pos n))) ≡ min n 58
        by true e = let h = ltb-true 58 n e in rw (le-ltb n 0 (omega arith)) (omega arith)
        by false e = let h = ltb-false 58 n e in rw (le-ltb n 0 (omega arith)) (omega arith)

    go : (a d : ℕ) → nat_abs (held_z (pos 0) (pos 58) (pos a -ℤ pos d +ℤ pos 2)) ≡ min (a + 2 - d) 58
    go a zero = inside (a + 0 + 2) ∙ omega arith
    go a (suc k) = by (ltb a (suc k)) refl
      where
        low : (n : ℕ) → a + suc n ≡ suc k → nat_abs (held_z (pos 0) (pos 58) (negsuc n +ℤ pos 2)) ≡ min (a + 2 - suc k) 58
        low n e = under (ltb 2 (suc n)) refl
          where
            under : (t : Bool) → ltb 2 (suc n) ≡ t
                → nat_abs (held_z (pos 0) (pos 58) (cond t (negsuc (suc n - suc 2)) (pos (2 - suc n)))) ≡ min (a + 2 - suc k) 58
            under true q = let h = ltb-true 2 (suc n) q in unfold held_z in omega arith
            under false q = let h = ltb-false 2 (suc n) q in inside (2 - suc n) ∙ omega arith

        by : (t : Bool) → ltb a (suc k) ≡ t
            → nat_abs (held_z (pos 0) (pos 58) (cond t (negsuc (suc k - suc a)) (pos (a - suc k)) +ℤ pos 2)) ≡ min (a + 2 - suc k) 58
        by true e = let h = ltb-true a (suc k) e in low (suc k - suc a) (omega arith)
        by false e = let h = ltb-false a (suc k) e in inside (a - suc k + 2) ∙ omega arith

-- a removed or silent band stays silent
pub resolution-silent : (l : Layout) (noise : ℕ) → resolution l noise 0 ≡ 0
unfolding resolution resolution_in
resolution-silent l noise = refl

pub resolution-within : (l : Layout) → LegalLayout l → (noise factor : ℕ) → 0 < factor
    → (l.minimum ≤ resolution l noise factor) × (resolution l noise factor ≤ l.maximum)
unfolding resolution resolution_in
resolution-within l z noise factor h = let e : factor ≡ 0 → ⊥ = λ q. omega arith in rw (ne_eqb factor 0 e) (omega arith, omega arith)

-- every entry of the curve lies within 1 and 15
abbrev entry_within : (i : ℕ) → Bool
entry_within i = leb 1 (get_or resolution_curve i 0) && leb (get_or resolution_curve i 0) 15

all-within : every entry_within 59 ≡ true
unfolding every resolution_curve
all-within = refl

entry_within_lem : (i : ℕ) → i < 59 → (1 ≤ get_or resolution_curve i 0) × (get_or resolution_curve i 0 ≤ 15)
entry_within_lem i h =
    let e = every-at entry_within 59 i all-within h in
    (leb-true _ _ (and_fst (leb 1 (get_or resolution_curve i 0)) _ e), leb-true _ _ (and_snd (leb 1 (get_or resolution_curve i 0)) _ e))

-- as it was before a layout had a pair
pub as_before : (l : Layout) → l.minimum ≡ 1 → l.maximum ≡ 15 → (noise factor : ℕ) → 0 < factor
    → resolution l noise factor ≡ get_or resolution_curve (held_position noise factor) 0
unfolding resolution resolution_in
as_before l p q noise factor h =
    let e : factor ≡ 0 → ⊥ = λ n. omega arith in
    let k : held_position noise factor < 59 = omega (arith, held-is noise factor) in
    let (low, high) = entry_within_lem (held_position noise factor) k in
    rw (ne_eqb factor 0 e) (omega arith)
