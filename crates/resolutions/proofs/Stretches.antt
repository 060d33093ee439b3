-- The stretched curve's entry at a factor's place and a noise, within the pair, is the resolution: one computed test of all its entries. Assumes nothing.
use mathlib.Core.Path.{◌≡◌, refl, sym, ap, ◌∙◌}
use mathlib.Core.Bool.{Bool, true, false, cond, ◌&&◌}
use mathlib.Core.List.{List, ◌++◌}
use Prim.Native.Nat.{ℕ, ◌+◌, ◌-◌, ◌*◌, ◌/◌, ◌≤◌, ◌<◌, min, max}
use native.Mathlib.Omega.{arith}
use borrow.Author.Tests.{eqb-true, eqb-false, ltb-true, ltb-false, leb-true}
use lib.Dec.{eqb, ltb, leb}
use lib.ListN.{length, get_or, take, drop, replicate, get_or-append, length-append, length-replicate}
use lib.Seq.{get_or-take, get_or-drop, get_or-append-add, length-take-le}
use Rattle.buffers.specs.Walk.{every, build}
use Rattle.buffers.proofs.Every.{every-at}
use Rattle.buffers.proofs.Tests.{all_le, get_d_le, and_fst, and_snd, cond_bound}
use Rattle.buffers.proofs.Build.{Filled, filled-all, length-build, build-at, back-width}
use Rattle.rules.specs.Tables.{resolution_curve}
use Rattle.rules.specs.Resolution.{held_position, resolution_in, resolution}
use Rattle.resolutions.specs.Stretched.{stretched_curve, place_of, IsPlain, IsStretched, Placed}
use Rattle.rules.specs.declared.Layout.{Layout}
use Rattle.rules.proofs.Limits.{held-is}
use Rattle.rules.proofs.LentRows.{ends}

-- an entry
abbrev curve_entry : ℕ → ℕ
curve_entry i = get_or resolution_curve (min (i - 157) 58) 0

all-entries : every (λ i. eqb (get_or stretched_curve i 0) (curve_entry i)) 416 ≡ true
unfolding every stretched_curve resolution_curve
all-entries = refl

entry-is : (i : ℕ) → i < 416 → get_or stretched_curve i 0 ≡ curve_entry i
entry-is i h = eqb-true _ _ (every-at (λ k. eqb (get_or stretched_curve k 0) (curve_entry k)) 416 i all-entries h)

-- of a factor above 0
pub stretched_entry : (factor noise : ℕ) → 0 < factor → factor ≤ 63 → noise ≤ 254
    → get_or stretched_curve (159 - 5 * factor / 2 + noise) 0 ≡ get_or resolution_curve (held_position noise factor) 0
stretched_entry factor noise n h k =
    let i = 159 - 5 * factor / 2 + noise in
    let p : i - 157 ≡ noise + 2 - 5 * factor / 2 = omega arith in
    entry-is i (omega arith) ∙ ap (λ (m : ℕ). get_or resolution_curve m 0) (ap (λ (m : ℕ). min m 58) p ∙ sym (held-is noise factor))

-- the curve before it is held, with the zeros behind
curve_long : length stretched_curve ≡ 416
unfolding stretched_curve resolution_curve
curve_long = refl

module _ (t : List ℕ) (p : IsPlain t) where
  plain_entry : (i : ℕ) → i < 416 → get_or t i 0 ≡ get_or stretched_curve i 0
  plain_entry i h =
      ap (λ (x : List ℕ). get_or x i 0) p.table ∙ get_or-append stretched_curve (replicate 272 0) 0 i (omega (arith, curve_long))

  plain-zero : (i : ℕ) → 416 ≤ i → get_or t i 0 ≡ 0
  unfolding all_le
  plain-zero i h =
      let j : ℕ = i - 416 in
      let q : i ≡ length stretched_curve + j = omega (arith, curve_long) in
      let blank : List ℕ = replicate 272 0 in
      let none : get_or blank j 0 ≤ 0 = get_d_le 0 blank refl j in
      let past : get_or blank j 0 ≡ 0 = omega arith in
      rw (p.table, q) (get_or-append-add stretched_curve blank j 0 ∙ past)

-- its entries are from 1 to 15
all-within : every (λ i. leb 1 (get_or stretched_curve i 0) && leb (get_or stretched_curve i 0) 15) 416 ≡ true
unfolding every stretched_curve resolution_curve
all-within = refl

entry_within_lem : (i : ℕ) → i < 416 → (1 ≤ get_or stretched_curve i 0) × (get_or stretched_curve i 0 ≤ 15)
entry_within_lem i h =
    let e = every-at (λ k. leb 1 (get_or stretched_curve k 0) && leb (get_or stretched_curve k 0) 15) 416 i all-within h in
    let low : Bool = leb 1 (get_or stretched_curve i 0) in
    let high : Bool = leb (get_or stretched_curve i 0) 15 in
    (leb-true 1 (get_or stretched_curve i 0) (and_fst low high e), leb-true (get_or stretched_curve i 0) 15 (and_snd low high e))

-- so 1 and 15 hold none of them
pub plain-is : (l : Layout) (t : List ℕ) → IsPlain t → l.minimum ≡ 1 → l.maximum ≡ 15 → IsStretched l t
plain-is l t p a b = record {
  entries = λ i h. plain_entry t p i h ∙ (let w = entry_within_lem i h in omega (arith, w.0, w.1));
  zeros = plain-zero t p;
  limit = omega arith;
}

-- its first 416 entries, which are held, and what is not held yet is as it was
pub held_part : (t : List ℕ) → IsPlain t → length (take 416 t) ≡ 416
held_part t p =
    let long : length t ≡ 688 = ap length p.table ∙ length-append stretched_curve (replicate 272 0) ∙ omega (arith, curve_long, length-replicate {A = ℕ} 272 0) in
    length-take-le 416 t (omega arith)

pub as_it_was : (f : ℕ → ℕ) (d : List ℕ) (n : ℕ) (xs : List ℕ) → Filled f d n xs → get_or xs n 0 ≡ get_or d n 0
as_it_was f d n xs w =
    let at : n ≡ length (build f n) + 0 = omega (arith, length-build f n) in
    let same : n + 0 ≡ n = omega arith in
    ap (λ (x : List ℕ). get_or x n 0) w.1
    ∙ ap (λ (k : ℕ). get_or (build f n ++ drop n d) k 0) at
    ∙ get_or-append-add (build f n) (drop n d) 0 0
    ∙ get_or-drop n d 0 0
    ∙ ap (λ (k : ℕ). get_or d k 0) same

-- held up to entry 416, and as it was from there on
pub table_is : (l : Layout) (plain xs : List ℕ) (n : ℕ) → IsPlain plain → n ≡ 416 → l.maximum ≤ 15
    → Filled (λ k. min (max (get_or (take 416 plain) k 0) l.minimum) l.maximum) (take 416 plain) n xs → IsStretched l (xs ++ drop 416 plain)
table_is l plain xs n p e m f =
    let g : ℕ → ℕ = λ k. min (max (get_or (take 416 plain) k 0) l.minimum) l.maximum in
    let z : xs ≡ build g 416 = filled-all g (take 416 plain) n 416 xs (held_part plain p) (omega arith) (omega arith) f in
    let long : length (build g 416) ≡ 416 = length-build g 416 in
    record {
      entries = λ i h.
          rw z (get_or-append (build g 416) (drop 416 plain) 0 i (omega arith) ∙ build-at g 416 i 0 h)
          ∙ ap (λ (n : ℕ). min (max n l.minimum) l.maximum) (get_or-take 416 plain i 0 h ∙ plain_entry plain p i h);
      zeros = λ i h.
          let j : ℕ = i - 416 in
          let q : i ≡ length (build g 416) + j = omega arith in
          rw (z, q) (get_or-append-add (build g 416) (drop 416 plain) j 0 ∙ get_or-drop 416 plain j 0 ∙ plain-zero plain p (416 + j) (omega arith));
      limit = m;
    }

-- a place, with a noise, is on it
pub place-le : (factor : ℕ) → place_of factor ≤ 417
unfolding place_of
place-le factor = cond_bound (eqb factor 0) (λ _. omega arith) (λ _. omega arith)

-- of a list that is the curve, within a layout's pair
module _ (l : Layout) (t : List ℕ) (is : IsStretched l t) where
  pub curve_read : (factor noise place : ℕ) → factor ≤ 63 → noise ≤ 254 → place ≡ place_of factor → get_or t (place + noise) 0 ≡ resolution l noise factor
  unfolding place_of resolution resolution_in
  curve_read factor noise place h k e = ap (λ (m : ℕ). get_or t (m + noise) 0) e ∙ go (eqb factor 0) refl
    where
      go : (b : Bool) → eqb factor 0 ≡ b
          → get_or t (cond b 417 (159 - 5 * factor / 2) + noise) 0
          ≡ cond b 0 (min (max (get_or resolution_curve (held_position noise factor) 0) l.minimum) l.maximum)
      go true q = is.zeros (417 + noise) (omega arith)
      go false q =
          let n = eqb-false factor 0 q in
          is.entries (159 - 5 * factor / 2 + noise) (omega arith)
          ∙ ap (λ (m : ℕ). min (max m l.minimum) l.maximum) (stretched_entry factor noise (omega arith) h k)

  pub curve_le : (i : ℕ) → get_or t i 0 ≤ 15
  curve_le i = go (ltb i 416) refl
    where
      go : (b : Bool) → ltb i 416 ≡ b → get_or t i 0 ≤ 15
      go true e = let q = is.entries i (ltb-true i 416 e) in let m = is.limit in omega arith
      go false e = let q = is.zeros i (ltb-false i 416 e) in omega arith

-- the places of a part, as a loop lends it
pub placed_part : (k c n : ℕ) (factors places : List ℕ) → c < n → Placed (n * k) factors places
    → Placed k (take (c * k + k - c * k) (drop (c * k) factors)) (take (c * k + k - c * k) (drop (c * k) places))
placed_part k c n factors places h p b l =
    let w : c * k + k ≤ n * k = ends k c n (n * k) h refl in
    let at : (xs : List ℕ) → get_or (take k (drop (c * k) xs)) b 0 ≡ get_or xs (c * k + b) 0 =
    λ xs. get_or-take k (drop (c * k) xs) b 0 l ∙ get_or-drop (c * k) xs b 0 in
    rw (back-width (c * k) k) (at places ∙ p (c * k + b) (omega arith) ∙ ap place_of (sym (at factors)))
