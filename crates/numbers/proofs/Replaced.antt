-- A part of a list replaced: its length, its elements, and one byte more in front of the part. Assumes nothing.
use mathlib.Core.Path.{◌≡◌, ap, ◌∙◌}
use mathlib.Core.List.{List, [], ◌∷◌, ◌++◌}
use Prim.Native.Nat.{ℕ, suc, ◌+◌, ◌-◌, ◌≤◌, ◌<◌}
use native.Mathlib.Nat.{add-zero}
use native.Mathlib.Omega.{arith}
use lib.ListN.{length, get_or, take, drop, set, length-append, length-drop, take-append-drop, get_or-append}
use lib.Seq.{length-take-le, get_or-take, get_or-drop, get_or-append-add, take-suc, append_snoc, set_at}
use Rattle.numbers.specs.Numbers.{replaced}

-- nothing replaced
pub replaced-none : (old : List ℕ) (at : ℕ) → replaced old at [] ≡ old
unfolding replaced
replaced-none old at = rw add-zero (take-append-drop at old)

pub replaced-length : (old : List ℕ) (at : ℕ) (new : List ℕ) → at + length new ≤ length old → length (replaced old at new) ≡ length old
unfolding replaced
replaced-length old at new h =
    let hat : at ≤ length old = omega arith in
    simp (length-append, length-drop, length-take-le at old hat) (omega arith)

-- one byte stored in front of what is replaced already
pub replaced_more : (old : List ℕ) (at : ℕ) (new : List ℕ) (b : ℕ) → at + suc (length new) ≤ length old
    → set (replaced old (suc at) new) at b ≡ replaced old at (b ∷ new)
unfolding replaced
replaced_more old at new b h =
    let e : suc at + length new ≡ at + suc (length new) = omega arith in
    rw (take-suc old at 0 (omega arith), append_snoc (take at old) (get_or old at 0) (new ++ drop (suc at + length new) old), e)
    (set_at (take at old) (get_or old at 0) (new ++ drop (at + suc (length new)) old) b at (length-take-le at old (omega arith)))

-- ---- the elements

module _ (old : List ℕ) (at : ℕ) (new : List ℕ) (i : ℕ) where
  pub replaced-before : i < at → at ≤ length old → get_or (replaced old at new) i 0 ≡ get_or old i 0
  unfolding replaced
  replaced-before h g =
      let l : length (take at old) ≡ at = length-take-le at old g in
      get_or-append (take at old) (new ++ drop (at + length new) old) 0 i (rw l h) ∙ get_or-take at old i 0 h

  pub replaced_inside : at ≤ i → i < at + length new → at ≤ length old → get_or (replaced old at new) i 0 ≡ get_or new (i - at) 0
  unfolding replaced
  replaced_inside h k g =
      let l : length (take at old) ≡ at = length-take-le at old g in
      let e : i ≡ length (take at old) + (i - at) = rw l (omega arith) in
      let q : i - at < length new = omega arith in
      ap (λ (j : ℕ). get_or (take at old ++ (new ++ drop (at + length new) old)) j 0) e
      ∙ get_or-append-add (take at old) (new ++ drop (at + length new) old) (i - at) 0
      ∙ get_or-append new (drop (at + length new) old) 0 (i - at) q

  pub replaced-after : at + length new ≤ i → at ≤ length old → get_or (replaced old at new) i 0 ≡ get_or old i 0
  unfolding replaced
  replaced-after h g =
      let l : length (take at old) ≡ at = length-take-le at old g in
      let j : ℕ = i - (at + length new) in
      let e : i ≡ length (take at old) + (length new + j) = rw l (omega arith) in
      let b : at + length new + j ≡ i = omega arith in
      ap (λ (k : ℕ). get_or (take at old ++ (new ++ drop (at + length new) old)) k 0) e
      ∙ get_or-append-add (take at old) (new ++ drop (at + length new) old) (length new + j) 0
      ∙ get_or-append-add new (drop (at + length new) old) j 0
      ∙ get_or-drop (at + length new) old j 0
      ∙ ap (λ (k : ℕ). get_or old k 0) b
