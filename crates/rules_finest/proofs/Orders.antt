-- Finite floats in their order: what is at most a value is at most all above it; what is within the clip and does not equal it does not reach it.
-- Assumes nothing.
use mathlib.Core.Path.{◌≡◌, refl, sym, ap, ◌∙◌, subst}
use Prim.Native.Nat.{ℕ, zero, suc, ◌*◌, ◌≤◌, ◌<◌, zero-le}
use native.Mathlib.Nat.{le_antisymm, mul-pos, zero-lt-suc, zero-mul}
use native.Mathlib.Omega.{arith}
use mathlib.Core.Bool.{Bool, true, false, ◌&&◌, ◌||◌}
use lib.Dec.{T, eqb}
use lib.IntN.{negsuc}
use lib.Ieee.{Float, nan, inf, fin, up, down, eq, le}
use lib.Ieee.Fits.{down_pos, and_i, eq→eqb}
use lib.Ieee.Scale.{finite}
use lib.Ieee.Positive.{through}
use Rattle.buffers.proofs.Tests.{not_true_false}
use Rattle.rules.specs.Scaling.{clip}
use Rattle.within.specs.Within.{Within}
use Rattle.within.proofs.WithinLaws.{top, top-is}
use Rattle.within.proofs.MonoLaws.{Ord, le→ord}
use Rattle.within.proofs.EdgeLaws.{ord→le}

-- ---- at most, and at most again
none_of : (a k : ℕ) → 0 < k → a * k ≤ 0 → a ≡ 0
none_of zero k h e = refl
none_of (suc a) k h e = absurd (omega (arith, mul-pos (zero-lt-suc a) h))

none_below : (a k n : ℕ) → a ≡ 0 → a * k ≤ n
none_below a k n e = rw (e, zero-mul k) zero-le

ord_through : (t u v : Bool) (A E B F C G : ℕ) → 0 < F → Ord t A E u B F → Ord u B F v C G → Ord t A E v C G
ord_through false false false A E B F C G p h k = through A B C E F G p h k
ord_through true true true A E B F C G p h k = through C B A G F E p k h
ord_through true true false A E B F C G p h k = tt
ord_through true false false A E B F C G p h k = tt
ord_through false false true A E B F C G p h k = (none_of A F p (subst (λ n. A * F ≤ n) (ap (λ b. b * E) k.0 ∙ zero-mul E) h), k.1)
ord_through false true true A E B F C G p h k = (h.0, none_of C F p (subst (λ n. C * F ≤ n) (ap (λ b. b * G) h.1 ∙ zero-mul G) k))
ord_through false true false A E B F C G p h k = none_below A G (C * E) h.0
ord_through true false true A E B F C G p h k = none_below C E (A * G) k.1

pub le_through : (x y z : Float) → T (finite x) → T (finite y) → T (finite z) → T (le x y) → T (le y z) → T (le x z)
le_through nan y z p q r h k = absurd p
le_through (inf s) y z p q r h k = absurd p
le_through (fin t m e) nan z p q r h k = absurd q
le_through (fin t m e) (inf s) z p q r h k = absurd q
le_through (fin t m e) (fin u n d) nan p q r h k = absurd r
le_through (fin t m e) (fin u n d) (inf s) p q r h k = absurd r
le_through (fin t m e) (fin u n d) (fin v o g) p q r h k =
    ord→le t v m e o g
    (ord_through t u v (m * up e) (down e) (n * up d) (down d) (o * up g) (down g) (down_pos d) (le→ord t u m e n d h) (le→ord u v n d o g k))

-- ---- the upper clip
both_equal : (x : Float) → T (le x top) → T (le top x) → T (eq x top)
unfolding eq
both_equal nan a b = unfold le in absurd a
both_equal (inf true) a b = unfold le in absurd b
both_equal (inf false) a b = unfold le in absurd a
both_equal (fin true m e) a b = let z : 8388607 * 1 ≡ 0 = (le→ord false true 8388607 (negsuc 22) m e b).0 in absurd (omega arith)
both_equal (fin false m e) a b =
    let p : ℕ = m * up e * 8388608 in
    let q : ℕ = 8388607 * 1 * down e in
    let z : p ≡ q = le_antisymm (le→ord false false m e 8388607 (negsuc 22) a) (le→ord false false 8388607 (negsuc 22) m e b) in
    level_equal p q z
  where
    level_equal : (p q : ℕ) → p ≡ q → T (eqb p q && (true || eqb p 0))
    level_equal p q z = and_i (eqb p q) (true || eqb p 0) (eq→eqb z) tt

pub unreached : (x : Float) → Within x → eq x clip ≡ false → le clip x ≡ false
unreached x w e =
    not_true_false (le clip x)
    (λ t. subst T (ap (eq x) (sym top-is) ∙ e)
    (both_equal x (subst (λ y. T (le x y)) top-is w.most) (subst (λ y. T (le y x)) top-is (subst T (sym t) tt))))
