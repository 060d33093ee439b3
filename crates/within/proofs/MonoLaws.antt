-- A larger scaled value gives no smaller scaled x step + (step + 1), with its two roundings. Assumes nothing.
use mathlib.Core.Path.{◌≡◌, refl, sym, ap, ◌∙◌, subst}
use Prim.Native.Nat.{ℕ, zero, suc, ◌+◌, ◌-◌, ◌*◌, ◌^◌, ◌≤◌, ◌<◌}
use native.Mathlib.Nat.{le_trans, le_of_eq, mul-pos, mul_comm, mul_assoc, mul_left_comm, mul_right_comm, mul-le-mul_right, zero-lt-suc, mul-sub, mul-add}
use native.Mathlib.Nat.{zero-mul, lt_of_le_of_lt, lt_of_mul-lt-mul_right, mul-lt-mul_of_pos_right}
use native.Mathlib.Omega.{arith}
use mathlib.Core.Bool.{Bool, true, false, ◌&&◌, ◌||◌, cond}
use lib.Dec.{T, ltb, eqb, ltb→lt, lt→ltb, eqb→eq}
use lib.Pow.{pow_pos}
use lib.IntN.{ℤ, pos}
use lib.Ieee.{Float, nan, inf, fin, Format, binary32, binary64, prec, emax, low, up, down, odd, units, round, neg, sum, add, mul, le}
use lib.Ieee.Fits.{down_pos, round_is, and_l, and_r}
use lib.Ieee.Exact.{HasValue}
use lib.Ieee.Order.{round_mono, le_of_values}
use lib.Ieee.Scale.{round_same}
use lib.Ieee.Positive.{num, den, den_pos, through}
use Rattle.floats.specs.Single.{one_f}

-- ---- finite, with the sign clear
abbrev pub clear : Float → Bool
clear nan = false
clear (inf s) = false
clear (fin true m e) = false
clear (fin false m e) = true

abbrev pub Pos : Float → Type 0
Pos x = T (clear x)

own : (x : Float) → Pos x → HasValue x false (num x) (den x)
own nan p = absurd p
own (inf s) p = absurd p
own (fin true m e) p = absurd p
own (fin false m e) p = (refl, refl)

cross→le : (x y : Float) → Pos x → Pos y → num x * den y ≤ num y * den x → T (le x y)
cross→le x y p q h = le_of_values x y (num x) (den x) (num y) (den y) (den_pos x) (den_pos y) (own x p) (own y q) h

le_either : (a b : ℕ) (u : Bool) → T (ltb a b || (eqb a b && u)) → a ≤ b
le_either a b u t = go (ltb a b) (eqb a b) u (ltb→lt a b) (eqb→eq a b) t
  where
    less : a < b → a ≤ b
    less h = omega arith

    go : (p q u : Bool) → (T p → a < b) → (T q → a ≡ b) → T (p || (q && u)) → a ≤ b
    go true q u f g t = less (f tt)
    go false true u f g t = le_of_eq (g tt)
    go false false u f g t = absurd t

le→cross : (x y : Float) → Pos x → Pos y → T (le x y) → num x * den y ≤ num y * den x
unfolding le
le→cross nan y p q h = absurd p
le→cross (inf s) y p q h = absurd p
le→cross (fin true m e) y p q h = absurd p
le→cross (fin false m e) nan p q h = absurd q
le→cross (fin false m e) (inf s) p q h = absurd q
le→cross (fin false m e) (fin true n d) p q h = absurd q
le→cross (fin false m e) (fin false n d) p q h = le_either (m * up e * down d) (n * up d * down e) true h

-- ---- a rounded fraction with the sign clear is no NaN, and its sign is clear
abbrev pub Clear : Float → Type 0
Clear nan = ⊥
Clear (inf true) = ⊥
Clear (inf false) = Unit
Clear (fin true m e) = ⊥
Clear (fin false m e) = Unit

clear-odd : (d q k l : ℕ) → Pos (odd d false q k l)
unfolding odd
clear-odd d zero k l = tt
clear-odd d (suc q) k l = tt

weaker : (x : Float) → Pos x → Clear x
weaker nan p = absurd p
weaker (inf s) p = absurd p
weaker (fin true m e) p = absurd p
weaker (fin false m e) p = tt

clear_units : (f : Format) (q k : ℕ) → Clear (units f false q k)
unfolding units
clear_units f q k = go (ltb (q * 2 ^ k) (2 ^ (low f + suc (emax f))))
  where
    go : (b : Bool) → Clear (cond b (odd (suc (prec f)) false q k (low f)) (inf false))
    go true = weaker (odd (suc (prec f)) false q k (low f)) (clear-odd (suc (prec f)) q k (low f))
    go false = tt

pub clear-round : (f : Format) (a b : ℕ) → Clear (round f false a b)
clear-round f a b = subst Clear (sym (round_is f false a b)) (clear_units f _ _)

-- what is at most a finite value is finite
finite-below : (x y : Float) → Clear x → Pos y → T (le x y) → Pos x
unfolding le
finite-below nan y c p h = absurd c
finite-below (inf true) y c p h = absurd c
finite-below (inf false) nan c p h = absurd p
finite-below (inf false) (inf s) c p h = absurd p
finite-below (inf false) (fin true n d) c p h = absurd p
finite-below (inf false) (fin false n d) c p h = absurd h
finite-below (fin true m e) y c p h = absurd c
finite-below (fin false m e) y c p h = tt

-- ---- rounding with the sign set
neg-odd : (d q k l : ℕ) → odd d true q k l ≡ neg (odd d false q k l)
unfolding odd neg
neg-odd d zero k l = refl
neg-odd d (suc q) k l = refl

neg_units : (f : Format) (q k : ℕ) → units f true q k ≡ neg (units f false q k)
unfolding units neg
neg_units f q k = go (ltb (q * 2 ^ k) (2 ^ (low f + suc (emax f))))
  where
    go : (b : Bool) → cond b (odd (suc (prec f)) true q k (low f)) (inf true) ≡ neg (cond b (odd (suc (prec f)) false q k (low f)) (inf false))
    go true = neg-odd (suc (prec f)) q k (low f)
    go false = refl

pub neg-round : (f : Format) (a b : ℕ) → round f true a b ≡ neg (round f false a b)
neg-round f a b = round_is f true a b ∙ neg_units f _ _ ∙ ap neg (sym (round_is f false a b))

-- ---- the order of two finite numbers, each a sign and a fraction
abbrev pub Ord : Bool → ℕ → ℕ → Bool → ℕ → ℕ → Type 0
Ord false A E false B F = A * F ≤ B * E
Ord true A E true B F = B * E ≤ A * F
Ord true A E false B F = Unit
Ord false A E true B F = (A ≡ 0) × (B ≡ 0)

-- a rounded product with a factor N / G keeps it
wider : (A E B F N G : ℕ) → A * F ≤ B * E → A * N * (F * G) ≤ B * N * (E * G)
wider A E B F N G h = simp (mul_assoc, mul_left_comm) (simp (mul_assoc, mul_comm) at (mul-le-mul_right (N * G) h))

round-zero : (f : Format) (b : ℕ) → 0 < b → num (round f false 0 b) ≡ 0
unfolding round
round-zero f b h = ap num (round_same f false 0 b 0 1 h (pow_pos 0) (zero-mul 1 ∙ sym (zero-mul b)) ∙ at_one f)
  where
    at_one : (f : Format) → round f false 0 1 ≡ fin false 0 (pos 0)
    at_one binary32 = refl
    at_one binary64 = refl

module _ (f : Format) (N G : ℕ) (GP : 0 < G) where
  abbrev P : ℕ → ℕ → Float
  P A E = round f false (A * N) (E * G)

  ord_mul : (t u : Bool) (A E B F : ℕ) → 0 < E → 0 < F → Pos (P A E) → Pos (P B F) → Ord t A E u B F
      → Ord t (num (P A E)) (den (P A E)) u (num (P B F)) (den (P B F))
  ord_mul false false A E B F EP FP p q h = le→cross (P A E) (P B F) p q
      (round_mono f (A * N) (E * G) (B * N) (F * G) (mul-pos EP GP) (mul-pos FP GP) (wider A E B F N G h))
  ord_mul true true A E B F EP FP p q h = le→cross (P B F) (P A E) q p
      (round_mono f (B * N) (F * G) (A * N) (E * G) (mul-pos FP GP) (mul-pos EP GP) (wider B F A E N G h))
  ord_mul true false A E B F EP FP p q h = tt
  ord_mul false true A E B F EP FP p q h = (zero-at A E EP h.0, zero-at B F FP h.1)
    where
      zero-at : (A E : ℕ) → 0 < E → A ≡ 0 → num (round f false (A * N) (E * G)) ≡ 0
      zero-at A E EP e = ap (λ (a : ℕ). num (round f false a (E * G))) (ap (λ (z : ℕ). z * N) e ∙ zero-mul N) ∙ round-zero f (E * G) (mul-pos EP GP)

-- ---- C / G plus or less A / E
abbrev shifted : Bool → ℕ → ℕ → ℕ
shifted true X P = X - P
shifted false X P = P + X

module _ (C G A E B F : ℕ) where
  same_sum : C * E * (F * G) ≡ C * F * (E * G)
  same_sum = simp (mul_assoc, mul_comm, mul_left_comm)

  part : (A E F : ℕ) → A * G * (F * G) ≡ A * F * (G * G)
  part A E F = simp (mul_assoc, mul_comm, mul_left_comm)

  plus : (X P Y : ℕ) → (P + X) * Y ≡ P * Y + X * Y
  plus X P Y = mul_comm (P + X) Y ∙ mul-add Y P X ∙ ap (λ (z : ℕ). z + Y * X) (mul_comm Y P) ∙ ap (λ (z : ℕ). P * Y + z) (mul_comm Y X)

  minus : (X P Y : ℕ) → (X - P) * Y ≡ X * Y - P * Y
  minus X P Y = mul_comm (X - P) Y ∙ mul-sub Y X P ∙ ap (λ (z : ℕ). z - Y * P) (mul_comm Y X) ∙ ap (λ (z : ℕ). X * Y - z) (mul_comm Y P)

  ord_add : (t u : Bool) → Ord t A E u B F → shifted t (C * E) (A * G) * (F * G) ≤ shifted u (C * F) (B * G) * (E * G)
  ord_add false false h =
      let x = plus (C * E) (A * G) (F * G) in
      let y = plus (C * F) (B * G) (E * G) in
      let k : A * G * (F * G) ≤ B * G * (E * G) = le_trans (le_of_eq (part A E F)) (le_trans (mul-le-mul_right (G * G) h) (le_of_eq (sym (part B F E)))) in
      omega (arith, same_sum)
  ord_add true true h =
      let x = minus (C * E) (A * G) (F * G) in
      let y = minus (C * F) (B * G) (E * G) in
      let k : B * G * (E * G) ≤ A * G * (F * G) = le_trans (le_of_eq (part B F E)) (le_trans (mul-le-mul_right (G * G) h) (le_of_eq (sym (part A E F)))) in
      omega (arith, same_sum)
  ord_add true false h =
      let x = minus (C * E) (A * G) (F * G) in
      let y = plus (C * F) (B * G) (E * G) in
      omega (arith, same_sum)
  ord_add false true h =
      let x = plus (C * E) (A * G) (F * G) in
      let y = minus (C * F) (B * G) (E * G) in
      let k : A * G * (F * G) ≡ 0 = ap (λ (z : ℕ). z * G * (F * G)) h.0 ∙ ap (λ (z : ℕ). z * (F * G)) (zero-mul G) ∙ zero-mul (F * G) in
      let j : B * G * (E * G) ≡ 0 = ap (λ (z : ℕ). z * G * (E * G)) h.1 ∙ ap (λ (z : ℕ). z * (E * G)) (zero-mul G) ∙ zero-mul (E * G) in
      omega (arith, same_sum)

-- ---- the two operations, by sign and fraction
abbrev pub signed : Bool → Float → Float
signed t nan = nan
signed t (inf s) = inf t
signed t (fin s m e) = fin t m e

pub signed_round : (f : Format) (t : Bool) (a b : ℕ) → round f t a b ≡ signed t (round f false a b)
signed_round f true a b = neg-round f a b ∙ go (round f false a b) (clear-round f a b)
  where
    go : (v : Float) → Clear v → neg v ≡ signed true v
    go nan c = absurd c
    go (inf true) c = absurd c
    go (inf false) c = unfold neg in refl
    go (fin true m e) c = absurd c
    go (fin false m e) c = unfold neg in refl
signed_round f false a b = go (round f false a b) (clear-round f a b)
  where
    go : (v : Float) → Clear v → v ≡ signed false v
    go nan c = absurd c
    go (inf true) c = absurd c
    go (inf false) c = refl
    go (fin true m e) c = absurd c
    go (fin false m e) c = refl

pub mul_is : (f : Format) (t : Bool) (m : ℕ) (e : ℤ) (s : Float) → Pos s → mul f (fin t m e) s ≡ round f t (m * up e * num s) (down e * den s)
unfolding mul
mul_is f t m e nan p = absurd p
mul_is f t m e (inf s) p = absurd p
mul_is f t m e (fin true n d) p = absurd p
mul_is f true m e (fin false n d) p = refl
mul_is f false m e (fin false n d) p = refl

add_is : (f : Format) (t : Bool) (v c : Float) → Pos v → Pos c → num v * den c < num c * den v → add f (signed t v) c
    ≡ round f false (shifted t (num c * den v) (num v * den c)) (den v * den c)
unfolding add
add_is f t nan c p q h = absurd p
add_is f t (inf s) c p q h = absurd p
add_is f t (fin true m e) c p q h = absurd p
add_is f t (fin false m e) nan p q h = absurd q
add_is f t (fin false m e) (inf s) p q h = absurd q
add_is f t (fin false m e) (fin true n d) p q h = absurd q
add_is f false (fin false m e) (fin false n d) p q h = refl
add_is f true (fin false m e) (fin false n d) p q h = go (ltb (m * up e * down d) (n * up d * down e)) (lt→ltb (m * up e * down d) (n * up d * down e) h)
  where
    go : (b : Bool) → T b
        → cond b (round f false (n * up d * down e - m * up e * down d) (down e * down d))
        (round f (true && ltb (n * up d * down e) (m * up e * down d)) (m * up e * down d - n * up d * down e) (down e * down d))
        ≡ round f false (n * up d * down e - m * up e * down d) (down e * down d)
    go true t = refl
    go false t = absurd t

-- ---- `le` of two finite numbers
no_pos : (a d : ℕ) → 0 < d → a * d ≡ 0 → a ≡ 0
no_pos zero d h e = refl
no_pos (suc a) d h e = absurd (clash (suc a * d) (mul-pos (zero-lt-suc a) h) e)
  where
    clash : (n : ℕ) → 0 < n → n ≡ 0 → ⊥
    clash n h e = omega arith

either_le : (a b : ℕ) (u : Bool) → T (ltb b a || (eqb a b && u)) → b ≤ a
either_le a b u t = go (ltb b a) (eqb a b) u (ltb→lt b a) (eqb→eq a b) t
  where
    less : b < a → b ≤ a
    less h = omega arith

    go : (p q u : Bool) → (T p → b < a) → (T q → a ≡ b) → T (p || (q && u)) → b ≤ a
    go true q u f g t = less (f tt)
    go false true u f g t = le_of_eq (sym (g tt))
    go false false u f g t = absurd t

pub le→ord : (t u : Bool) (m : ℕ) (e : ℤ) (n : ℕ) (d : ℤ) → T (le (fin t m e) (fin u n d)) → Ord t (m * up e) (down e) u (n * up d) (down d)
unfolding le
le→ord false false m e n d h = le_either (m * up e * down d) (n * up d * down e) true h
le→ord true true m e n d h = either_le (m * up e * down d) (n * up d * down e) true h
le→ord true false m e n d h = tt
le→ord false true m e n d h =
    let a = m * up e * down d in
    let b = n * up d * down e in
    let z : a ≡ 0 = eqb→eq a 0 (and_r (eqb a b) (eqb a 0) h) in
    let w : b ≡ 0 = sym (eqb→eq a b (and_l (eqb a b) (eqb a 0) h)) ∙ z in
    (no_pos (m * up e) (down d) (down_pos d) z, no_pos (n * up d) (down e) (down_pos e) w)

-- ---- x * s + c for x within ±1 and s below c
through_lt : (x y z p q r : ℕ) → 0 < p → 0 < q → x * q ≤ y * p → y * r < z * q → x * r < z * p
through_lt x y z p q r PP QP h k =
    lt_of_mul-lt-mul_right q
    (lt_of_le_of_lt (le_of_eq (mul_right_comm x r q))
    (lt_of_le_of_lt (mul-le-mul_right r h)
    (lt_of_le_of_lt (le_of_eq (mul_right_comm y p r))
    (lt_of_lt_of_le' (mul-lt-mul_of_pos_right k PP) (le_of_eq (mul_right_comm z q p))))))
  where
    lt_of_lt_of_le' : {a b c : ℕ} → a < b → b ≤ c → a < c
    lt_of_lt_of_le' {a} {b} {c} h k = omega arith

-- what is asked of a step s and of c = s + 1, on closed values: one computed test for each
unfoldable pub good : Float → Float → Bool
good s c = le (round binary32 false (num s) (den s)) s && ltb (num s * den c) (num c * den s)

module _ (s c : Float) (sp : Pos s) (cp : Pos c) (g : T (good s c)) where
  abbrev R : Float
  R = round binary32 false (num s) (den s)

  own_round : T (le R s)
  unfolding good
  own_round = and_l (le R s) (ltb (num s * den c) (num c * den s)) g

  s_below_c : num s * den c < num c * den s
  unfolding good
  s_below_c = ltb→lt (num s * den c) (num c * den s) (and_r (le R s) (ltb (num s * den c) (num c * den s)) g)

  R-pos : Pos R
  R-pos = finite-below R s (clear-round binary32 (num s) (den s)) sp own_round

  module _ (A E : ℕ) (EP : 0 < E) (small : A ≤ E) where
    abbrev PV : Float
    PV = round binary32 false (A * num s) (E * den s)

    V-le : T (le PV R)
    V-le =
        round_mono binary32 (A * num s) (E * den s) (num s) (den s) (mul-pos EP (den_pos s)) (den_pos s)
        (le_trans (le_of_eq (mul_assoc A (num s) (den s))) (le_trans (mul-le-mul_right (num s * den s) small) (le_of_eq (simp (mul_comm, mul_left_comm)))))

    V-pos : Pos PV
    V-pos = finite-below PV R (clear-round binary32 (A * num s) (E * den s)) R-pos V-le

    V-below-c : num PV * den c < num c * den PV
    V-below-c =
        through_lt (num PV) (num s) (num c) (den PV) (den s) (den c) (den_pos PV) (den_pos s)
        (through (num PV) (num R) (num s) (den PV) (den R) (den s) (den_pos R) (le→cross PV R V-pos R-pos V-le) (le→cross R s R-pos sp own_round))
        s_below_c

  -- the sum as one rounded fraction
  abbrev Q : Bool → ℕ → ℕ → Float
  Q t A E =
      let v = round binary32 false (A * num s) (E * den s) in
      round binary32 false (shifted t (num c * den v) (num v * den c)) (den v * den c)

  sum_is : (t : Bool) (m : ℕ) (e : ℤ) → m * up e ≤ down e → add binary32 (mul binary32 (fin t m e) s) c ≡ Q t (m * up e) (down e)
  sum_is t m e h =
      ap (λ (x : Float). add binary32 x c) (mul_is binary32 t m e s sp ∙ signed_round binary32 t (m * up e * num s) (down e * den s))
      ∙ add_is binary32 t (PV (m * up e) (down e) (down_pos e) h) c (V-pos (m * up e) (down e) (down_pos e) h) cp (V-below-c (m * up e) (down e) (down_pos e) h)

  sum_mono : (t u : Bool) (m : ℕ) (e : ℤ) (n : ℕ) (d : ℤ) → m * up e ≤ down e → n * up d ≤ down d → T (le (fin t m e) (fin u n d))
      → T (le (Q t (m * up e) (down e)) (Q u (n * up d) (down d)))
  sum_mono t u m e n d h k l =
      let v = round binary32 false (m * up e * num s) (down e * den s) in
      let w = round binary32 false (n * up d * num s) (down d * den s) in
      round_mono binary32 (shifted t (num c * den v) (num v * den c)) (den v * den c) (shifted u (num c * den w) (num w * den c)) (den w * den c)
      (mul-pos (den_pos v) (den_pos c)) (mul-pos (den_pos w) (den_pos c))
      (ord_add (num c) (den c) (num v) (den v) (num w) (den w) t u
      (ord_mul binary32 (num s) (den s) (den_pos s) t u (m * up e) (down e) (n * up d) (down d) (down_pos e) (down_pos d)
      (V-pos (m * up e) (down e) (down_pos e) h) (V-pos (n * up d) (down d) (down_pos d) k) (le→ord t u m e n d l)))

-- ---- one step: what is asked of it, on closed values
unfoldable pub ok_step : Float → Bool
ok_step s = clear s && (clear (add binary32 s one_f) && good s (add binary32 s one_f))

-- scaled x step + (step + 1)
abbrev pub argument : Float → Float → Float
argument s x = add binary32 (mul binary32 x s) (add binary32 s one_f)

pub argument-mono : (s : Float) → T (ok_step s) → (t u : Bool) (m : ℕ) (e : ℤ) (n : ℕ) (d : ℤ) → m * up e ≤ down e → n * up d ≤ down d
    → T (le (fin t m e) (fin u n d)) → T (le (argument s (fin t m e)) (argument s (fin u n d)))
unfolding ok_step
argument-mono s ok t u m e n d p q l =
    let c = add binary32 s one_f in
    let sp : Pos s = and_l (clear s) (clear c && good s c) ok in
    let cp : Pos c = and_l (clear c) (good s c) (and_r (clear s) (clear c && good s c) ok) in
    let g : T (good s c) = and_r (clear c) (good s c) (and_r (clear s) (clear c && good s c) ok) in
    subst (λ (z : Float). T (le z (argument s (fin u n d)))) (sym (sum_is s c sp cp g t m e p))
    (subst (λ (z : Float). T (le (Q s c sp cp g t (m * up e) (down e)) z)) (sym (sum_is s c sp cp g u n d q))
    (sum_mono s c sp cp g t u m e n d p q l))
