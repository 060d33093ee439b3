-- The two laws of `Lawful`, for each way to put readers together. Assumes nothing.
use mathlib.Core.Path.{◌≡◌, refl, sym, ◌∙◌, ap, subst}
use mathlib.Core.List.{List, [], ◌∷◌, ◌++◌, append_assoc}
use mathlib.Core.Bool.{Bool, true, false}
use mathlib.Core.Logic.{◌↔◌}
use Prim.Native.Nat.{ℕ, ◌≤◌, ◌<◌}
use native.Mathlib.Omega.{arith}
use lib.ListN.{length, take, drop, take-append-drop, length-append}
use lib.Seq.{take-append-le, take-append_seam}
use lib.Dec.{T}
use Rattle.rules.specs.Format.{Read, ok, bad, Reader, pure, and_then, ◌>>=◌, here, keep, require, from, as_one, ◌⊗◌, walk, walk_bits, Walked, Lawful}

pub bad≢ok : {A : Type 0} {n l : ℕ} {a : A} {t : List Bool} → bad n l ≡ ok a t → ⊥
bad≢ok e = let z : ◌≡◌ {A = ℕ} 0 1 = cc in omega arith

-- a sequence that is accepted was accepted twice
pub twice : {A B : Type 0} (f : B → Reader A) (x : Read B) (a : A) (t : List Bool) → and_then x f ≡ ok a t
    → (b : B) × (u : List Bool) × (x ≡ ok b u) × (f b u ≡ ok a t)
twice f (ok b u) a t e = (b, u, refl, e)
twice f (bad n l) a t e = absurd (bad≢ok e)

module _ {A : Type 0} where
  pub pure_fits : (a₀ : A) → Lawful (λ a. a ≡ a₀) (λ a. []) (pure a₀)
  pure_fits a₀ = record { there = λ a t e. ap (λ x. ok x t) (sym e); back = λ s a t e. (cc, cc) }

  -- the same laws of a legality that says the same
  pub iff_fits : {L L' : A → Type 0} {w : A → List Bool} {p : Reader A} → ((a : A) → L a ↔ L' a) → Lawful L w p → Lawful L' w p
  iff_fits i P = record { there = λ a t h. P.there a t ((i a).1 h); back = λ s a t e. let (h, q) = P.back s a t e in ((i a).0 h, q) }

  -- .. and of bits that are the same for a legal value
  pub same-fits : {L : A → Type 0} {w v : A → List Bool} {p : Reader A} → ((a : A) → L a → w a ≡ v a) → Lawful L w p → Lawful L v p
  same-fits e P = record {
    there = λ a t h. rw (← e a h) (P.there a t h);
    back = λ s a t q. let (h, z) = P.back s a t q in (h, rw (← e a h) z);
  }

  pub here-fits : {L : A → Type 0} {w : A → List Bool} {f : ℕ → Reader A} → ((l : ℕ) → Lawful L w (f l)) → Lawful L w (here f)
  here-fits P = record { there = λ a t. (P _).there a t; back = λ s a t. (P _).back s a t }

  -- `π` finds in what is read in the end what is read first: a field, or what the writer works out
  pub bind_fits : {B : Type 0} {M : B → Type 0} {v : B → List Bool} {p : Reader B} {L : A → Type 0} {w : A → List Bool} {f : B → Reader A}
      (π : A → B) → Lawful M v p → ((b : B) → M b → Lawful (λ a. (π a ≡ b) × L a) w (f b))
      → Lawful (λ a. M (π a) × L a) (λ a. v (π a) ++ w a) (p >>= f)
  bind_fits {M} {v} {p} {w} {f} π P F = record {
    there = λ a t h. rw (append_assoc, P.there (π a) (w a ++ t) h.0) ((F (π a) h.0).there a t (refl, h.1));
    back = λ s a t e.
        let (b, u, e₁, e₂) = twice f (p s) a t e in
        let (m, q₁) = P.back s b u e₁ in
        let (h, q₂) = (F b m).back u a t e₂ in
        ((subst M (sym h.0) m, h.1), rw append_assoc (cc h.0));
  }

  keep-ok : (n l : ℕ) {a : A} {t : List Bool} (b : Bool) → T b → keep n l b a t ≡ ok a t
  keep-ok n l true h = refl
  keep-ok n l false h = absurd h

  keep-back : (n l : ℕ) {c : A} {u : List Bool} (b : Bool) {a : A} {t : List Bool} → keep n l b c u ≡ ok a t → T b × (c ≡ a) × (u ≡ t)
  keep-back n l true e = (tt, cc, cc)
  keep-back n l false e = absurd (bad≢ok e)

  pub keep-fits : (n l : ℕ) (b : Bool) (a₀ : A) → Lawful (λ a. (a ≡ a₀) × T b) (λ a. []) (keep n l b a₀)
  keep-fits n l b a₀ = record {
    there = λ a t h. rw h.0 (keep-ok n l b h.1);
    back = λ s a t e. let (k, c, d) = keep-back n l b e in ((sym c, k), d);
  }

  pub check-fits : {L : A → Type 0} {w : A → List Bool} {p : Reader A} (n l : ℕ) (test : A → Bool) → Lawful L w p
      → Lawful (λ a. L a × T (test a)) w (require n l test p)
  check-fits {L} {w} {p} n l test P = record {
    there = λ a t h. rw (P.there a t h.0) (keep-ok n l (test a) h.1);
    back = λ s a t e.
        let (b, u, e₁, e₂) = twice (λ a. keep n l (test a) a) (p s) a t e in
        let (k, c, d) = keep-back n l (test b) e₂ in
        let (m, q) = P.back s b u e₁ in
        ((subst L c m, subst (λ x. T (test x)) c k), cc);
  }

  from_back : (l : ℕ) (x : Read A) {a : A} {t : List Bool} → from l x ≡ ok a t → x ≡ ok a t
  from_back l (ok b u) e = e
  from_back l (bad n k) e = absurd (bad≢ok e)

  pub whole-fits : {L : A → Type 0} {w : A → List Bool} {p : Reader A} → Lawful L w p → Lawful L w (as_one p)
  whole-fits {p} P = record { there = λ a t h. rw (P.there a t h) refl; back = λ s a t e. P.back s a t (from_back _ (p s) e) }

  -- the same value in another dress
  pub map-fits : {B : Type 0} {L : B → Type 0} {w : B → List Bool} {p : Reader B} (f : A → B) (g : B → A)
      → ((b : B) → f (g b) ≡ b) → ((a : A) → g (f a) ≡ a) → Lawful L w p → Lawful (λ a. L (f a)) (λ a. w (f a)) (p >>= λ b. pure (g b))
  map-fits {L} {p} f g fg gf P = record {
    there = λ a t h. rw (P.there (f a) t h) (ap (λ x. ok x t) (gf a));
    back = λ s a t e.
        let (b, u, e₁, e₂) = twice (λ b. pure (g b)) (p s) a t e in
        let (m, q) = P.back s b u e₁ in
        let z : b ≡ f a = cc (fg b) in
        (subst L z m, cc);
  }

  pub pair_fits : {B : Type 0} {M : A → Type 0} {v : A → List Bool} {p : Reader A} {L : A → B → Type 0} {w : A → B → List Bool} {f : A → Reader B}
      → Lawful M v p → ((a : A) → M a → Lawful (L a) (w a) (f a))
      → Lawful (λ x. M x.0 × L x.0 x.1) (λ x. v x.0 ++ w x.0 x.1) (p ⊗ f)
  pair_fits {B} {M} {v} {p} {L} {w} {f} P F = record {
    there = λ x t h. rw (append_assoc, P.there x.0 _ h.0, (F x.0 h.0).there x.1 t h.1) refl;
    back = λ s x t e.
        let (a, u, e₁, e₂) = twice (λ a. f a >>= λ b. pure (a, b)) (p s) x t e in
        let (m, q₁) = P.back s a u e₁ in
        let (b, u', e₃, e₄) = twice (λ b. pure {A = A × B} (a, b)) (f a u) x t e₂ in
        let (h, q₂) = (F a m).back u b u' e₃ in
        let z : ◌≡◌ {A = A × B} (a, b) x = cc in
        let q : s ≡ v a ++ (w a b ++ t) = cc in
        subst (λ y. (M y.0 × L y.0 y.1) × (s ≡ (v y.0 ++ w y.0 y.1) ++ t)) z ((m, h), q ∙ sym (append_assoc (v a) (w a b) t));
  }

-- A reader looks no further than its value's bits. So code may look ahead, into whatever follows, and then ask whether the bits are there.
module _ {A : Type 0} {L : A → Type 0} {w : A → List Bool} {p : Reader A} (P : Lawful L w p) where
  pub ahead_yes : (s t : List Bool) (a : A) (u : List Bool) → p (s ++ t) ≡ ok a u → length (w a) ≤ length s → p s ≡ ok a (drop (length (w a)) s)
  ahead_yes s t a u e h =
      let (m, q) = P.back (s ++ t) a u e in
      let z : take (length (w a)) s ≡ w a = sym (take-append-le (length (w a)) s t h) ∙ ap (take (length (w a))) q ∙ take-append_seam (w a) u in
      subst (λ x. p x ≡ ok a (drop (length (w a)) s)) (ap (λ x. x ++ drop (length (w a)) s) (sym z) ∙ take-append-drop (length (w a)) s)
      (P.there a (drop (length (w a)) s) m)

  pub ahead_no : (s t : List Bool) (a : A) (u : List Bool) → p (s ++ t) ≡ ok a u → length s < length (w a) → (b : A) (v : List Bool) → p s ≡ ok b v → ⊥
  ahead_no s t a u e h b v r =
      let (m, q) = P.back s b v r in
      let z : p (s ++ t) ≡ ok b (v ++ t) = subst (λ x. p (x ++ t) ≡ ok b (v ++ t)) (sym q) (rw append_assoc (P.there b (v ++ t) m)) in
      let y : a ≡ b = cc in
      omega (arith, ap length q, length-append (w b) v, ap (λ x. length (w x)) y)

module _ {S X A : Type 0} {L : S → X → A → Type 0} {w : S → X → A → List Bool} {f : S → X → Reader A} (next : S → A → S)
    (F : (s : S) (x : X) → Lawful (L s x) (w s x) (f s x)) where
  walk-there : (s : S) (xs : List X) (ys : List A) (t : List Bool) → Walked next L s xs ys → walk next f s xs (walk_bits next w s xs ys ++ t) ≡ ok ys t
  walk-there s [] [] t h = refl
  walk-there s [] (y ∷ ys) t h = absurd h
  walk-there s (x ∷ xs) [] t h = absurd h
  walk-there s (x ∷ xs) (y ∷ ys) t h = rw (append_assoc, (F s x).there y _ h.0, walk-there (next s y) xs ys t h.1) refl

  walk-back : (s : S) (xs : List X) (b : List Bool) (ys : List A) (t : List Bool) → walk next f s xs b ≡ ok ys t
      → Walked next L s xs ys × (b ≡ walk_bits next w s xs ys ++ t)
  walk-back s [] b ys t e =
      let z : ◌≡◌ {A = List A} [] ys = cc in
      (subst (λ z. Walked next L s [] z) z tt, cc)
  walk-back s (x ∷ xs) b ys t e =
      let (a, u, e₁, e₂) = twice (λ a. walk next f (next s a) xs >>= λ r. pure (a ∷ r)) (f s x b) ys t e in
      let (m, q₁) = (F s x).back b a u e₁ in
      let (r, u', e₃, e₄) = twice (λ r. pure (a ∷ r)) (walk next f (next s a) xs u) ys t e₂ in
      let (h, q₂) = walk-back (next s a) xs u r u' e₃ in
      let z : a ∷ r ≡ ys = cc in
      let q : b ≡ w s x a ++ (walk_bits next w (next s a) xs r ++ t) = cc in
      subst (λ y. Walked next L s (x ∷ xs) y × (b ≡ walk_bits next w s (x ∷ xs) y ++ t)) z
      ((m, h), q ∙ sym (append_assoc (w s x a) (walk_bits next w (next s a) xs r) t))

  pub walk-fits : (s : S) (xs : List X) → Lawful (Walked next L s xs) (walk_bits next w s xs) (walk next f s xs)
  walk-fits s xs = record { there = walk-there s xs; back = walk-back s xs }

-- where the legality does not look at the state, the state does not matter
pub walked_any : {S S' X A : Type 0} (next : S → A → S) (next' : S' → A → S') (L : X → A → Type 0) (s : S) (s' : S') (xs : List X) (ys : List A)
    → Walked next (λ _. L) s xs ys → Walked next' (λ _. L) s' xs ys
walked_any next next' L s s' [] [] h = tt
walked_any next next' L s s' [] (y ∷ ys) h = absurd h
walked_any next next' L s s' (x ∷ xs) [] h = absurd h
walked_any next next' L s s' (x ∷ xs) (y ∷ ys) h = (h.0, walked_any next next' L (next s y) (next' s' y) xs ys h.1)
