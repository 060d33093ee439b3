-- A search part by part: a part is asked whether it has a bad one, and which is looked for behind the first that has. It finds what the search of the
-- whole does. Assumes nothing.
use Rattle.std.specs.Prelude.{Some, None}
use Rattle.std.specs.Fn.{Called}
use Rattle.std.specs.Iterator.Runs.{Run, YieldsRun, SomeRun, EveryRun, IsChunksRun, AllItemsGive, IsFirstToGive}
use Rattle.std.specs.Option.{IfSome, IsSomeAnd}
use Rattle.std.specs.List.{IsSubsliceAt}
use Rattle.std.specs.Slice.Iter.{chunks_rest, chunks_size, chunks_steps, chunk_count}
use Rattle.std.specs.declared.option.Option.{Option}
use Rattle.std.specs.declared.slice.Chunks.{Chunks}
use Rattle.std.proofs.lemmas.List.{get_or-drop, length-drop, length-take, take_all}
use Rattle.std.proofs.lemmas.Option.{slice_get_cases}
use denote.Param.Members.{Mut}
use denote.Ref.{Bor}
use mathlib.Core.Path.{◌≡◌, refl, sym, ap, subst, ◌∙◌}
use mathlib.Core.List.{List}
use mathlib.Core.Bool.{Bool, true, false, cond, not, true≢false}
use mathlib.Core.Logic.{⊎_elim}
use Prim.Native.Nat.{ℕ, zero, suc, ◌+◌, ◌-◌, ◌*◌, ◌/◌, ◌%◌, ◌≤◌, ◌<◌}
use native.Mathlib.Nat.{eq-or-lt_of_le}
use native.Mathlib.Omega.{arith}
use borrow.Author.Tests.{lt-ltb, le-ltb, ltb-true}
use lib.Dec.{ltb}
use lib.Ieee.{Float, nan}
use lib.Ieee.Scale.{finite}
use lib.ListN.{length, get_or, take, drop}
use lib.Seq.{get_or-take}
use Rattle.buffers.specs.Walk.{first, first_from}
use Rattle.rules.specs.Layout.{part}
use Rattle.rules.specs.Stage.{bad_spectrum}
use Rattle.stage_gate.specs.Gate.{first_if_any}
use Rattle.stage_gate.proofs.Searches.{found_none, none_first, same_from, some_first}

-- where none was found below n, none has the property; and what was found has it
none_below : (p : ℕ → Bool) (i k n : ℕ) → n ≡ i + k → ltb (first_from p i k) n ≡ false → (j : ℕ) → i ≤ j → j < n → p j ≡ false
unfolding first_from
none_below p i zero n w h j a b = absurd (omega arith)
none_below p i (suc k) n w h j a b = go (p i) refl h (none_below p (suc i) k n (omega arith))
  where
    go : (t : Bool) → p i ≡ t → ltb (cond t i (first_from p (suc i) k)) n ≡ false
        → (ltb (first_from p (suc i) k) n ≡ false → (j : ℕ) → suc i ≤ j → j < n → p j ≡ false) → p j ≡ false
    go true e f later = absurd (true≢false (sym (lt-ltb i n (omega arith)) ∙ f))
    go false e f later = ⊎_elim (λ (q : i ≡ j). ap p (sym q) ∙ e) (λ (q : i < j). later f j (omega arith) b) (eq-or-lt_of_le a)

found_has : (p : ℕ → Bool) (i k n : ℕ) → n ≡ i + k → ltb (first_from p i k) n ≡ true → p (first_from p i k) ≡ true
unfolding first_from
found_has p i zero n w h = absurd (true≢false (sym h ∙ le-ltb i n (omega arith)))
found_has p i (suc k) n w h = go (p i) refl h (found_has p (suc i) k n (omega arith))
  where
    go : (t : Bool) → p i ≡ t → ltb (cond t i (first_from p (suc i) k)) n ≡ true
        → (ltb (first_from p (suc i) k) n ≡ true → p (first_from p (suc i) k) ≡ true) → p (cond t i (first_from p (suc i) k)) ≡ true
    go true e f later = e
    go false e f later = later f

-- a search goes on behind what has not the property
passed : (p : ℕ → Bool) (i k m n j : ℕ) → n ≡ k + m → j ≡ i + k → ((l : ℕ) → l < j → p l ≡ false) → first_from p i n ≡ first_from p j m
unfolding first_from
passed p i zero m n j q w h =
    let a : n ≡ m = omega arith in
    let b : i ≡ j = omega arith in
    rw (a, b)
passed p i (suc k) m zero j q w h = absurd (omega arith)
passed p i (suc k) m (suc n) j q w h = rw (h i (omega arith)) (passed p (suc i) k m n j (omega arith) (omega arith) h)

-- and counts from the start of the whole
counted : (p : ℕ → Bool) (a i k : ℕ) → first_from p (a + i) k ≡ a + first_from (λ j. p (a + j)) i k
unfolding first_from
counted p a i zero = refl
counted p a i (suc k) = let w : a + suc i ≡ suc (a + i) = omega arith in go (p (a + i)) (rw w at (counted p a (suc i) k))
  where
    go : (t : Bool) → first_from p (suc (a + i)) k ≡ a + first_from (λ j. p (a + j)) (suc i) k
        → cond t (a + i) (first_from p (suc (a + i)) k) ≡ a + cond t i (first_from (λ j. p (a + j)) (suc i) k)
    go true e = refl
    go false e = e

-- whether a list has a bad one
abbrev pub any_bad : List Float → Bool
any_bad ys = ltb (first (bad_spectrum ys) (length ys)) (length ys)

module _ (xs : List Float) (m : ℕ) (good : (k : ℕ) → k < m → any_bad (part 1024 xs k) ≡ false) where
  -- the parts before the m-th have none
  before : (j : ℕ) → j < m * 1024 → j < length xs → bad_spectrum xs j ≡ false
  unfolding bad_spectrum
  before j a b =
      let k = j / 1024 in
      let r = j % 1024 in
      let w : k * 1024 + r ≡ j = omega arith in
      let long : r < length (part 1024 xs k) = omega (arith, length-take 1024 (drop (k * 1024) xs), length-drop (k * 1024) xs) in
      let at : get_or (part 1024 xs k) r nan ≡ get_or xs j nan =
      get_or-take 1024 (drop (k * 1024) xs) r nan (omega arith) ∙ get_or-drop (k * 1024) xs r nan ∙ ap (λ (n : ℕ). get_or xs n nan) w in
      let n = length (part 1024 xs k) in
      ap (λ x. not (finite x)) (sym at)
      ∙ none_below (bad_spectrum (part 1024 xs k)) 0 n n (omega arith) (good k (omega arith)) r (omega arith) long

  -- so there is none where these are all
  pub none_at_all : length xs ≤ m * 1024 → None ≡ first_if_any (bad_spectrum xs) (length xs)
  unfolding first_from
  none_at_all h =
      let n = length xs in
      found_none _ n n (passed (bad_spectrum xs) 0 n 0 n n (omega arith) (omega arith) (λ j b. before j (omega arith) b)) (omega arith)

  -- and the first of those behind is the first of all
  abbrev behind : List Float
  behind = drop (m * 1024) xs

  pub first_behind : m * 1024 ≤ length xs → (i : ℕ) → Some i ≡ first_if_any (bad_spectrum behind) (length behind)
      → Some (m * 1024 + i) ≡ first_if_any (bad_spectrum xs) (length xs)
  unfolding first_if_any bad_spectrum
  first_behind h i e =
      let at = m * 1024 in
      let f = some_first (bad_spectrum behind) (length behind) i e in
      let long : length xs ≡ at + length behind = omega (arith, length-drop at xs) in
      let zero_more : at ≡ at + 0 = omega arith in
      let w : first (bad_spectrum xs) (length xs) ≡ at + i =
      passed (bad_spectrum xs) 0 at (length behind) (length xs) at long (omega arith) (λ j b. before j b (omega arith))
      ∙ ap (λ (n : ℕ). first_from (bad_spectrum xs) n (length behind)) zero_more
      ∙ counted (bad_spectrum xs) at 0 (length behind)
      ∙ ap (λ (n : ℕ). at + n) (same_from _ _ 0 (length behind) (λ j _. ap (λ x. not (finite x)) (sym (get_or-drop at xs j nan))) ∙ f.0) in
      let below : i < length behind = ltb-true i (length behind) (ap (λ (k : ℕ). ltb k (length behind)) (sym f.0) ∙ f.1) in
      rw (w, lt-ltb (at + i) (length xs) (omega arith))

-- a list that begins with a part that has one has one
pub some_behind : (ys : List Float) → any_bad (take 1024 ys) ≡ true → None ≡ first_if_any (bad_spectrum ys) (length ys) → ⊥
unfolding bad_spectrum
some_behind ys h e =
    let front = take 1024 ys in
    let j = first (bad_spectrum front) (length front) in
    let below : j < length front = ltb-true j (length front) h in
    let long = length-take 1024 ys in
    let is : bad_spectrum front j ≡ true = found_has (bad_spectrum front) 0 (length front) (length front) (omega arith) h in
    let at : get_or front j nan ≡ get_or ys j nan = get_or-take 1024 ys j nan (omega arith) in
    let not_is : bad_spectrum ys j ≡ false =
    none_below (bad_spectrum ys) 0 (length ys) (length ys) (omega arith) (none_first (bad_spectrum ys) (length ys) e) j (omega arith) (omega arith) in
    absurd (true≢false (sym is ∙ ap (λ x. not (finite x)) at ∙ not_is))

-- the list that is lent from a place on
pub lent_behind : (at : ℕ) (xs : List Float) → take (length xs - at) (drop at xs) ≡ drop at xs
lent_behind at xs = take_all _ (drop at xs) (omega (arith, length-drop at xs))

-- what `position` over the parts found, where the test of a part is whether it has one
module _ {F : Type 0} (g : Mut F (Bor (List Float) × Unit {0}) Bool) (f : F) (s : Chunks Float) (xs : List Float) (size : chunks_size s ≡ 1024)
    (rest : chunks_rest s ≡ xs)
    (parts : EveryRun (chunks_steps {A = Float}) (λ p. 0 < chunks_size p.from → IsChunksRun p (chunks_size p.from) (chunks_rest p.from)))
    (calls : (x : Bor (List Float)) (b : Bool) (q : F) → Called g f (x, tt) b q → (q ≡ f) × (b ≡ any_bad x.now)) where
  cut : (p : Run (chunks_steps {A = Float})) → p.from ≡ s → IsChunksRun p 1024 xs
  cut p e =
      let n : chunks_size p.from ≡ 1024 = ap chunks_size e ∙ size in
      let r : chunks_rest p.from ≡ xs = ap chunks_rest e ∙ rest in
      subst (λ ys. IsChunksRun p 1024 ys) r (subst (λ k. IsChunksRun p k (chunks_rest p.from)) n (parts p p.seen (omega arith)))

  item : (p : Run (chunks_steps {A = Float})) (k : ℕ) → k < p.len → (x : Bor (List Float)) × (p.at k ≡ Some x)
  unfolding YieldsRun
  item p k h =
      ⊎_elim
      (λ w. (w.0, p.gave.1 k ∙ w.2))
      (λ w. absurd (omega (arith, w.0, p.long)))
      (slice_get_cases p.items k).1

  judged : (p : Run (chunks_steps {A = Float})) (k : ℕ) (b : Bool) → p.from ≡ s → IsSomeAnd (p.at k) (λ x. Called g f (x, tt) b f)
      → (b ≡ any_bad (part 1024 xs k)) × (k * 1024 < length xs)
  judged p k b e h = go (p.at k) h ((cut p e).2 k)
    where
      go : (o : Option (Bor (List Float))) → IsSomeAnd o (λ x. Called g f (x, tt) b f)
          → IfSome o (λ x. (0 < length x.now) × (k * 1024 < length xs) × IsSubsliceAt 1024 xs (k * 1024) x.now)
          → (b ≡ any_bad (part 1024 xs k)) × (k * 1024 < length xs)
      go None h w = absurd h
      go (Some x) h w = ((calls x b f h).1 ∙ ap any_bad w.2.0, w.1)

  keeps : (a : Bor (List Float) × Unit {0}) (r : Bool) (q : F) → Called g f a r q → q ≡ f
  keeps a r q h = (calls a.0 r q h).0

  -- no part has one
  pub parts_none : SomeRun (chunks_steps {A = Float}) s (λ p. (p.whole ≡ true) × AllItemsGive p g f false) → None ≡ first_if_any (bad_spectrum xs) (length xs)
  parts_none (p, e, (w, gives)) =
      let m = chunk_count (length xs) 1024 in
      let n : p.len ≡ m = (cut p e).1 w in
      none_at_all xs m
      (λ k h.
      let o = item p k (omega arith) in
      sym ((judged p k false e (subst (λ o. IsSomeAnd o (λ x. Called g f (x, tt) false f)) (sym o.1)
      (subst (λ o. IfSome o (λ x. Called g f (x, tt) false f)) o.1 (gives keeps k)))).0))
      (omega arith)

  -- the first part that has one
  pub parts_some : (m : ℕ) → SomeRun (chunks_steps {A = Float}) s (λ p. (p.len ≡ m + 1) × IsFirstToGive p g f true false m)
      → (any_bad (part 1024 xs m) ≡ true) × (m * 1024 < length xs) × ((k : ℕ) → k < m → any_bad (part 1024 xs k) ≡ false)
  parts_some m (p, e, (w, gives)) =
      let all = gives keeps in
      let hit = judged p m true e all.0 in
      (sym hit.0, hit.1, λ k h. sym ((judged p k false e (all.1 k h)).0))
