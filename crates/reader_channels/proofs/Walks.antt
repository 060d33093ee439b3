-- A loop that reads values one after the other and stores them, as a walk of the rules. Assumes nothing.
use mathlib.Core.Path.{◌≡◌, refl, sym, ◌∙◌, ap, ap₂}
use mathlib.Core.List.{List, ◌++◌, append-nil}
use mathlib.Core.Bool.{Bool}
use mathlib.Core.Option.{none}
use Prim.Native.Nat.{ℕ, zero, suc, ◌+◌, ◌-◌, ◌*◌, ◌≤◌, ◌<◌}
use native.Mathlib.Omega.{arith}
use native.Mathlib.Numerals.{add-one}
use lib.ListN.{length, take, drop, set, get_or, replicate, length-append, length-drop, length-set, length-replicate, get_or-append}
use Rattle.std.specs.Prelude.{Ok}
use lib.Seq.{take-suc-set, take_all, take_at, get_or-drop, get_or-append-add}
use Rattle.bits.specs.Place.{left_at}
use Rattle.bits.specs.declared.Place.{Place}
use Rattle.bits.proofs.Parts.{take_copies}
use Rattle.rules.specs.Format.{Read, ok, Reader, walk, times}
use Rattle.rules.specs.Fields.{as_previous}
use Rattle.rules.specs.Reading.{read_factor, read_factors}
use Rattle.rules_formats.proofs.Turns.{onto, onto-none, walk_turn}
use Rattle.rules.proofs.Cuts.{by_order, get_or_copies, pad-back, set_keeps}
use Rattle.reader_channels.specs.Values.{Value, ValueAgrees}
use Rattle.reader_channels.specs.StoredRow.{Row, StoredRow}
use Rattle.reader_channels.proofs.Answered.{agrees_of}

-- THE VALUES, stored from the front on in the part of a row that is lent for them
-- i of n values are stored; `state` is what the next one depends on, and `at` its place
pub record Going {S : Type 0} (next : S → ℕ → S) (f : S → Unit {0} → Reader ℕ) (s : List ℕ) (x : Read (List ℕ)) (n i : ℕ) (state : S) (at : ℕ)
    (xs : List ℕ) : Type 0 where
  pub below : i ≤ n
  pub within : at ≤ 8 * length s
  pub long : length xs ≡ n
  pub small : (j : ℕ) → get_or xs j 0 < 64
  pub is : x ≡ onto (take i xs) (walk next f state (times (n - i)) (left_at s at))

-- n values, and zeros behind them
module _ (n k : ℕ) (xs : List ℕ) (h : n ≤ k) (l : length xs ≡ n) where
  abbrev zeros : List ℕ
  zeros = drop n (replicate k 0)

  zeroed : (j : ℕ) → n ≤ j → get_or (xs ++ zeros) j 0 ≡ 0
  zeroed j q =
      let z : length xs + (j - n) ≡ j = omega arith in
      ap (λ m. get_or (xs ++ zeros) m 0) (sym z) ∙ get_or-append-add xs zeros (j - n) 0 ∙ get_or-drop n (replicate k 0) (j - n) 0 ∙ get_or_copies 0 k (n + (j - n))

  row_of : ((j : ℕ) → get_or xs j 0 < 64) → Row n k (xs ++ zeros)
  row_of p =
      let full : length (xs ++ zeros) ≡ k = omega (arith, length-append xs zeros, length-drop {A = ℕ} n (replicate k 0), length-replicate {A = ℕ} k 0) in
      let front : take n (xs ++ zeros) ≡ xs = take_at xs zeros n l in
      record {
        padded = sym (pad-back 0 k n (xs ++ zeros) full h (λ j q _. zeroed j q));
        small = λ j. by_order j n (λ q. omega (arith, get_or-append xs zeros 0 j (omega arith), p j)) (λ q. omega (arith, zeroed j q));
      }

module _ {S : Type 0} {next : S → ℕ → S} {f : S → Unit {0} → Reader ℕ} {s : List ℕ} {x : Read (List ℕ)} where
  pub going_none : (n k at : ℕ) (state : S) → at ≤ 8 * length s → x ≡ walk next f state (times n) (left_at s at) → n ≤ k
      → (row : List ℕ) (m : ℕ) → row ≡ replicate m 0 → m ≡ k → Going next f s x n 0 state at (take n row)
  going_none n k at state h e g row m z c = rw (z, c, take_copies {A = ℕ} 0 n k g) (record {
    below = omega arith;
    within = h;
    long = length-replicate n 0;
    small = λ j. omega (arith, get_or_copies {A = ℕ} 0 n j);
    is = let z : n ≡ n - 0 = omega arith in e ∙ ap (λ m. walk next f state (times m) (left_at s at)) z ∙ onto-none _;
  })

  module _ {n i : ℕ} {state : S} {at : ℕ} {xs : List ℕ} (w : Going next f s x n i state at xs) where
    one_more : i < n → n - i ≡ suc (n - (i + 1))
    one_more h = omega arith

    pub going_more : {v : ℕ} {q : Place} {m : ℕ} {r : Value} (state' : S) → state' ≡ next state v → i < n → m ≤ 64
        → r ≡ Ok (v, q) → ValueAgrees s (f state tt (left_at s at)) m r → Going next f s x n (i + 1) state' q.at (set xs i v)
    going_more {v} {q} state' y h p z agrees =
        let t = agrees_of z agrees in
        let l : i < length xs = omega (arith, w.long) in
        let b = left_at s at in
        record {
          below = omega arith;
          within = t.within;
          long = length-set xs i v ∙ w.long;
          small = λ j. set_keeps (λ n. n < 64) v (omega (arith, t.small)) xs i j (w.small j);
          is = w.is ∙ ap (λ m. onto (take i xs) (walk next f state (times m) b)) (one_more h)
              ∙ walk_turn next f (take i xs) state tt (times (n - (i + 1))) b v (left_at s q.at) t.is
              ∙ ap₂ (λ d u. onto d (walk next f u (times (n - (i + 1))) (left_at s q.at)))
              (sym (ap (λ m. take m (set xs i v)) (add-one i) ∙ take-suc-set xs i v l)) (sym y);
        }

    going_row : (k : ℕ) (q : Place) → q.at ≡ at → n ≤ i → n ≤ k → StoredRow s x n k (xs ++ drop n (replicate k 0)) (Ok q)
    going_row k q e h g =
        let z : n - i ≡ 0 = omega arith in
        let y : i ≡ n = omega (arith, w.below) in
        let t : take i xs ≡ take n (xs ++ drop n (replicate k 0)) = ap (λ m. take m xs) y ∙ take_all n xs (omega (arith, w.long)) ∙ sym (take_at xs (drop n (replicate k 0)) n w.long) in
        record {
          done = record {
            is = w.is ∙ ap (λ m. onto (take i xs) (walk next f state (times m) (left_at s at))) z
                ∙ ap (λ d. ok d (left_at s at)) (append-nil (take i xs)) ∙ ap (λ r. ok r (left_at s at)) t
                ∙ ap (λ a. ok (take n (xs ++ drop n (replicate k 0))) (left_at s a)) (sym e);
            within = omega (arith, w.within);
          };
          held = row_of n k xs g w.long w.small;
        }

    -- .. in a row that was cleared
    pub going_all : (k : ℕ) (q : Place) → q.at ≡ at → n ≤ i → n ≤ k → (row : List ℕ) (m : ℕ) → row ≡ replicate m 0 → m ≡ k
        → StoredRow s x n k (xs ++ drop n row) (Ok q)
    going_all k q e h g row m z c = rw (z, c) (going_row k q e h g)

-- a channel's factors are such a walk at a width above 0, and zeros at width 0
pub factors-start : (w n : ℕ) (b : List Bool) → 1 ≤ w → read_factors w n b ≡ walk as_previous (λ p _. read_factor w p) none (times n) b
factors-start zero n b h = absurd (omega arith)
factors-start (suc w) n b h = refl

pub factors-none : (s : List ℕ) (q : Place) → q.at ≤ 8 * length s → (w n : ℕ) → w ≡ 0 → n ≤ 128 → (xs : List ℕ) (m : ℕ) → xs ≡ replicate m 0 → m ≡ 128
    → StoredRow s (read_factors w n (left_at s q.at)) n 128 xs (Ok q)
factors-none s q h w n z g xs m c e =
    rw (z, c, e)
    (record {
      done = record { is = ap (λ l. ok l (left_at s q.at)) (sym (take_copies 0 n 128 g)); within = h };
      held = record { padded = sym (pad-back 0 128 n (replicate 128 0) (length-replicate {A = ℕ} 128 0) g (λ j _ _. get_or_copies 0 128 j)); small = λ j. omega (arith, get_or_copies {A = ℕ} 0 128 j) };
    })
