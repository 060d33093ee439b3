-- Rows that are zero past their coded count, and how long a lent part is. Assumes nothing.
use mathlib.Core.Path.{◌≡◌, sym, ◌∙◌, ap}
use mathlib.Core.List.{List, [], ◌++◌, append-nil}
use Prim.Native.Nat.{ℕ, ◌+◌, ◌-◌, ◌≤◌}
use native.Mathlib.Omega.{arith}
use lib.IntN.{ℤ, pos}
use lib.ListN.{length, take, drop, replicate, length-drop, length-replicate, drop_of_length-le, replicate-append-replicate}
use lib.Seq.{take_at, take-append-add, length-take-le}
use Rattle.buffers.proofs.Build.{back-width}
use Rattle.rules.specs.Record.{pad}
use Rattle.reader_codes.specs.Rows.{Blank}

-- a list padded with copies of d
pad-is : {A : Type 0} (d : A) (k n : ℕ) (xs : List A) → length xs ≡ n → n ≤ k → pad d k xs ≡ xs ++ replicate (k - n) d
pad-is d k n xs e h =
    let q : length xs + (k - n) ≡ k = omega arith in
    let z : replicate k d ≡ replicate (k - n) d ++ replicate n d = let m : k - n + n ≡ k = omega arith in
    ap (λ i. replicate i d) (sym m) ∙ sym (replicate-append-replicate (k - n) n d) in
    ap (λ i. take i (xs ++ replicate k d)) (sym q)
    ∙ take-append-add xs (replicate k d) (k - n)
    ∙ ap (λ ys. xs ++ ys) (ap (take (k - n)) z ∙ take_at (replicate (k - n) d) (replicate n d) (k - n) (length-replicate (k - n) d))

-- a row whose codes from n on were cleared: the part that was lent came back as ys
module _ (n : ℕ) (row ys : List ℤ) (e : length row ≡ 128) (h : n ≤ 128) (c : ys ≡ replicate (length (take (length row - n) (drop n row))) (pos 0)) where
  abbrev cleared : List ℤ
  cleared = take n row ++ (ys ++ drop (length row - n) (drop n row))

  front : length (take n row) ≡ n
  front = length-take-le n row (omega arith)

  cleared-is : cleared ≡ take n row ++ replicate (128 - n) (pos 0)
  cleared-is =
      let l : length (take (length row - n) (drop n row)) ≡ 128 - n = length-take-le (length row - n) (drop n row) (omega (arith, length-drop n row))
      ∙ ap (λ i. i - n) e in
      let z : drop (length row - n) (drop n row) ≡ [] = drop_of_length-le (drop n row) {i = length row - n} (omega (arith, length-drop n row)) in
      rw (c, l, z, append-nil (replicate (128 - n) (pos 0)))

  pub cleared-front : take n cleared ≡ take n row
  cleared-front = take_at (take n row) (ys ++ drop (length row - n) (drop n row)) n front

  pub cleared-blank : Blank n cleared
  cleared-blank = cleared-is ∙ sym (pad-is (pos 0) 128 n (take n row) front h) ∙ ap (pad (pos 0) 128) (sym cleared-front)

-- a part that is lent is as long as is asked
pub lent_length : {A : Type 0} (a k : ℕ) (xs : List A) → a + k ≤ length xs → length (take (a + k - a) (drop a xs)) ≡ k
lent_length a k xs h = rw (back-width a k) (length-take-le k (drop a xs) (omega (arith, length-drop a xs)))
