-- What a turn of a loop over rows of k elements asks, from the loop's test alone: turn c of n, of which there are at most m. Assumes nothing.
use mathlib.Core.Path.{◌≡◌}
use mathlib.Core.Bool.{true}
use mathlib.Core.List.{List}
use Prim.Native.Nat.{ℕ, ◌+◌, ◌-◌, ◌*◌, ◌≤◌, ◌<◌}
use native.Mathlib.Nat.{mul-le-mul_right}
use native.Mathlib.Omega.{arith}
use borrow.Author.Tests.{leb-true}
use mir.Val.{Fits}
use mir.Syntax.{w64}
use lib.Dec.{leb}
use lib.ListN.{length, take, drop}
use Rattle.buffers.proofs.Build.{back-width}
use Rattle.rules.proofs.Cuts.{row_end, length_part}

-- the next turn
module _ (c n : ℕ) (h : c < n) where
  pub next_le : c + 1 ≤ n
  next_le = omega arith

  pub nearer : n - (c + 1) < n - c
  nearer = omega arith

  pub below : (m : ℕ) → n ≤ m → c < m
  below m few = omega arith

  pub next_fits : (m : ℕ) → leb m 16384 ≡ true → n ≤ m → Fits w64 (c + 1)
  next_fits m small few = let l = leb-true m 16384 small in record { fits = omega arith }

-- the rows that a turn lends
module _ (k m : ℕ) (small : leb (m * k) 16384 ≡ true) (c n : ℕ) (h : c < n) (few : n ≤ m) where
  end_low : c * k + k ≤ 16384
  end_low = omega (arith, row_end k n c h, mul-le-mul_right k few, leb-true (m * k) 16384 small)

  pub start_fits : Fits w64 (c * k)
  start_fits = let e = end_low in record { fits = omega arith }

  pub end_fits : Fits w64 (c * k + k)
  end_fits = let e = end_low in record { fits = omega arith }

  -- in bytes, four to an element
  pub bytes-fits : Fits w64 (c * k * 4)
  bytes-fits = let e = end_low in record { fits = omega arith }

pub starts : (a k : ℕ) → a ≤ a + k
starts a k = omega arith

-- of a buffer of n rows
module _ (k c n long : ℕ) (h : c < n) (e : long ≡ n * k) where
  pub ends : c * k + k ≤ long
  ends = omega (arith, row_end k n c h)

  pub next-ends : (c + 1) * k ≤ long
  next-ends = omega (arith, mul-le-mul_right k (next_le c n h))

pub lent-long : {A : Type 0} (k c n : ℕ) (xs : List A) → c < n → length xs ≡ n * k → length (take (c * k + k - c * k) (drop (c * k) xs)) ≡ k
lent-long k c n xs h e = rw (back-width (c * k) k) (length_part k n c xs (omega arith) h)
