-- Document 01, **Estimate**: what a channel's bits become as the boundary passes one band, and that past the coded bands nothing changes. Assumes nothing.
use mathlib.Core.Path.{◌≡◌, sym, ap, ◌∙◌}
use mathlib.Core.List.{List}
use Prim.Native.Nat.{ℕ, zero, suc, ◌+◌, ◌-◌, ◌≤◌, ◌<◌}
use native.Mathlib.Omega.{arith}
use borrow.Author.Tests.{lt-ltb, le-ltb}
use lib.Ieee.{Float}
use lib.ListN.{get_or}
use Rattle.buffers.specs.Walk.{sum_to}
use Rattle.buffers.proofs.Scan.{sum-none, sum_more, sum_same}
use Rattle.rules.specs.Layout.{coded_count_at, part}
use Rattle.rules.specs.Resolution.{noise_at, resolution, resolution_at}
use Rattle.rules.specs.Estimate.{band_bits, channel_bits, spectral_bits, used_bits}
use Rattle.rules.specs.declared.Layout.{Layout}
use Rattle.rules.proofs.Cuts.{by_order}

-- sums of functions that agree but at one place
sum_but : (f g : ℕ → ℕ) (n b : ℕ) → b < n → ((i : ℕ) → i < b → f i ≡ g i) → ((i : ℕ) → b < i → f i ≡ g i) → sum_to f n + g b ≡ sum_to g n + f b
unfolding sum_to
sum_but f g zero b h below above = omega arith
sum_but f g (suc n) b h below above =
    by_order b n
    (λ lt. let e = sum_but f g n b lt below above in let z = above n lt in omega arith)
    (λ ge. let q : b ≡ n = omega arith in let e = sum_same f g n (λ i lt. below i (omega arith)) in let z = ap f q in let y = ap g q in omega arith)

-- a loop that keeps two sums even: its start and a turn
pub even_start : (f g : ℕ → ℕ) (start : ℕ) → sum_to f 0 + (0 + start) ≡ sum_to g 0 + start
even_start f g start = omega (arith, sum-none f, sum-none g)

pub even_turn : (f g : ℕ → ℕ) (n start fall rise x y u v : ℕ) → sum_to f n + (fall + start) ≡ sum_to g n + rise → x + v ≡ y + u → x ≡ f n → y ≡ g n
    → sum_to f (n + 1) + (fall + v + start) ≡ sum_to g (n + 1) + (rise + u)
even_turn f g n start fall rise x y u v e h p q = omega (arith, sum_more f n, sum_more g n)

module _ (l : Layout) (sc : List Float) (fs : List ℕ) (coded level : ℕ) where
  -- band b's bits at a noise
  abbrev pub bits_at : (noise b : ℕ) → ℕ
  bits_at noise b = band_bits l.mode sc b (resolution l noise (get_or fs b 0))

  -- from the boundary b to the next, band b goes from the level's noise to the finer one
  pub passes : (b : ℕ) → b < coded → channel_bits l sc fs coded level (b + 1) + bits_at level b ≡ channel_bits l sc fs coded level b + bits_at (level - 1) b
  unfolding channel_bits resolution_at noise_at
  passes b h =
      ap (λ k. sum_to next coded + k) (sym (rw (le-ltb b b (omega arith))))
      ∙ sum_but next here coded b h
      (λ i lt. let p : i < b + 1 = omega arith in rw (lt-ltb i (b + 1) p, lt-ltb i b lt))
      (λ i gt. let p : b + 1 ≤ i = omega arith in let q : b ≤ i = omega arith in rw (le-ltb i (b + 1) p, le-ltb i b q))
      ∙ ap (λ k. sum_to here coded + k) (rw (lt-ltb b (b + 1) (omega arith)))
    where
      next : ℕ → ℕ
      next i = band_bits l.mode sc i (resolution_at l level (b + 1) fs i)

      here : ℕ → ℕ
      here i = band_bits l.mode sc i (resolution_at l level b fs i)

  pub all_passed : (x y : ℕ) → coded ≤ x → coded ≤ y → channel_bits l sc fs coded level x ≡ channel_bits l sc fs coded level y
  unfolding channel_bits resolution_at noise_at
  all_passed x y h k =
      sum_same _ _ coded
      (λ i lt. let p : i < x = omega arith in let q : i < y = omega arith in rw (lt-ltb i x p, lt-ltb i y q))

-- when every channel has moved, so have the frame's bits
pub all_moved : (l : Layout) (scaled : List Float) (factors : List ℕ) (level used from to n rise fall : ℕ) → n ≡ l.channels
    → used ≡ used_bits l scaled factors level from
    → sum_to (λ i. channel_bits l (part 1024 scaled i) (part 128 factors i) (coded_count_at l i) level to) n + (fall + used)
    ≡ sum_to (λ i. channel_bits l (part 1024 scaled i) (part 128 factors i) (coded_count_at l i) level from) n + rise
    → used_bits l scaled factors level to + fall ≡ rise
unfolding used_bits spectral_bits
all_moved l scaled factors level used from to n rise fall p u e =
    let x = ap (sum_to (λ i. channel_bits l (part 1024 scaled i) (part 128 factors i) (coded_count_at l i) level to)) p in
    let y = ap (sum_to (λ i. channel_bits l (part 1024 scaled i) (part 128 factors i) (coded_count_at l i) level from)) p in
    omega (arith, u, e, x, y)
