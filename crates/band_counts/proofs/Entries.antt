-- Entries of counts: a band's is that of its eight values, a channel's and a frame's say what `Counted` does, and a count is taken from its entry. Assumes
-- nothing.
use mathlib.Core.Path.{◌≡◌, refl, sym, ap, ◌∙◌}
use mathlib.Core.Bool.{Bool, true, false, cond}
use mathlib.Core.List.{List, [], ◌++◌}
use Prim.Native.Nat.{ℕ, zero, suc, ◌+◌, ◌-◌, ◌*◌, ◌/◌, ◌%◌, ◌^◌, ◌≤◌, ◌<◌}
use native.Mathlib.Nat.{zero-mul, suc-mul, not-suc-le-zero, le_of_suc-le-suc}
use native.Mathlib.Omega.{arith}
use borrow.Author.Tests.{lt-ltb, le-ltb, ltb-true, ltb-false}
use lib.Dec.{ltb}
use lib.IntN.{ℤ, pos}
use lib.Ieee.{Float, nan, le}
use lib.ListN.{length, get_or, take, drop}
use lib.Seq.{get_or-take, get_or-drop, drop-drop}
use Rattle.std.specs.Simd.{first_chunks}
use Rattle.buffers.specs.Walk.{build, blocks}
use Rattle.buffers.proofs.Tests.{cond_bound}
use Rattle.buffers.proofs.Scan.{sum_same, sum_bound}
use Rattle.buffers.proofs.Build.{length-build, build-at, back-width}
use Rattle.buffers.proofs.Blocks.{length-blocks, length_blocked, blocks_at}
use Rattle.rules.specs.Layout.{LegalLayout, coded_count_at, spectrum_length, part}
use Rattle.floats.specs.Single.{abs_f}
use Rattle.rules.specs.Tables.{dead_zone_table}
use Rattle.rules.specs.Code.{raw_code, limited_code, code_place}
use Rattle.rules.specs.Estimate.{value_bits, band_bits}
use Rattle.quantizer.proofs.Signs.{place-le}
use Rattle.quantizer.proofs.Entries.{length-le, bits-le}
use Rattle.rules.specs.declared.Mode.{Mode}
use Rattle.rules.specs.declared.Layout.{Layout}
use Rattle.rules.proofs.Cuts.{block_part, length_part}
use Rattle.rules.proofs.Layouts.{coded-few}
use Rattle.band_counts.specs.Counts.{eight_of, eight_bits, entry_of, count_entry, count_in, channel_counts, ChannelCounted, Counted}

-- ---- a band
pub eight_band : (m : Mode) (sc : List Float) (b r : ℕ) → eight_bits m r (eight_of sc b) ≡ band_bits m sc b r
unfolding eight_bits eight_of band_bits
eight_band m sc b r =
    sum_same (λ s. value_bits m r (get_or (take 8 (drop (b * 8) sc)) s nan)) (λ s. value_bits m r (get_or sc (b * 8 + s) nan)) 8
    (λ s l. ap (value_bits m r) (get_or-take 8 (drop (b * 8) sc) s nan l ∙ get_or-drop (b * 8) sc s nan))

pub entry-band : (m : Mode) (sc : List Float) (b k : ℕ) → entry_of m (eight_of sc b) k ≡ count_entry m sc b k
unfolding entry_of
entry-band m sc b k = rw (eight_band m sc b k, eight_band m sc b (k + 8))

-- the eight values of band b among a channel's eights
chunk_at : {A : Type 0} (n k i : ℕ) (xs : List A) → i < k → get_or (first_chunks n k xs) i [] ≡ take n (drop (i * n) xs)
chunk_at n zero i xs h = absurd (not-suc-le-zero h)
chunk_at n (suc k) zero xs h = rw zero-mul refl
chunk_at n (suc k) (suc i) xs h =
    let place : n + i * n ≡ suc i * n = omega (arith, suc-mul i n) in
    chunk_at n k i (drop n xs) (le_of_suc-le-suc h) ∙ ap (take n) (drop-drop (i * n) n xs ∙ ap (λ (m : ℕ). drop m xs) place)

pub eight_at : (k : ℕ) (sc : List Float) (b : ℕ) → b < k → get_or (first_chunks 8 k sc) b [] ≡ eight_of sc b
unfolding eight_of
eight_at k sc b h = chunk_at 8 k b sc h

-- ---- a channel
abbrev pub band_entries : (mode : Mode) (scaled : List Float) (band : ℕ) → List ℤ
band_entries mode scaled band = build (entry_of mode (eight_of scaled band)) 8

pub band-size : (m : Mode) (sc : List Float) (b : ℕ) → length (band_entries m sc b) ≡ 8
band-size m sc b = length-build (entry_of m (eight_of sc b)) 8

module _ (m : Mode) (sc : List Float) (coded : ℕ) (before : List ℤ) where
  pub channel_long : coded * 8 ≤ length before → length (channel_counts m sc coded before) ≡ length before
  unfolding channel_counts
  channel_long h = length_blocked (band_entries m sc) 8 coded (λ b _. band-size m sc b) coded before (omega arith) h

  pub channel_counted : ChannelCounted m sc coded (channel_counts m sc coded before)
  unfolding channel_counts
  channel_counted b h k l =
      let xs : List ℤ = blocks (band_entries m sc) coded ++ drop (coded * 8) before in
      sym (get_or-take 8 (drop (b * 8) xs) k (pos 0) l ∙ get_or-drop (b * 8) xs k (pos 0))
      ∙ ap (λ ys. get_or ys k (pos 0)) (blocks_at (band_entries m sc) 8 coded (λ i _. band-size m sc i) coded b (drop (coded * 8) before) (omega arith) h)
      ∙ build-at (entry_of m (eight_of sc b)) 8 k (pos 0) l
      ∙ entry-band m sc b k

-- ---- a frame
abbrev pub channel_at : (l : Layout) (scaled : List Float) (before : List ℤ) (channel : ℕ) → List ℤ
channel_at l scaled before channel = channel_counts l.mode (part 1024 scaled channel) (coded_count_at l channel) (part 1024 before channel)

module _ (l : Layout) (z : LegalLayout l) (scaled : List Float) (before : List ℤ) (e : length before ≡ spectrum_length l) where
  pub channel_size : (c : ℕ) → c < l.channels → length (channel_at l scaled before c) ≡ 1024
  channel_size c h =
      let n : length (part 1024 before c) ≡ 1024 = length_part 1024 l.channels c before (omega arith) h in
      channel_long l.mode (part 1024 scaled c) (coded_count_at l c) (part 1024 before c) (omega (arith, n, coded-few l z c)) ∙ n

  pub frame_counted : (counts : List ℤ) → counts ≡ blocks (channel_at l scaled before) l.channels → Counted l scaled counts
  frame_counted counts q = record {
    long = ap length q ∙ length-blocks (channel_at l scaled before) 1024 l.channels channel_size l.channels (omega arith);
    at = λ c h b g k i.
        ap (λ xs. get_or (part 1024 xs c) (b * 8 + k) (pos 0)) q
        ∙ ap (λ xs. get_or xs (b * 8 + k) (pos 0)) (block_part (channel_at l scaled before) 1024 l.channels c channel_size h)
        ∙ channel_counted l.mode (part 1024 scaled c) (coded_count_at l c) (part 1024 before c) b g k i;
  }

-- a channel's part, as a loop lends it
pub counted_part : (l : Layout) (scaled : List Float) (counts : List ℤ) → Counted l scaled counts → (c : ℕ) → c < l.channels → (coded : ℕ) → coded
    ≡ coded_count_at l c
    → ChannelCounted l.mode (take (c * 1024 + 1024 - c * 1024) (drop (c * 1024) scaled)) coded (take (c * 1024 + 1024 - c * 1024) (drop (c * 1024) counts))
counted_part l scaled counts w c h coded e = rw (back-width (c * 1024) 1024, e) (w.at c h)

-- ---- a count is taken from its entry
pub taken_small : (x y r : ℕ) → x < 256 → r < 8 → count_in (pos (x + 256 * y)) r ≡ x
unfolding count_in
taken_small x y r h l = rw (lt-ltb r 8 l) (omega arith)

pub taken_wide : (x y r : ℕ) → x < 256 → y < 256 → 8 ≤ r → count_in (pos (x + 256 * y)) r ≡ y
unfolding count_in
taken_wide x y r h g l = rw (le-ltb r 8 l) (omega arith)

-- a band's counts are small, so each is read off its entry
value-le : (m : Mode) (r : ℕ) (x : Float) → r ≤ 15 → value_bits m r x ≤ 12
unfolding value_bits
value-le m r x h =
    cond_bound (ltb r 8)
    (λ e.
    let z = limited_code m r (raw_code r x) in
    let l = length-le r (code_place z) (ltb-true r 8 e) (place-le z) in
    omega arith)
    (λ e. let l = bits-le r h in let k = cond_bound {a = 1} {b = 0} {n = 1} (le (get_or dead_zone_table r nan) (abs_f x)) (λ _. omega arith) (λ _. omega arith) in
    omega arith)

pub band-le : (m : Mode) (sc : List Float) (b r : ℕ) → r ≤ 15 → band_bits m sc b r ≤ 96
unfolding band_bits
band-le m sc b r h = sum_bound (λ s. value_bits m r (get_or sc (b * 8 + s) nan)) 8 12 (λ s _. value-le m r _ h)

pub taken_band : (m : Mode) (sc : List Float) (b r : ℕ) → r ≤ 15 → count_in (count_entry m sc b (r % 8)) r ≡ band_bits m sc b r
taken_band m sc b r h = go (ltb r 8) refl
  where
    go : (t : Bool) → ltb r 8 ≡ t → count_in (count_entry m sc b (r % 8)) r ≡ band_bits m sc b r
    go true e =
        let q : r % 8 ≡ r = omega (arith, ltb-true r 8 e) in
        let l = band-le m sc b (r % 8) (omega arith) in
        taken_small (band_bits m sc b (r % 8)) (band_bits m sc b (r % 8 + 8)) r (omega arith) (ltb-true r 8 e) ∙ ap (band_bits m sc b) q
    go false e =
        let q : r % 8 + 8 ≡ r = omega (arith, ltb-false r 8 e) in
        let l = band-le m sc b (r % 8) (omega arith) in
        let k = band-le m sc b (r % 8 + 8) (omega arith) in
        taken_wide (band_bits m sc b (r % 8)) (band_bits m sc b (r % 8 + 8)) r (omega arith) (omega arith) (ltb-false r 8 e) ∙ ap (band_bits m sc b) q

-- by a shift and a rest
pub shifted : (n r : ℕ) → r ≤ 15 → n / 2 ^ (r / 8 * 8) % 256 ≡ cond (ltb r 8) (n % 256) (n / 256 % 256)
shifted n r h = go (ltb r 8) refl
  where
    go : (t : Bool) → ltb r 8 ≡ t → n / 2 ^ (r / 8 * 8) % 256 ≡ cond t (n % 256) (n / 256 % 256)
    go true e = let q : r / 8 * 8 ≡ 0 = omega (arith, ltb-true r 8 e) in rw q (omega arith)
    go false e = let q : r / 8 * 8 ≡ 8 = omega (arith, ltb-false r 8 e) in rw q
