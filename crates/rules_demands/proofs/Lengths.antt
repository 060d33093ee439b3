-- How long a record's fields can be, whatever its values are. Assumes nothing.
use mathlib.Core.Path.{◌≡◌, refl, ◌∙◌, ap}
use mathlib.Core.List.{List, [], ◌∷◌, ◌++◌}
use mathlib.Core.Bool.{Bool, true, false, cond, ◌&&◌}
use mathlib.Core.Option.{Option, none, some}
use Prim.Native.Nat.{ℕ, zero, suc, ◌+◌, ◌-◌, ◌*◌, ◌≤◌, zero-le}
use native.Mathlib.Omega.{arith}
use borrow.Author.Tests.{eqb-false}
use lib.Dec.{eqb, ltb}
use lib.IntN.{ℤ, pos, negsuc, nat_abs}
use lib.ListN.{length, get_or, take, drop, length-append}
use Rattle.bits.specs.Bits.{bits}
use Rattle.bits.proofs.Numbers.{length-bits}
use Rattle.buffers.specs.Walk.{build}
use Rattle.buffers.proofs.Tests.{and_fst, and_snd, cond_bound, all_le, get_d_le}
use Rattle.rules.specs.Format.{walk_bits, stay, each_bits, times}
use Rattle.rules.specs.Tables.{max_bit_table, spectrum_bits, spectrum_value}
use Rattle.rules.specs.Layout.{LegalLayout, is_secondary, kinds_of, side_width, side_count, side_count_at, coded_count, coded_count_at, part}
use Rattle.rules.specs.Width.{near, width}
use Rattle.rules.specs.Code.{code_place, magnitude_bits}
use Rattle.rules.specs.Record.{Chan, Rec, chan_of, codes_in, rec_of, resolutions}
use Rattle.rules.specs.Fields.{delta_symbol, delta_bits, factor_bits, as_previous, all_factor_bits, channel_fields, small_bits, sign_bits, code_bits, fields}
use Rattle.rules.specs.declared.ChannelType.{ChannelType}
use Rattle.rules.specs.declared.Layout.{Layout}
use Rattle.rules_demands.proofs.Widths.{width-le}

-- ---- what a walk takes, from what each of its steps does

unfoldable total : {A : Type 0} (most : A → ℕ) (ys : List A) → ℕ
total most [] = 0
total most (a ∷ ys) = most a + total most ys

-- each step at most so many bits
walk-short : {S X A : Type 0} (next : S → A → S) (w : S → X → A → List Bool) (most : A → ℕ) → ((s : S) (x : X) (a : A) → length (w s x a) ≤ most a) →
    (s : S) (xs : List X) (ys : List A) → length (walk_bits next w s xs ys) ≤ total most ys
unfolding total
walk-short next w most h s [] ys = zero-le
walk-short next w most h s (x ∷ xs) [] = zero-le
walk-short next w most h s (x ∷ xs) (a ∷ ys) =
    omega (arith, length-append (w s x a) (walk_bits next w (next s a) xs ys), h s x a, walk-short next w most h (next s a) xs ys)

total-append : {A : Type 0} (most : A → ℕ) (xs ys : List A) → total most (xs ++ ys) ≡ total most xs + total most ys
unfolding total
total-append most [] ys = omega arith
total-append most (x ∷ xs) ys = let e = total-append most xs ys in omega arith

total-build : {A : Type 0} (most : A → ℕ) (f : ℕ → A) (k : ℕ) → ((i : ℕ) → most (f i) ≤ k) → (n : ℕ) → total most (build f n) ≤ n * k
unfolding total build
total-build most f k h zero = zero-le
total-build most f k h (suc n) =
    let e = total-append most (build f n) (f n ∷ []) in
    let d = total-build most f k h n in
    omega (arith, e, d, h n)

total-same : {A : Type 0} (k : ℕ) (ys : List A) → total (λ _. k) ys ≡ length ys * k
unfolding total
total-same k [] = omega arith
total-same k (y ∷ ys) = let e = total-same k ys in omega arith

cond_short : (k : ℕ) (t : Bool) (xs ys : List Bool) → (t ≡ true → length xs ≤ k) → (t ≡ false → length ys ≤ k) → length (cond t xs ys) ≤ k
cond_short k true xs ys f g = f refl
cond_short k false xs ys f g = g refl

take_short : {A : Type 0} (n : ℕ) (xs : List A) → (length (take n xs) ≤ n) × (length (take n xs) ≤ length xs)
take_short zero xs = (zero-le, zero-le)
take_short (suc n) [] = (zero-le, zero-le)
take_short (suc n) (x ∷ xs) = let (a, b) = take_short n xs in (omega arith, omega arith)

part-short : {A : Type 0} (n k c : ℕ) (xs : List A) → length (take n (part k xs c)) ≤ k
part-short n k c xs = omega (arith, (take_short n (part k xs c)).1, (take_short k (drop (c * k) xs)).0)

-- ---- one channel's factors and side values

delta_short : (d previous factor : ℕ) → length (delta_bits d previous factor) ≤ d + 6
unfolding delta_bits
delta_short d previous factor =
    let e = length-append (bits d (delta_symbol d previous factor)) (cond (near d previous factor) [] (bits 6 factor)) in
    let f = length-bits d (delta_symbol d previous factor) in
    let g : length (cond (near d previous factor) [] (bits 6 factor)) ≤ 6 =
    cond_short 6 (near d previous factor) [] (bits 6 factor) (λ _. zero-le) (λ _. omega (arith, length-bits 6 factor)) in
    omega arith

factor_short : (w : ℕ) → w ≤ 6 → (previous : Option ℕ) (factor : ℕ) → length (factor_bits w previous factor) ≤ 11
factor_short w h none factor = omega (arith, length-bits 6 factor)
factor_short w h (some previous) factor =
    cond_short 11 (eqb w 6) (bits 6 factor) (delta_bits w previous factor) (λ _. omega (arith, length-bits 6 factor))
    (λ e. omega (arith, delta_short w previous factor, eqb-false w 6 e))

factors-short : (w n : ℕ) (fs : List ℕ) → w ≤ 6 → length (all_factor_bits w n fs) ≤ length fs * 11
factors-short zero n fs h = zero-le
factors-short (suc w) n fs h =
    omega (
      arith,
      walk-short as_previous (λ previous _. factor_bits (suc w) previous) (λ _. 11) (λ previous _ f. factor_short (suc w) h previous f) none (times n)
          fs,
      total-same 11 fs,
    )

abbrev chan_most : Chan → ℕ
chan_most c = 3 + length c.factors * 11 + length c.side * 6

side-short : (k : ChannelType) (v : ℕ) → length (bits (side_width k) v) ≤ 6
side-short k v = let h : side_width k ≤ 6 = cond_bound (is_secondary k) (λ _. omega arith) (λ _. omega arith) in omega (arith, length-bits (side_width k) v)

channel_short : (l : Layout) (k : ChannelType) (c : Chan) → length (channel_fields l k c) ≤ chan_most c
channel_short l k c =
    let w = width c.factors in
    let fs = all_factor_bits w (coded_count l k) c.factors in
    let ss = walk_bits stay (λ _ _. bits (side_width k)) tt (times (side_count l k)) c.side in
    omega (
      arith,
      length-append (bits 3 w ++ fs) ss,
      length-append (bits 3 w) fs,
      length-bits 3 w,
      factors-short w (coded_count l k) c.factors (width-le c.factors),
      walk-short stay (λ _ _. bits (side_width k)) (λ _. 6) (λ _ _ v. side-short k v) tt (times (side_count l k)) c.side,
      total-same 6 c.side,
    )

-- ---- one code

-- every entry of every row
unfoldable all_rows : ℕ → List (List ℕ) → Bool
all_rows m [] = true
all_rows m (x ∷ t) = all_le m x && all_rows m t

rows-le : (m : ℕ) (t : List (List ℕ)) → all_rows m t ≡ true → (r p : ℕ) → get_or (get_or t r []) p 0 ≤ m
unfolding all_rows
rows-le m [] e r p = zero-le
rows-le m (x ∷ t) e zero p = get_d_le m x (and_fst (all_le m x) (all_rows m t) e) p
rows-le m (x ∷ t) e (suc r) p = rows-le m t (and_snd (all_le m x) (all_rows m t) e) r p

magnitude_short : (r : ℕ) → magnitude_bits r ≤ 11
unfolding magnitude_bits max_bit_table all_le
magnitude_short r = omega (arith, get_d_le 12 max_bit_table refl r)

small-short : (r : ℕ) (c : ℤ) → length (small_bits r c) ≤ 12
unfolding small_bits spectrum_bits all_rows all_le
small-short r c =
    omega (
      arith,
      length-bits (get_or (get_or spectrum_bits r []) (code_place c) 0) (get_or (get_or spectrum_value r []) (code_place c) 0),
      rows-le 4 spectrum_bits refl r
          (code_place c),
    )

sign_short : (c : ℤ) → length (sign_bits c) ≤ 1
sign_short (pos zero) = zero-le
sign_short (pos (suc n)) = omega (arith, length-bits 1 0)
sign_short (negsuc n) = omega (arith, length-bits 1 1)

code_short : (r : ℕ) (c : ℤ) → length (code_bits r c) ≤ 12
unfolding code_bits
code_short r c =
    let wide = bits (magnitude_bits r) (nat_abs c) ++ sign_bits c in
    cond_short 12 (eqb r 0) [] (cond (ltb r 8) (small_bits r c) wide) (λ _. zero-le)
    (λ _. cond_short 12 (ltb r 8) (small_bits r c) wide (λ _. small-short r c)
    (λ _. omega (
      arith,
      length-append (bits (magnitude_bits r) (nat_abs c)) (sign_bits c),
      length-bits (magnitude_bits r) (nat_abs c),
      magnitude_short r,
      sign_short
          c,
    )))

-- ---- the whole record

row-short : (rs : List ℕ) (cs : List ℤ) → length (each_bits code_bits rs cs) ≤ length cs * 12
row-short rs cs = omega (arith, walk-short stay (λ _. code_bits) (λ _. 12) (λ _ r c. code_short r c) tt rs cs, total-same 12 cs)

abbrev row_most : List ℤ → ℕ
row_most cs = length cs * 12

subframe_short : (rss : List (List ℕ)) (css : List (List ℤ)) → length (each_bits (each_bits code_bits) rss css) ≤ total row_most css
subframe_short = walk-short stay (λ _. each_bits code_bits) row_most (λ _ rs cs. row-short rs cs) tt

module _ (l : Layout) (z : LegalLayout l) (level boundary : ℕ) (factors side : List ℕ) (codes : List ℤ) where
  abbrev r : Rec
  r = rec_of l level boundary factors side codes

  channels-short : length (each_bits (channel_fields l) (kinds_of l) r.chans) ≤ l.channels * 1459
  unfolding rec_of
  channels-short =
      let a = walk-short stay (λ _. channel_fields l) chan_most (λ _ k c. channel_short l k c) tt (kinds_of l) (build (chan_of l factors side) l.channels) in
      let b = total-build chan_most (chan_of l factors side) 1459
      (λ c. omega (arith, part-short (coded_count_at l c) 128 c factors, part-short (side_count_at l c) 8 c side)) l.channels in
      omega arith

  codes-short : length (each_bits (λ _. each_bits (each_bits code_bits) (resolutions l level boundary r.chans)) (times 8) r.codes) ≤ 8 * (l.channels * 1536)
  unfolding rec_of
  codes-short =
      let rss = resolutions l level boundary r.chans in
      let row : ℕ → List (List ℤ) = λ s. build (codes_in l codes s) l.channels in
      let a = walk-short stay (λ _ _. each_bits (each_bits code_bits) rss) (total row_most) (λ _ _ css. subframe_short rss css) tt (times 8) (build row 8) in
      let b = total-build (total row_most) row (l.channels * 1536)
      (λ s. total-build row_most (codes_in l codes s) 1536 (λ c. omega (arith, part-short (coded_count_at l c) 128 s (part 1024 codes c))) l.channels) 8 in
      omega arith

  -- The fields of any record that lies in buffers: 32 + 16 x 1,459 + 196,608 bits at most.
  pub fields-short : length (fields l r) ≤ 219984
  unfolding fields rec_of
  fields-short =
      let chans = each_bits (channel_fields l) (kinds_of l) r.chans in
      let all = each_bits (λ _. each_bits (each_bits code_bits) (resolutions l r.level r.boundary r.chans)) (times 8) r.codes in
      let a = length-append (bits 16 0xFFFF) (bits 9 r.level ++ (bits 7 r.boundary ++ (chans ++ all))) in
      let b = length-append (bits 9 r.level) (bits 7 r.boundary ++ (chans ++ all)) in
      let c = length-append (bits 7 r.boundary) (chans ++ all) in
      let d = length-append chans all in
      omega (arith, a, b, c, d, length-bits 16 0xFFFF, length-bits 9 r.level, length-bits 7 r.boundary, channels-short, codes-short, z.few)
