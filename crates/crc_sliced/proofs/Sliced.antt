-- The law of the slices: a run of bytes behind a message adds to its checksum one share for each byte, the checksum of that byte with zero
-- bytes behind it, where the first two bytes are mixed with the checksum so far.
-- Assumes nothing.
use mathlib.Core.Path.{◌≡◌, refl, sym, ap, ap₂, ◌∙◌}
use mathlib.Core.List.{List, [], ◌∷◌}
use Prim.Native.Nat.{ℕ, zero, suc, ◌+◌, ◌*◌, ◌/◌, ◌%◌, ◌^◌, ◌<◌}
use native.Mathlib.Nat.{zero-mul, suc-mul, not-suc-le-zero, le_of_suc-le-suc}
use native.Mathlib.Omega.{arith}
use lib.Bits.{bit_xor, xor_zero_r, xor_shr, xor_mod}
use lib.ListN.{length, get_or, take, drop, drop_of_length-le, replicate}
use lib.Seq.{drop-cons, drop-drop, take-add}
use Rattle.std.specs.Simd.{first_chunks}
use Rattle.crc.specs.Check.{checksum}
use Rattle.crc.specs.Table.{fed, feed}
use Rattle.crc.proofs.Laws.{byte_xor, checksum-feed, feed-append}
use Rattle.crc_sliced.proofs.Xors.{xor_swap, xor_shl}

-- ---- feeding is linear

fed-sum : (s t b : ℕ) → fed (bit_xor s t) b ≡ bit_xor (fed s b) (fed t 0)
fed-sum s t b =
    let apart : bit_xor (bit_xor s t / 2 ^ 8) b ≡ bit_xor (bit_xor (s / 2 ^ 8) b) (bit_xor (t / 2 ^ 8) 0) =
    ap₂ bit_xor (xor_shr s t 8) (sym (xor_zero_r b)) ∙ xor_swap (s / 2 ^ 8) (t / 2 ^ 8) b 0 in
    ap₂ bit_xor
    (ap (λ x. x % 2 ^ 16) (xor_shl s t 8) ∙ xor_mod (s * 2 ^ 8) (t * 2 ^ 8) 16)
    (ap (λ x. checksum (x ∷ [])) apart ∙ byte_xor (bit_xor (s / 2 ^ 8) b) (bit_xor (t / 2 ^ 8) 0))
    ∙ xor_swap (s * 2 ^ 8 % 2 ^ 16) (t * 2 ^ 8 % 2 ^ 16) (checksum (bit_xor (s / 2 ^ 8) b ∷ [])) (checksum (bit_xor (t / 2 ^ 8) 0 ∷ []))

feed-sum : (s t : ℕ) (bs : List ℕ) → feed (bit_xor s t) bs ≡ bit_xor (feed s bs) (feed t (replicate (length bs) 0))
feed-sum s t [] = refl
feed-sum s t (b ∷ bs) = ap (λ x. feed x bs) (fed-sum s t b) ∙ feed-sum (fed s b) (fed t 0) bs

-- ---- one share for each byte

feed-cons : (s b : ℕ) (bs : List ℕ)
    → feed s (b ∷ bs) ≡ bit_xor (feed (s * 2 ^ 8 % 2 ^ 16) bs) (checksum (bit_xor (s / 2 ^ 8) b ∷ replicate (length bs) 0))
feed-cons s b bs =
    feed-sum (s * 2 ^ 8 % 2 ^ 16) (checksum (bit_xor (s / 2 ^ 8) b ∷ [])) bs
    ∙ ap (bit_xor (feed (s * 2 ^ 8 % 2 ^ 16) bs)) (sym (checksum-feed (bit_xor (s / 2 ^ 8) b ∷ []) (replicate (length bs) 0)))

-- the shares of a run of bytes, together
abbrev pub shares : List ℕ → ℕ
shares [] = 0
shares (b ∷ bs) = bit_xor (shares bs) (checksum (b ∷ replicate (length bs) 0))

feed-zero : (bs : List ℕ) → feed 0 bs ≡ shares bs
feed-zero [] = refl
feed-zero (b ∷ bs) = feed-cons 0 b bs ∙ ap (λ x. bit_xor x (checksum (b ∷ replicate (length bs) 0))) (feed-zero bs)

pub feed-shares : (s a b : ℕ) (bs : List ℕ) → s < 2 ^ 16
    → feed s (a ∷ b ∷ bs) ≡ shares (bit_xor (s / 2 ^ 8) a ∷ bit_xor (s % 2 ^ 8) b ∷ bs)
feed-shares s a b bs h =
    let high : s * 2 ^ 8 % 2 ^ 16 / 2 ^ 8 ≡ s % 2 ^ 8 = omega arith in
    let none : s * 2 ^ 8 % 2 ^ 16 * 2 ^ 8 % 2 ^ 16 ≡ 0 = omega arith in
    feed-cons s a (b ∷ bs)
    ∙ ap (λ x. bit_xor x (checksum (bit_xor (s / 2 ^ 8) a ∷ replicate (length {A = ℕ} (b ∷ bs)) 0)))
    (feed-cons (s * 2 ^ 8 % 2 ^ 16) b bs
    ∙ ap₂ (λ x y. bit_xor (feed x bs) (checksum (bit_xor y b ∷ replicate (length bs) 0))) none high
    ∙ ap (λ x. bit_xor x (checksum (bit_xor (s % 2 ^ 8) b ∷ replicate (length bs) 0))) (feed-zero bs))

-- ---- eight bytes, each by its place

then : (l : List ℕ) (i : ℕ) {t : List ℕ} → i < length l → drop (suc i) l ≡ t → drop i l ≡ get_or l i 0 ∷ t
then l i h e = drop-cons l i 0 h ∙ ap (λ r. get_or l i 0 ∷ r) e

pub by_place : (l : List ℕ) → length l ≡ 8
    → l ≡ get_or l 0 0 ∷ get_or l 1 0 ∷ get_or l 2 0 ∷ get_or l 3 0 ∷ get_or l 4 0 ∷ get_or l 5 0 ∷ get_or l 6 0 ∷ get_or l 7 0 ∷ []
by_place l h =
    then l 0 (omega arith) (then l 1 (omega arith) (then l 2 (omega arith) (then l 3 (omega arith)
    (then l 4 (omega arith) (then l 5 (omega arith) (then l 6 (omega arith) (then l 7 (omega arith)
    (drop_of_length-le l {i = 8} (omega arith)))))))))

pub feed_eight : (s : ℕ) (l : List ℕ) → s < 2 ^ 16 → length l ≡ 8
    → feed s l ≡ shares
    (bit_xor (s / 2 ^ 8) (get_or l 0 0) ∷ bit_xor (s % 2 ^ 8) (get_or l 1 0)
    ∷ get_or l 2 0 ∷ get_or l 3 0 ∷ get_or l 4 0 ∷ get_or l 5 0 ∷ get_or l 6 0 ∷ get_or l 7 0 ∷ [])
feed_eight s l hs h =
    ap (feed s) (by_place l h)
    ∙ feed-shares s (get_or l 0 0) (get_or l 1 0) (get_or l 2 0 ∷ get_or l 3 0 ∷ get_or l 4 0 ∷ get_or l 5 0 ∷ get_or l 6 0 ∷ get_or l 7 0 ∷ []) hs

-- ---- a loop over a list passes a part of j bytes

pub feed-part : (s : ℕ) (l : List ℕ) (i j : ℕ) → feed (feed s (take i l)) (take j (drop i l)) ≡ feed s (take (i + j) l)
feed-part s l i j = sym (ap (feed s) (take-add i j l) ∙ feed-append s (take i l) (take j (drop i l)))

-- part i of those of n elements each
pub part-at : (n k i : ℕ) (xs : List ℕ) → i < k → get_or (first_chunks n k xs) i [] ≡ take n (drop (i * n) xs)
part-at n zero i xs h = absurd (not-suc-le-zero h)
part-at n (suc k) zero xs h = rw zero-mul refl
part-at n (suc k) (suc i) xs h =
    let place : n + i * n ≡ suc i * n = omega (arith, suc-mul i n) in
    part-at n k i (drop n xs) (le_of_suc-le-suc h) ∙ ap (take n) (drop-drop (i * n) n xs ∙ ap (λ (m : ℕ). drop m xs) place)
