-- Parts of lists, of byte lists and of their bits; lists filled up with zeros.
-- Assumes nothing.
use mathlib.Core.Path.{◌≡◌, refl, sym, ap, ◌∙◌}
use mathlib.Core.Bool.{Bool, false}
use mathlib.Core.List.{List, [], ◌∷◌, ◌++◌, append_assoc}
use Prim.Native.Nat.{ℕ, zero, suc, ◌+◌, ◌-◌, ◌*◌, ◌≤◌, ◌<◌}
use native.Mathlib.Omega.{arith}
use lib.ListN.{length, get_or, take, drop, replicate, length-append, length-drop, length-replicate, replicate-append-replicate}
use lib.Seq.{take-nil, drop-nil, take-append-le, take-append-add, drop-append-le, drop-append-add}
use Rattle.bits.specs.Bits.{bits, bits_of, Bytes, zeros}
use Rattle.bits.proofs.Numbers.{length-bits}

-- ---- any list

module _ {ℓ} {A : Type ℓ} where
  -- a part from k on, cut at n, is the cut list without its first k elements
  pub part_cut : (k n : ℕ) (l : List A) → take (n - k) (drop k l) ≡ drop k (take n l)
  part_cut zero n l = let e : n - 0 ≡ n = omega arith in rw e
  part_cut (suc k) zero l = let e : 0 - suc k ≡ 0 = omega arith in rw e
  part_cut (suc k) (suc n) [] = take-nil (suc n - suc k)
  part_cut (suc k) (suc n) (x ∷ l) = let e : suc n - suc k ≡ n - k = omega arith in rw e (part_cut k n l)

  -- a part that ends within the first of two lists
  pub part_left : (l m : List A) (k n : ℕ) → k + n ≤ length l → take n (drop k (l ++ m)) ≡ take n (drop k l)
  part_left l m k n h =
      let hk : k ≤ length l = omega arith in
      let hn : n ≤ length (drop k l) = rw length-drop (omega arith) in
      rw (drop-append-le k l m hk, take-append-le n (drop k l) m hn)

-- ---- zeros

pub zeros-append : (m n : ℕ) → zeros m ++ zeros n ≡ zeros (m + n)
zeros-append m n = replicate-append-replicate m n false

-- zeros in two parts
pub zeros_split : (m k : ℕ) → m ≤ k → zeros k ≡ zeros m ++ zeros (k - m)
zeros_split m k h = let e : m + (k - m) ≡ k = omega arith in sym (zeros-append m (k - m) ∙ rw e)

pub take_copies : {A : Type 0} (d : A) (m k : ℕ) → m ≤ k → take m (replicate k d) ≡ replicate m d
take_copies d zero k h = refl
take_copies d (suc m) zero h = absurd (omega arith)
take_copies d (suc m) (suc k) h = ap (λ l. d ∷ l) (take_copies d m k (omega arith))

-- n elements of a list filled up with zeros: how many zeros does not matter
pub fill_take : (l : List Bool) (n k : ℕ) → n ≤ k → take n (l ++ zeros k) ≡ take n (l ++ zeros n)
fill_take l n k h =
    let g : n ≤ length (l ++ zeros n) = rw (length-append, length-replicate) (omega arith) in
    rw (zeros_split n k h, ← append_assoc l (zeros n) (zeros (k - n)), take-append-le n (l ++ zeros n) (zeros (k - n)) g)

-- a part of a list filled up with zeros
pub fill_part : (l : List Bool) (x n k : ℕ) → x + n ≤ k → take n (drop x (l ++ zeros k)) ≡ take n (drop x l ++ zeros n)
fill_part l zero n k h = fill_take l n k (omega arith)
fill_part [] (suc x) n zero h = absurd (omega arith)
fill_part [] (suc x) n (suc k) h = fill_part [] x n k (omega arith) ∙ ap (λ (t : List Bool). take n (t ++ zeros n)) (drop-nil x)
fill_part (b ∷ l) (suc x) n k h = fill_part l x n k (omega arith)

-- ---- byte lists

pub bits-take : (k : ℕ) (s : List ℕ) → bits_of (take k s) ≡ take (8 * k) (bits_of s)
unfolding bits_of
bits-take zero s = refl
bits-take (suc k) [] = sym (take-nil (8 * suc k))
bits-take (suc k) (b ∷ s) =
    let e : 8 * suc k ≡ length (bits 8 b) + 8 * k = rw length-bits (omega arith) in
    rw (e, take-append-add (bits 8 b) (bits_of s) (8 * k), bits-take k s)

pub bits-drop : (k : ℕ) (s : List ℕ) → bits_of (drop k s) ≡ drop (8 * k) (bits_of s)
unfolding bits_of
bits-drop zero s = refl
bits-drop (suc k) [] = sym (drop-nil (8 * suc k))
bits-drop (suc k) (b ∷ s) =
    let e : 8 * suc k ≡ length (bits 8 b) + 8 * k = rw length-bits (omega arith) in
    rw (e, drop-append-add (bits 8 b) (bits_of s) (8 * k), bits-drop k s)

-- bytes that are zero
pub bits-zeros : (n : ℕ) → bits_of (replicate n 0) ≡ zeros (8 * n)
unfolding bits_of bits
bits-zeros zero = refl
bits-zeros (suc n) = let e : 8 * suc n ≡ 8 + 8 * n = omega arith in rw (e, bits-zeros n) (zeros-append 8 (8 * n))

-- that each number is a byte, by its index
pub bytes-all : (s : List ℕ) → ((k : ℕ) → get_or s k 0 < 256) → Bytes s
bytes-all [] h = tt
bytes-all (b ∷ s) h = (h 0, bytes-all s (λ k. h (suc k)))

pub bytes_at_lem : (s : List ℕ) → Bytes s → (k : ℕ) → get_or s k 0 < 256
bytes_at_lem [] h k = omega arith
bytes_at_lem (b ∷ s) h zero = h.0
bytes_at_lem (b ∷ s) h (suc k) = bytes_at_lem s h.1 k

pub bytes-append : (s t : List ℕ) → Bytes s → Bytes t → Bytes (s ++ t)
bytes-append [] t h k = k
bytes-append (b ∷ s) t h k = (h.0, bytes-append s t h.1 k)
