-- One look ahead at a prefix code: which code it finds, and whether that code ends within the bits that are left. Assumes nothing.
use mathlib.Core.Path.{◌≡◌, refl, sym, ◌∙◌, ap}
use mathlib.Core.List.{List, [], ◌∷◌, ◌++◌, append_assoc}
use mathlib.Core.Bool.{Bool, false, cond}
use mathlib.Core.Option.{Option, none, some}
use Prim.Native.Nat.{ℕ, ◌^◌, ◌≤◌, ◌<◌}
use native.Mathlib.Nat.{lt_of_lt_of_le}
use native.Mathlib.Omega.{arith}
use borrow.Author.Tests.{leb-true}
use lib.Dec.{T, leb}
use lib.IntN.{ℤ, nat_abs}
use lib.Pow.{pow_mono}
use lib.ListN.{length, take, drop, length-append, length-replicate, take-append-drop}
use lib.Seq.{length-take-le}
use Rattle.bits.specs.Bits.{bits, value, zeros}
use Rattle.bits.proofs.Numbers.{bits-value}
use Rattle.buffers.specs.Walk.{every}
use Rattle.buffers.proofs.Every.{every-at}
use Rattle.rules.specs.Format.{Read, ok, bad, strip, or_else, one_of}
use Rattle.rules.specs.Tables.{max_bit_table}
use Rattle.rules.specs.Fields.{small_bits}
use Rattle.rules.specs.Reading.{codes_to}
use Rattle.rules_formats.proofs.Formats.{ahead_yes, ahead_no}
use Rattle.rules_formats.proofs.Numbers.{leb_case}
use Rattle.rules_formats.proofs.Prefix.{is_read, one_of_full}
use Rattle.rules_formats.proofs.Codes.{tables_full, word_fits}
use Rattle.reader_codes.specs.Seen.{word_bits, code_of_read, left_of_read, code_seen, length_seen}

-- ---- MAX_BIT_TABLE, at most 4 below resolution 8

bits-few : (r : ℕ) → r < 8 → word_bits r ≤ 4
unfolding every max_bit_table
bits-few r h = leb-true _ _ (every-at (λ i. leb (word_bits i) 4) 8 r refl h)

-- so that what is looked at names an entry of a row
pub look_small : (r n v : ℕ) → r < 8 → n ≡ word_bits r → v < 2 ^ n → v < 16
look_small r n v h e l = lt_of_lt_of_le l (pow_mono {j = 4} (omega (arith, bits-few r h)))

-- ---- a look

-- where no word is found, it is for want of bits
one-bad : {A : Type 0} (w : A → List Bool) (cs : List A) (s : List Bool) → ((a : A) (t : List Bool) → one_of w cs s ≡ ok a t → ⊥) → one_of w cs s
    ≡ bad 13 (length s)
unfolding one_of
one-bad w [] s h = refl
one-bad w (c ∷ cs) s h = go (strip (w c) s) (one-bad w cs s) h
  where
    go : (o : Option (List Bool)) → (((a : _) (t : List Bool) → one_of w cs s ≡ ok a t → ⊥) → one_of w cs s ≡ bad 13 (length s))
        → ((a : _) (t : List Bool) → or_else o c (one_of w cs s) ≡ ok a t → ⊥) → or_else o c (one_of w cs s) ≡ bad 13 (length s)
    go (some t) f g = absurd (g c t refl)
    go none f g = f g

module _ (r : ℕ) (h : r < 8) (s : List Bool) where
  abbrev seen_bits : List Bool
  seen_bits = take (word_bits r) (s ++ zeros (word_bits r))

  abbrev seen : ℤ
  seen = code_seen r (value seen_bits)

  look_length : length seen_bits ≡ word_bits r
  look_length = length-take-le (word_bits r) (s ++ zeros (word_bits r)) (omega (arith, length-append s (zeros (word_bits r)), length-replicate (word_bits r) false))

  -- what is left of the bits that were looked at
  abbrev rest : List Bool
  rest = left_of_read (one_of (small_bits r) (codes_to r) (bits (word_bits r) (value seen_bits)))

  -- they begin with the code that is seen
  begins : (seen_bits ≡ small_bits r seen ++ rest) × (nat_abs seen ≤ r)
  unfolding code_seen
  begins =
      let e : bits (word_bits r) (value seen_bits) ≡ seen_bits = rw look_length at (bits-value seen_bits) in
      rw e (go (one_of (small_bits r) (codes_to r) seen_bits) refl
      (one_of_full (small_bits r) (codes_to r) (word_bits r) (tables_full r h) seen_bits (omega (arith, look_length))))
    where
      go : (x : Read ℤ) → one_of (small_bits r) (codes_to r) seen_bits ≡ x → T (is_read x) → (seen_bits ≡ small_bits r (code_of_read x) ++ left_of_read x)
          × (nat_abs (code_of_read x) ≤ r)
      go (ok c t) e k = let (m, q) = (word_fits r h).back seen_bits c t e in (q, m)
      go (bad n k) e m = absurd m

  seen-length : length_seen r (value seen_bits) ≡ length (small_bits r seen)
  unfolding length_seen
  seen-length =
      let e : length seen_bits ≡ length (small_bits r seen ++ rest) = ap length begins.0 in
      omega (arith, e, look_length, length-append (small_bits r seen) rest)

  pub look_ahead : (v : ℕ) → v ≡ value seen_bits →
      one_of (small_bits r) (codes_to r) s ≡ cond (leb (length_seen r v) (length s)) (ok (code_seen r v) (drop (length_seen r v) s)) (bad 13 (length s))
  look_ahead v e = rw (e, seen-length) (go rest begins)
    where
      go : (t : List Bool) → (seen_bits ≡ small_bits r seen ++ t) × (nat_abs seen ≤ r) →
          one_of (small_bits r) (codes_to r) s ≡ cond (leb (length (small_bits r seen)) (length s)) (ok seen (drop (length (small_bits r seen)) s))
          (bad 13 (length s))
      go t (q, m) =
          let k = word_bits r in
          let u : List Bool = t ++ drop k (s ++ zeros k) in
          let z : s ++ zeros k ≡ small_bits r seen ++ u =
          sym (take-append-drop k (s ++ zeros k)) ∙ ap (λ x. x ++ drop k (s ++ zeros k)) q ∙ append_assoc (small_bits r seen) t (drop k (s ++ zeros k)) in
          let y : one_of (small_bits r) (codes_to r) (s ++ zeros k) ≡ ok seen u = ap (one_of (small_bits r) (codes_to r)) z ∙ (word_fits r h).there seen u m in
          leb_case (λ b. one_of (small_bits r) (codes_to r) s ≡ cond b (ok seen (drop (length (small_bits r seen)) s)) (bad 13 (length s)))
          (length (small_bits r seen)) (length s)
          (λ l. ahead_yes (word_fits r h) s (zeros k) seen u y l)
          (λ l. one-bad (small_bits r) (codes_to r) s (ahead_no (word_fits r h) s (zeros k) seen u y l))
