-- A code's field by its resolution's rule is document 01's. Assumes nothing.
use mathlib.Core.Path.{◌≡◌, refl, sym, ap, ap₂, ◌∙◌, subst}
use mathlib.Core.List.{[], ◌++◌, append-nil}
use mathlib.Core.Bool.{Bool, true, ◌&&◌}
use mathlib.Core.Logic.{◌≢◌}
use Prim.Native.Nat.{ℕ, zero, suc, ◌+◌, ◌-◌, ◌*◌, ◌/◌, ◌%◌, ◌^◌, ◌≤◌, ◌<◌}
use native.Mathlib.Nat.{pow-suc}
use native.Mathlib.Numerals.{add-one}
use native.Mathlib.Omega.{arith}
use borrow.Author.Tests.{lt-ltb, le-ltb, ne_eqb, ltb-true, leb-true}
use lib.Dec.{ltb, leb}
use lib.IntN.{ℤ, pos, negsuc, ◌-ℤ◌, nat_abs}
use lib.ListN.{get_or}
use lib.Pow.{pow_pos, pow_mono}
use Rattle.bits.specs.Bits.{bits}
use Rattle.buffers.specs.Walk.{build, every}
use Rattle.buffers.proofs.Build.{build-at}
use Rattle.buffers.proofs.Every.{every-at}
use Rattle.buffers.proofs.Tests.{and_fst, and_snd}
use Rattle.emission.proofs.Joins.{bits_join}
use Rattle.rules.specs.Tables.{max_bit_table, spectrum_bits, spectrum_value}
use Rattle.rules.specs.Signed.{held_z}
use Rattle.rules.specs.Code.{code_place, magnitude_bits, code_limit}
use Rattle.rules.specs.Fields.{small_bits, sign_bits, code_bits}
use Rattle.rules.proofs.Cuts.{by_order}
use Rattle.packing_codes.specs.Columns.{ordinal, rules, rule_of, length_of, word_of, rule_bits, Small, Ranged, Ruled}

-- ---- below 8

-- the code at a place of a row
abbrev code_of_place : ℕ → ℤ
code_of_place k = pos k -ℤ pos 8

-- one test for all rows: the tables are the rules', and each word has as many bits as its length says
table-lengths : spectrum_bits ≡ build (λ r. build (λ k. length_of (rule_of r) (ordinal (code_of_place k))) 16) 8
unfolding spectrum_bits build length_of rules
table-lengths = refl

table_words : spectrum_value ≡ build (λ r. build (λ k. word_of (rule_of r) (ordinal (code_of_place k))) 16) 8
unfolding spectrum_value build word_of rules
table_words = refl

abbrev fits : (r k : ℕ) → Bool
fits r k = leb (length_of (rule_of r) (ordinal (code_of_place k))) 12 && ltb (word_of (rule_of r) (ordinal (code_of_place k)))
    (2 ^ length_of (rule_of r) (ordinal (code_of_place k)))

table_fits : every (λ r. every (fits r) 16) 8 ≡ true
unfolding every word_of length_of rules
table_fits = refl

module _ (r k : ℕ) (hr : r < 8) (hk : k < 16) where
  row-length : get_or (get_or spectrum_bits r []) k 0 ≡ length_of (rule_of r) (ordinal (code_of_place k))
  row-length =
      ap (λ t. get_or (get_or t r []) k 0) table-lengths
      ∙ ap (λ t. get_or t k 0) (build-at (λ r. build (λ k. length_of (rule_of r) (ordinal (code_of_place k))) 16) 8 r [] hr)
      ∙ build-at (λ k. length_of (rule_of r) (ordinal (code_of_place k))) 16 k 0 hk

  row_word : get_or (get_or spectrum_value r []) k 0 ≡ word_of (rule_of r) (ordinal (code_of_place k))
  row_word =
      ap (λ t. get_or (get_or t r []) k 0) table_words
      ∙ ap (λ t. get_or t k 0) (build-at (λ r. build (λ k. word_of (rule_of r) (ordinal (code_of_place k))) 16) 8 r [] hr)
      ∙ build-at (λ k. word_of (rule_of r) (ordinal (code_of_place k))) 16 k 0 hk

  row_fits : (length_of (rule_of r) (ordinal (code_of_place k)) ≤ 12)
      × (word_of (rule_of r) (ordinal (code_of_place k)) < 2 ^ length_of (rule_of r) (ordinal (code_of_place k)))
  row_fits =
      let l : ℕ = length_of (rule_of r) (ordinal (code_of_place k)) in
      let w : ℕ = word_of (rule_of r) (ordinal (code_of_place k)) in
      let row : every (fits r) 16 ≡ true = every-at (λ r. every (fits r) 16) 8 r table_fits hr in
      let both : (leb l 12 && ltb w (2 ^ l)) ≡ true = every-at (fits r) 16 k row hk in
      (leb-true l 12 (and_fst (leb l 12) (ltb w (2 ^ l)) both), ltb-true w (2 ^ l) (and_snd (leb l 12) (ltb w (2 ^ l)) both))

-- a code of -8..7 and its place
place-back : (z : ℤ) → Small z → (code_place z < 16) × (code_of_place (code_place z) ≡ z)
unfolding code_place held_z
place-back (pos zero) h = (omega arith, refl)
place-back (pos (suc zero)) h = (omega arith, refl)
place-back (pos (suc (suc zero))) h = (omega arith, refl)
place-back (pos (suc (suc (suc zero)))) h = (omega arith, refl)
place-back (pos (suc (suc (suc (suc zero))))) h = (omega arith, refl)
place-back (pos (suc (suc (suc (suc (suc zero)))))) h = (omega arith, refl)
place-back (pos (suc (suc (suc (suc (suc (suc zero))))))) h = (omega arith, refl)
place-back (pos (suc (suc (suc (suc (suc (suc (suc zero)))))))) h = (omega arith, refl)
place-back (pos (suc (suc (suc (suc (suc (suc (suc (suc k))))))))) h = absurd (omega arith)
place-back (negsuc zero) h = (omega arith, refl)
place-back (negsuc (suc zero)) h = (omega arith, refl)
place-back (negsuc (suc (suc zero))) h = (omega arith, refl)
place-back (negsuc (suc (suc (suc zero)))) h = (omega arith, refl)
place-back (negsuc (suc (suc (suc (suc zero))))) h = (omega arith, refl)
place-back (negsuc (suc (suc (suc (suc (suc zero)))))) h = (omega arith, refl)
place-back (negsuc (suc (suc (suc (suc (suc (suc zero))))))) h = (omega arith, refl)
place-back (negsuc (suc (suc (suc (suc (suc (suc (suc zero)))))))) h = (omega arith, refl)
place-back (negsuc (suc (suc (suc (suc (suc (suc (suc (suc k))))))))) h = absurd (omega arith)

small_field : (r : ℕ) (z : ℤ) → r < 8 → Small z → small_bits r z ≡ rule_bits (rule_of r) z
unfolding small_bits rule_bits
small_field r z hr h =
    let b = place-back z h in
    let e : bits (get_or (get_or spectrum_bits r []) (code_place z) 0) (get_or (get_or spectrum_value r []) (code_place z) 0)
    ≡ bits (length_of (rule_of r) (ordinal (code_of_place (code_place z)))) (word_of (rule_of r) (ordinal (code_of_place (code_place z)))) =
    ap₂ bits (row-length r (code_place z) hr b.0) (row_word r (code_place z) hr b.0) in
    e ∙ ap (λ y. bits (length_of (rule_of r) (ordinal y)) (word_of (rule_of r) (ordinal y))) b.1

small-fits : (r : ℕ) (z : ℤ) → r < 8 → Small z → (length_of (rule_of r) (ordinal z) ≤ 12) × (word_of (rule_of r) (ordinal z) < 2 ^ length_of (rule_of r) (ordinal z))
small-fits r z hr h =
    let b = place-back z h in
    subst (λ y. (length_of (rule_of r) (ordinal y) ≤ 12) × (word_of (rule_of r) (ordinal y) < 2 ^ length_of (rule_of r) (ordinal y))) b.1
    (row_fits r (code_place z) hr b.0)

-- ---- a rule's field, by where the number stands

module _ (p o : ℕ) where
  pub field_first : o < p / 256 → o < p / 16 % 16 → (length_of p o ≡ p % 16 - 1) × (word_of p o ≡ o)
  unfolding length_of word_of
  field_first h g = (rw (lt-ltb o (p / 256) h, lt-ltb o (p / 16 % 16) g), rw (lt-ltb o (p / 256) h, lt-ltb o (p / 16 % 16) g))

  pub field_later : o < p / 256 → p / 16 % 16 ≤ o → (length_of p o ≡ p % 16) × (word_of p o ≡ o + p / 16 % 16)
  unfolding length_of word_of
  field_later h g = (rw (lt-ltb o (p / 256) h, le-ltb o (p / 16 % 16) g), rw (lt-ltb o (p / 256) h, le-ltb o (p / 16 % 16) g))

  pub field_none : p / 256 ≤ o → (length_of p o ≡ 0) × (word_of p o ≡ 0)
  unfolding length_of word_of
  field_none h = (rw (le-ltb o (p / 256) h), rw (le-ltb o (p / 256) h))

-- ---- from 8 up

table_magnitudes : build (λ i. magnitude_bits (8 + i)) 8 ≡ build (λ i. 4 + i) 8
unfolding build magnitude_bits max_bit_table
table_magnitudes = refl

table-rules : build (λ i. rule_of (8 + i)) 8 ≡ build (λ i. 21 + i + 256 * (2 * 2 ^ (4 + i) - 1)) 8
unfolding build rules
table-rules = refl

module _ (i : ℕ) (h : i < 8) where
  magnitude_is : magnitude_bits (8 + i) ≡ 4 + i
  magnitude_is = sym (build-at (λ i. magnitude_bits (8 + i)) 8 i 0 h) ∙ ap (λ t. get_or t i 0) table_magnitudes ∙ build-at (λ i. 4 + i) 8 i 0 h

  rule-is : rule_of (8 + i) ≡ 21 + i + 256 * (2 * 2 ^ (4 + i) - 1)
  rule-is =
      sym (build-at (λ i. rule_of (8 + i)) 8 i 0 h) ∙ ap (λ t. get_or t i 0) table-rules ∙ build-at (λ i. 21 + i + 256 * (2 * 2 ^ (4 + i) - 1)) 8 i 0 h

-- of a rule of magnitudes in m bits
module _ (m p : ℕ) (hm : m ≤ 11) (e : p ≡ 17 + m + 256 * (2 * 2 ^ m - 1)) where
  parts : (p % 16 ≡ m + 1) × (p / 16 % 16 ≡ 1) × (p / 256 ≡ 2 * 2 ^ m - 1)
  parts = (omega arith, omega arith, omega arith)

  large_field : (z : ℤ) → nat_abs z ≤ 2 ^ m - 1
      → (bits m (nat_abs z) ++ sign_bits z ≡ bits (length_of p (ordinal z)) (word_of p (ordinal z))) × (length_of p (ordinal z) ≤ 12)
      × (word_of p (ordinal z) < 2 ^ length_of p (ordinal z))
  large_field (pos zero) h =
      let q = parts in
      let k = pow_pos m in
      let f = field_first p 0 (omega arith) (omega arith) in
      let l : length_of p 0 ≡ m = omega (arith, f.0) in
      (append-nil (bits m 0) ∙ sym (ap₂ bits l f.1), omega arith, rw (l, f.1) k)
  large_field (pos (suc j)) h =
      let q = parts in
      let f = field_later p (2 * j + 1) (omega arith) (omega arith) in
      let l : length_of p (2 * j + 1) ≡ m + 1 = omega (arith, f.0) in
      let w : word_of p (2 * j + 1) ≡ suc j * 2 ^ 1 + 0 = omega (arith, f.1) in
      (sym (bits_join m 1 (suc j) 0 (omega arith)) ∙ sym (ap₂ bits l w), omega arith, rw (l, w, add-one m, pow-suc 2 m) (omega arith))
  large_field (negsuc j) h =
      let q = parts in
      let f = field_later p (2 * j + 2) (omega arith) (omega arith) in
      let l : length_of p (2 * j + 2) ≡ m + 1 = omega (arith, f.0) in
      let w : word_of p (2 * j + 2) ≡ suc j * 2 ^ 1 + 1 = omega (arith, f.1) in
      (sym (bits_join m 1 (suc j) 1 (omega arith)) ∙ sym (ap₂ bits l w), omega arith, rw (l, w, add-one m, pow-suc 2 m) (omega arith))

-- ---- a code's field

module _ (r : ℕ) (z : ℤ) where
  code_large : 8 ≤ r → code_bits r z ≡ bits (magnitude_bits r) (nat_abs z) ++ sign_bits z
  unfolding code_bits
  code_large l = rw (ne_eqb r 0 (λ e. omega arith), le-ltb r 8 l)

  code_small : r ≢ 0 → r < 8 → code_bits r z ≡ small_bits r z
  unfolding code_bits
  code_small h l = rw (ne_eqb r 0 h, lt-ltb r 8 l)

  large : r ≤ 15 → 8 ≤ r → Ranged r z
      → (code_bits r z ≡ rule_bits (rule_of r) z) × (length_of (rule_of r) (ordinal z) ≤ 12) × (word_of (rule_of r) (ordinal z) < 2 ^ length_of (rule_of r) (ordinal z))
  unfolding rule_bits code_limit
  large hr h g =
      let i : ℕ = r - 8 in
      let e : 8 + i ≡ r = omega arith in
      let m : magnitude_bits r ≡ 4 + i = rw e at (magnitude_is i (omega arith)) in
      let p : rule_of r ≡ 17 + (4 + i) + 256 * (2 * 2 ^ (4 + i) - 1) = rw e at (rule-is i (omega arith)) ∙ omega arith in
      let most : nat_abs z ≤ 2 ^ (4 + i) - 1 = rw m at (g.large h) in
      let f = large_field (4 + i) (rule_of r) (omega arith) p z most in
      (code_large h ∙ rw m f.0, f.1, f.2)

code_none : (z : ℤ) → code_bits 0 z ≡ rule_bits (rule_of 0) z
unfolding code_bits rule_bits bits rules
code_none z = let f = field_none 0 (ordinal z) (omega arith) in rw f.0

-- THE LAW: one rule for all resolutions
pub field_is : (r : ℕ) (z : ℤ) → r ≤ 15 → Ranged r z → code_bits r z ≡ rule_bits (rule_of r) z
field_is r z hr g =
    by_order r 8
    (λ l. by_order r 1
    (λ n. let e : r ≡ 0 = omega arith in rw e (code_none z))
    (λ n. code_small r z (λ e. omega arith) l ∙ small_field r z l (g.small l)))
    (λ l. (large r z hr l g).0)

pub field_fits : (r : ℕ) (z : ℤ) → r ≤ 15 → Ranged r z → (length_of (rule_of r) (ordinal z) ≤ 12)
    × (word_of (rule_of r) (ordinal z) < 2 ^ length_of (rule_of r) (ordinal z))
field_fits r z hr g = by_order r 8 (λ l. small-fits r z l (g.small l)) (λ l. ((large r z hr l g).1, (large r z hr l g).2))

-- ---- what the code needs of a rule and a code within its range

table_starts : every (λ r. leb (rule_of r / 16 % 16) (15 * (rule_of r % 16))) 16 ≡ true
unfolding every rules
table_starts = refl

pub ruled_starts : {p : ℕ} {z : ℤ} → Ruled p z → 1 ≤ p / 16 % 16 → 1 ≤ p % 16
ruled_starts {p} w h =
    let r : ℕ = w.resolution in
    let e : leb (rule_of r / 16 % 16) (15 * (rule_of r % 16))
    ≡ true = every-at (λ r. leb (rule_of r / 16 % 16) (15 * (rule_of r % 16))) 16 r table_starts (omega (arith, w.known)) in
    let l : p / 16 % 16 ≤ 15 * (p % 16) = rw w.same (leb-true (rule_of r / 16 % 16) (15 * (rule_of r % 16)) e) in
    omega arith

small-most : (z : ℤ) → Small z → nat_abs z ≤ 4095
small-most (pos k) h = omega arith
small-most (negsuc k) h = omega arith

large-most : (r : ℕ) → r ≤ 15 → 8 ≤ r → code_limit r ≤ 4095
unfolding code_limit
large-most r hr h =
    let i : ℕ = r - 8 in
    let e : 8 + i ≡ r = omega arith in
    let m : magnitude_bits r ≡ 4 + i = rw e at (magnitude_is i (omega arith)) in
    let k : 2 ^ (4 + i) ≤ 2 ^ 11 = pow_mono {j = 11} (omega arith) in
    rw m (omega arith)

pub ruled_most : {p : ℕ} {z : ℤ} → Ruled p z → nat_abs z ≤ 4095
ruled_most {p} {z} w =
    by_order w.resolution 8 (λ l. small-most z (w.ranged.small l)) (λ l. omega (arith, w.ranged.large l, large-most w.resolution w.known l))

pub ruled_fits : {p : ℕ} {z : ℤ} → Ruled p z → (length_of p (ordinal z) ≤ 12) × (word_of p (ordinal z) < 2 ^ length_of p (ordinal z))
ruled_fits {p} {z} w = rw w.same (field_fits w.resolution z w.known w.ranged)
