-- A code's bits are read back, at every resolution. Assumes nothing.
use mathlib.Core.Path.{◌≡◌, refl, sym, ◌∙◌, ap, subst}
use mathlib.Core.List.{List, [], ◌++◌, append_assoc, Memᴰ}
use mathlib.Core.Logic.{◌↔◌}
use mathlib.Core.Bool.{Bool, true, cond, ◌&&◌}
use Prim.Native.Nat.{ℕ, zero, suc, ◌-◌, ◌^◌, ◌≤◌, ◌<◌}
use native.Mathlib.Omega.{arith}
use borrow.Author.Tests.{ltb-true}
use lib.IntN.{ℤ, pos, negsuc, nat_abs}
use lib.ListN.{length, get_or}
use lib.Dec.{T, ltb, eqb}
use lib.Pow.{pow_pos}
use Rattle.bits.specs.Bits.{bits}
use Rattle.rules.specs.Format.{Read, ok, bad, pure, ◌>>=◌, strip, number, one_of, as_one, Lawful}
use Rattle.rules.specs.Tables.{spectrum_bits, spectrum_value, max_bit_table}
use Rattle.rules.specs.Signed.{held_z}
use Rattle.rules.specs.Code.{code_place, magnitude_bits, code_limit}
use Rattle.rules.specs.Record.{code_range, LegalCode}
use Rattle.rules.specs.Fields.{small_bits, sign_bits, code_bits}
use Rattle.rules.specs.Reading.{codes_to, signed, read_code}
use Rattle.rules.proofs.Words.{free, below, words_free}
use Rattle.rules_formats.proofs.Formats.{twice, pure_fits, iff_fits, bind_fits, whole-fits}
use Rattle.rules_formats.proofs.Numbers.{bool_case, leb_case, eqb_case, number_fits}
use Rattle.rules_formats.proofs.Prefix.{both, every, is_read, one_of_fits, one_of_full}

-- a test at each number below n holds at one of them
pub below_at : (f : ℕ → Bool) (n : ℕ) → T (below f n) → (k : ℕ) → k < n → T (f k)
below_at f zero h k l = absurd (omega arith)
below_at f (suc n) h k l =
    let (h₀, h₁) = both (f n) (below f n) h in
    leb_case (λ b. T (f k)) n k
    (λ g. let e : k ≡ n = omega arith in rw e h₀)
    (λ g. below_at f n h₁ k g)

-- THE TABLES: at each resolution below 8 no word of the code begins another
pub tables_free : (r : ℕ) → r < 8 → T (free (small_bits r) (codes_to r))
tables_free r h = below_at (λ r. free (small_bits r) (codes_to r)) 8 words_free r h

-- .. and each run of as many bits as MAX_BIT_TABLE says begins with a word
pub tables_full : (r : ℕ) → r < 8 → T (every (get_or max_bit_table r 0) (λ s. is_read (one_of (small_bits r) (codes_to r) s)))
unfolding small_bits code_place held_z spectrum_bits spectrum_value max_bit_table bits strip one_of
tables_full r h = below_at (λ r. every (get_or max_bit_table r 0) (λ s. is_read (one_of (small_bits r) (codes_to r) s))) 8 tt r h

pub codes_are : (r : ℕ) (c : ℤ) → Memᴰ c (codes_to r) ↔ (nat_abs c ≤ r)
codes_are r c = (to r, from r c)
  where
    to : (r : ℕ) → Memᴰ c (codes_to r) → nat_abs c ≤ r
    to zero (Memᴰ.head e) = rw e (omega arith)
    to zero (Memᴰ.tail x) = elim x [ ]
    to (suc r) (Memᴰ.head e) = rw e (omega arith)
    to (suc r) (Memᴰ.tail (Memᴰ.head e)) = rw e (omega arith)
    to (suc r) (Memᴰ.tail (Memᴰ.tail m)) = omega (arith, to r m)

    from : (r : ℕ) (c : ℤ) → nat_abs c ≤ r → Memᴰ c (codes_to r)
    from zero (pos n) h = let e : n ≡ 0 = omega arith in Memᴰ.head (ap pos e)
    from zero (negsuc n) h = absurd (omega arith)
    from (suc r) (pos n) h =
        let rest = from r (pos n) in
        leb_case (λ b. Memᴰ (pos n) (codes_to (suc r))) n r
        (λ l. Memᴰ.tail (Memᴰ.tail (rest l)))
        (λ l. let e : n ≡ suc r = omega arith in Memᴰ.head (ap pos e))
    from (suc r) (negsuc n) h =
        let rest = from r (negsuc n) in
        leb_case (λ b. Memᴰ (negsuc n) (codes_to (suc r))) (suc n) r
        (λ l. Memᴰ.tail (Memᴰ.tail (rest l)))
        (λ l. let e : n ≡ r = omega arith in Memᴰ.tail (Memᴰ.head (ap negsuc e)))

pub word_fits : (r : ℕ) → r < 8 → Lawful (λ c. nat_abs c ≤ r) (small_bits r) (one_of (small_bits r) (codes_to r))
word_fits r h = iff_fits (codes_are r) (one_of_fits (small_bits r) (codes_to r) (tables_free r h))

-- the same two in plain words
pub words_apart : (r : ℕ) → r < 8 → (c d : ℤ) → nat_abs c ≤ r → nat_abs d ≤ r → (t : List Bool) → small_bits r d ≡ small_bits r c ++ t → c ≡ d
words_apart r h c d k m t e =
    let p = (word_fits r h).there d [] m in
    let q = (word_fits r h).there c (t ++ []) k in
    let z : small_bits r d ++ [] ≡ small_bits r c ++ (t ++ []) = ap (λ x. x ++ []) e ∙ append_assoc (small_bits r c) t [] in
    cc

pub word_begins : (r : ℕ) → r < 8 → (s : List Bool) → get_or max_bit_table r 0 ≤ length s → (c : ℤ) × (t : List Bool) × (nat_abs c ≤ r) × (s ≡ small_bits r c ++ t)
word_begins r h s l = go (one_of (small_bits r) (codes_to r) s) refl (one_of_full (small_bits r) (codes_to r) (get_or max_bit_table r 0) (tables_full r h) s l)
  where
    go : (x : Read ℤ) → one_of (small_bits r) (codes_to r) s ≡ x → T (is_read x) → (c : ℤ) × (t : List Bool) × (nat_abs c ≤ r) × (s ≡ small_bits r c ++ t)
    go (ok c t) e k = let (m, q) = (word_fits r h).back s c t e in (c, t, m, q)
    go (bad n k) e m = absurd m

-- what is said of a code that was read with sign bits
abbrev Signed : ℕ → List Bool → List Bool → ℤ → Type 0
Signed m s t c = ((nat_abs c ≡ m) × Unit {0}) × (s ≡ sign_bits c ++ t)

sign_fits : (m : ℕ) → Lawful (λ c. (nat_abs c ≡ m) × Unit {0}) sign_bits (signed m)
sign_fits zero = record { there = there; back = λ s a t e. let z : pos 0 ≡ a = cc in subst (Signed 0 s t) z ((refl, tt), cc) }
  where
    there : (c : ℤ) (t : List Bool) → (nat_abs c ≡ zero) × Unit {0} → signed zero (sign_bits c ++ t) ≡ ok c t
    there (pos zero) t h = refl
    there (pos (suc n)) t h = absurd (omega arith)
    there (negsuc n) t h = absurd (omega arith)
sign_fits (suc n) = record { there = there; back = back }
  where
    there : (c : ℤ) (t : List Bool) → (nat_abs c ≡ suc n) × Unit {0} → signed (suc n) (sign_bits c ++ t) ≡ ok c t
    there (pos zero) t h = absurd (omega arith)
    there (pos (suc k)) t h = let e : k ≡ n = omega arith in rw ((number_fits 1).there 0 t (omega arith)) (ap (λ x. ok (pos (suc x)) t) (sym e))
    there (negsuc k) t h = let e : k ≡ n = omega arith in rw ((number_fits 1).there 1 t (omega arith)) (ap (λ x. ok (negsuc x) t) (sym e))

    go : (s u : List Bool) (a : ℤ) (t : List Bool) (b : ℕ) → b < 2 → s ≡ bits 1 b ++ u → ok (cond (eqb b 0) (pos (suc n)) (negsuc n)) u ≡ ok a t
        → Signed (suc n) s t a
    go s u a t zero l q e = let z : pos (suc n) ≡ a = cc in subst (Signed (suc n) s t) z ((refl, tt), cc)
    go s u a t (suc zero) l q e = let z : negsuc n ≡ a = cc in subst (Signed (suc n) s t) z ((refl, tt), cc)
    go s u a t (suc (suc b)) l q e = absurd (omega arith)

    back : (s : List Bool) (a : ℤ) (t : List Bool) → signed (suc n) s ≡ ok a t → Signed (suc n) s t a
    back s a t e =
        let (b, u, e₁, e₂) = twice (λ b. pure (cond (eqb b 0) (pos (suc n)) (negsuc n))) (number 1 s) a t e in
        let (l, q) = (number_fits 1).back s b u e₁ in
        go s u a t b l q e₂

-- at resolution 0 only 0 is legal
range_none : (r : ℕ) → r ≡ 0 → code_range r ≡ 0
unfolding code_range
range_none r e = rw e

none_is : (r : ℕ) → r ≡ 0 → (c : ℤ) → (c ≡ pos 0) ↔ LegalCode r c
none_is r e (pos n) =
    let z = range_none r e in
    ((λ q. let y : n ≡ 0 = cc in omega arith), (λ h. let y : n ≡ 0 = omega arith in ap pos y))
none_is r e (negsuc n) =
    let z = range_none r e in
    ((λ q. let y : ◌≡◌ {A = ℕ} 0 1 = cc in omega arith), (λ h. absurd (omega arith)))

pub code_fits : (r : ℕ) → Lawful (LegalCode r) (code_bits r) (read_code r)
unfolding code_bits read_code code_range code_limit
code_fits r =
    eqb_case (λ b. Lawful (LegalCode r) (λ c. cond b [] (cond (ltb r 8) (small_bits r c) (bits (magnitude_bits r) (nat_abs c) ++ sign_bits c)))
    (cond b (pure (pos 0)) (cond (ltb r 8) (one_of (small_bits r) (codes_to r)) (as_one (number (magnitude_bits r) >>= signed))))) r 0
    (λ e. iff_fits (none_is r e) (pure_fits (pos 0)))
    (λ _. bool_case (λ b. Lawful (λ c. nat_abs c ≤ cond b r (2 ^ magnitude_bits r - 1))
    (λ c. cond b (small_bits r c) (bits (magnitude_bits r) (nat_abs c) ++ sign_bits c))
    (cond b (one_of (small_bits r) (codes_to r)) (as_one (number (magnitude_bits r) >>= signed)))) (ltb r 8)
    (λ h. word_fits r (ltb-true r 8 h))
    (λ h. whole-fits (iff_fits (λ c. ((λ x. omega arith), (λ x. (omega (arith, pow_pos (magnitude_bits r)), tt))))
    (bind_fits nat_abs (number_fits (magnitude_bits r)) (λ m _. sign_fits m)))))
