-- The looked-at bits of each resolution, and the entries of a row of sixteen. Assumes nothing.
use mathlib.Core.Path.{◌≡◌, refl, sym, ◌∙◌, ap}
use mathlib.Core.List.{List, []}
use Prim.Native.Nat.{ℕ, ◌+◌, ◌-◌, ◌≤◌, ◌<◌}
use native.Mathlib.Omega.{arith}
use borrow.Author.Tests.{leb-true}
use lib.Dec.{leb}
use lib.IntN.{ℤ, pos}
use mir.Syntax.{w8, w32}
use mir.Val.{to_z, of_z}
use lib.ListN.{get_or}
use Rattle.bits.specs.Bits.{bits}
use Rattle.buffers.specs.Walk.{build, every}
use Rattle.buffers.proofs.Build.{build-at}
use Rattle.buffers.proofs.Every.{every-at}
use Rattle.rules.specs.Format.{strip, one_of}
use Rattle.rules.specs.Tables.{spectrum_bits, spectrum_value, max_bit_table}
use Rattle.rules.specs.Signed.{held_z}
use Rattle.rules.specs.Code.{code_place}
use Rattle.rules.specs.Fields.{small_bits}
use Rattle.reader_codes.specs.Seen.{word_bits, code_seen, length_seen}

-- ---- MAX_BIT_TABLE, from resolution 1 up

pub bits-some : (r : ℕ) → 1 ≤ r → r ≤ 15 → 1 ≤ word_bits r
unfolding every max_bit_table
bits-some r h k =
    let q : r - 1 + 1 ≡ r = omega arith in
    rw q at (leb-true 1 (word_bits (r - 1 + 1)) (every-at (λ i. leb 1 (word_bits (i + 1))) 15 (r - 1) refl (omega arith)))

-- ---- tables of eight rows of sixteen

pub table-entry : {A : Type 0} (f : ℕ → ℕ → A) (r v : ℕ) (d : A) → r < 8 → v < 16
    → get_or (get_or (build (λ i. build (f i) 16) 8) r []) v d ≡ f r v
table-entry f r v d h k = ap (λ t. get_or t v d) (build-at (λ i. build (f i) 16) 8 r [] h) ∙ build-at (f r) 16 v d k

-- a code passes through 8 bits and through 32 as it is
codes-kept : build (λ r. build (λ v. to_z w32 (of_z w32 (to_z w8 (of_z w8 (code_seen r v))))) 16) 8 ≡ build (λ r. build (code_seen r) 16) 8
unfolding build code_seen small_bits code_place held_z spectrum_bits spectrum_value max_bit_table bits strip one_of
codes-kept = refl

pub code-kept : (r v : ℕ) → r < 8 → v < 16 → to_z w32 (of_z w32 (to_z w8 (of_z w8 (code_seen r v)))) ≡ code_seen r v
code-kept r v h k =
    let kept : ℕ → ℕ → ℤ = λ i j. to_z w32 (of_z w32 (to_z w8 (of_z w8 (code_seen i j)))) in
    sym (table-entry kept r v (pos 0) h k)
    ∙ ap (λ (t : List (List ℤ)). get_or (get_or t r []) v (pos 0)) codes-kept
    ∙ table-entry code_seen r v (pos 0) h k

-- no code has more than 15 bits
pub length-short : (r v : ℕ) → r < 8 → v < 16 → length_seen r v ≤ 15
unfolding every length_seen small_bits code_place held_z spectrum_bits spectrum_value max_bit_table bits strip one_of
length-short r v h k =
    leb-true (length_seen r v) 15
    (every-at (λ j. leb (length_seen r j) 15) 16 v (every-at (λ i. every (λ j. leb (length_seen i j) 15) 16) 8 r refl h) k)
