-- The search for the fill's first 1, a bit or a byte at a time. Assumes nothing.
use mathlib.Core.Path.{◌≡◌, refl, sym, ◌∙◌, ap}
use mathlib.Core.List.{List, ◌++◌}
use mathlib.Core.Option.{none, some}
use Prim.Native.Nat.{ℕ, zero, suc, ◌+◌, ◌-◌, ◌*◌, ◌/◌, ◌^◌, ◌≤◌, ◌<◌}
use native.Mathlib.Numerals.{add-one}
use native.Mathlib.Omega.{arith}
use Rattle.std.specs.Prelude.{Option, Some, None, is_some, false}
use lib.ListN.{length, get_or, drop_of_length-le}
use lib.Seq.{drop-cons}
use Rattle.bits.specs.Bits.{bits, bits_of}
use Rattle.bits.specs.Place.{left_at, look_at}
use Rattle.bits.proofs.Numbers.{length-bits_of}
use Rattle.bits.proofs.Parts.{bits-drop}
use Rattle.bits.proofs.Fields.{look_lt, look_field, got}
use Rattle.rules.specs.Reading.{first_one}
use Rattle.reader.specs.Ones.{ZerosBetween, Stopped}
use Rattle.reader.specs.Filled.{Filled}

module _ (part : List ℕ) (p : ℕ) (h : p < 8 * length part) where
  -- the bit at p, and what follows it
  bit_there : left_at part p ≡ bits 1 (look_at part p 1 / 2 ^ (1 - 1)) ++ left_at part (p + 1)
  bit_there = (got part p 1 (look_field part p 1 1 (omega arith) (omega arith))).stands

  bit_is : (v : ℕ) → look_at part p 1 ≡ v → left_at part p ≡ bits 1 (v / 1) ++ left_at part (p + 1)
  bit_is v e = rw e at bit_there

  pub bit_zero : look_at part p 1 ≡ 0 → ZerosBetween part p (p + 1)
  unfolding bits
  bit_zero e = ap first_one (bit_is 0 e)

  pub bit_one : (look_at part p 1 ≡ 0 → ⊥) → first_one (left_at part p) ≡ some (length (left_at part p))
  unfolding bits
  bit_one n =
      let e : look_at part p 1 ≡ 1 = one (look_at part p 1) (look_lt part p 1) n in
      ap first_one (bit_is 1 e) ∙ ap (λ s. some (length s)) (sym (bit_is 1 e))
    where
      one : (v : ℕ) → v < 2 → (v ≡ 0 → ⊥) → v ≡ 1
      one zero l m = absurd (m refl)
      one (suc zero) l m = refl
      one (suc (suc v)) l m = absurd (omega arith)

pub byte_zero : (part : List ℕ) (i : ℕ) → i < length part → get_or part i 0 ≡ 0 → ZerosBetween part (8 * i) (8 * (i + 1))
unfolding bits bits_of
byte_zero part i h e =
    let z : left_at part (8 * i) ≡ bits 8 (get_or part i 0) ++ left_at part (8 * (i + 1)) =
    sym (bits-drop i part) ∙ ap bits_of (drop-cons part i 0 h)
    ∙ ap (λ s. bits 8 (get_or part i 0) ++ s) (bits-drop (suc i) part ∙ ap (λ n. left_at part (8 * n)) (sym (add-one i))) in
    ap first_one z ∙ ap (λ b. first_one (bits 8 b ++ left_at part (8 * (i + 1)))) e

pub end_zero : (part : List ℕ) (p : ℕ) → 8 * length part ≤ p → first_one (left_at part p) ≡ none
end_zero part p h = ap first_one (drop_of_length-le (bits_of part) {i = p} (omega (arith, length-bits_of part)))

-- the search in the rest, after zeros up to bit q
pub found_late : (part : List ℕ) (p q : ℕ) (r : Option ℕ) → ZerosBetween part p q → Stopped part q (8 * length part) r → Filled part (first_one (left_at part p)) r
found_late part p q (Some b) z t = record { is = z ∙ t.zeros ∙ t.one; within = omega (arith, t.within) }
found_late part p q None z t = record { is = z ∙ t ∙ end_zero part (8 * length part) (omega arith); within = tt }

-- a search that found no 1
pub none_found : (part : List ℕ) (p end : ℕ) (r : Option ℕ) → is_some r ≡ false → Stopped part p end r → ZerosBetween part p end
none_found part p end (Some b) e t = absurd (let z : ◌≡◌ {A = ℕ} 0 1 = cc in omega arith)
none_found part p end None e t = t
