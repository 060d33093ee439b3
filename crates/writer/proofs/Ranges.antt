-- The range of a code past the tables; level and boundary; a channel's rows. Assumes nothing.
use mathlib.Core.Path.{◌≡◌, refl, sym, ap, ◌∙◌}
use mathlib.Core.List.{List}
use mathlib.Core.Bool.{Bool, false}
use Prim.Native.Nat.{ℕ, ◌^◌, ◌≤◌, ◌<◌}
use native.Mathlib.Omega.{arith}
use borrow.Author.Tests.{le-ltb, le-leb, lt-leb}
use lib.Dec.{leb}
use lib.IntN.{ℤ, pos, nat_abs}
use lib.ListN.{length, get_or, get_or-eq_default}
use lib.Signed.{mag}
use mir.Syntax.{w32}
use mir.Val.{to_z, of_z}
use mir.ValLaws.{to_z-of_z}
use Rattle.rules.specs.Tables.{max_bit_table}
use Rattle.rules.specs.Code.{magnitude_bits, code_limit}
use Rattle.rules.specs.Layout.{kind_at, coded_count_at, side_count_at, side_width}
use Rattle.rules.specs.Record.{code_range, legal_head, legal_row, legal_band}
use Rattle.rules.specs.declared.Layout.{Layout}

pub range_past : (r : ℕ) → 15 < r → code_range r ≡ 0
unfolding code_range code_limit magnitude_bits max_bit_table
range_past r h =
    let l : 8 ≤ r = omega arith in
    rw (le-ltb r 8 l, get_or-eq_default max_bit_table 0 {n = r} (omega arith))

-- ---- level and boundary

pub head_in : (level boundary : ℕ) → level ≤ 511 → leb boundary 127 ≡ legal_head level boundary
unfolding legal_head
head_in level boundary h = rw (le-leb level 511 h) refl

pub head_out : (level boundary : ℕ) → 511 < level → false ≡ legal_head level boundary
unfolding legal_head
head_out level boundary h = rw (lt-leb level 511 h) refl

-- ---- a band's code, as the judged number was read from its bits

pub band_judged : (rs : List ℕ) (cs : List ℤ) (b : ℕ) {t : Bool} → mag (get_or cs b (pos 0)) < 2 ^ 31
    → t ≡ leb (nat_abs (to_z w32 (of_z w32 (get_or cs b (pos 0))))) (code_range (get_or rs b 0))
    → t ≡ legal_band rs cs b
band_judged rs cs b h e = e ∙ ap (λ z. leb (nat_abs z) (code_range (get_or rs b 0))) (to_z-of_z w32 (get_or cs b (pos 0)) (record { sfits = h }))

-- ---- a channel's two rows, as each was judged at its own counts

module _ (l : Layout) (channel : ℕ) (row : List ℕ) where
  pub row_judged : {n : ℕ} {t : Bool} → n ≡ coded_count_at l channel → length row ≡ 128 → t ≡ legal_row n 64 (length row) row
      → legal_row (coded_count_at l channel) 64 128 row ≡ t
  row_judged i j e = sym (e ∙ rw (i, j) refl)

  pub side_judged : {n m : ℕ} {t : Bool} → n ≡ side_count_at l channel → m ≡ 2 ^ side_width (kind_at l channel) → length row ≡ 8
      → t ≡ legal_row n m (length row) row → legal_row (side_count_at l channel) (2 ^ side_width (kind_at l channel)) 8 row ≡ t
  side_judged i k j e = sym (e ∙ rw (i, k, j) refl)
