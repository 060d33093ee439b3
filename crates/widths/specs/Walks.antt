-- Document 01, **Width**, walked once: the lengths of widths 1 to 5 side by side.
use Rattle.std.specs.Prelude.{List, cond, ◌&&◌, ℕ, zero, suc, ◌+◌, ◌*◌, ◌≤◌, ◌<◌, ltb, eqb, get_or, replicate}
use Rattle.buffers.specs.Walk.{build}
use Rattle.rules.specs.Width.{near}
use Rattle.widths.specs.declared.Width.{Width}
use Rattle.widths.specs.declared.Walk.{Walk}

-- a factor more, of at most 11 bits, makes no length longer than 9 + 11 x 127
abbrev pub Short : (lengths : List ℕ) → Type 0
Short lengths = (i : ℕ) → i < 5 → get_or lengths i 0 ≤ 9 + 11 * 126

-- a later band: d bits if its delta is near, else an escape and 6 bits
abbrev pub later_bits : (d previous factor : ℕ) → ℕ
later_bits d previous factor = cond (near d previous factor) d (d + 6)

-- each length with one factor more; the length of width i + 1 is at i
abbrev pub longer : (lengths : List ℕ) (previous factor : ℕ) → List ℕ
longer lengths previous factor = build (λ i. get_or lengths i 0 + later_bits (i + 1) previous factor) 5

-- the first factor: 3 bits of the width and 6 of its own
abbrev pub first_walk : (factor : ℕ) → Walk
first_walk factor = record { lengths = replicate 5 9; previous = factor; is_zero = eqb factor 0 }

abbrev pub walk_on : (w : Walk) (factor : ℕ) → Walk
walk_on w factor = record { lengths = longer w.lengths w.previous factor; previous = factor; is_zero = w.is_zero && eqb factor 0 }

-- a width of strictly less cost takes the other's place
unfoldable pub or_less : (d length : ℕ) (w : Width) → Width
or_less d length w = cond (ltb length w.cost) (record { bits = d; cost = length }) w

-- 6, unless one of the first k widths costs strictly less: then the first of least cost
unfoldable pub chosen_of : (lengths : List ℕ) (n k : ℕ) → Width
chosen_of lengths n zero = record { bits = 6; cost = 3 + 6 * n }
chosen_of lengths n (suc k) = or_less (k + 1) (get_or lengths k 0) (chosen_of lengths n k)
