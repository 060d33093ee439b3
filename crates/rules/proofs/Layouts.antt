-- A layout's test and its facts say the same, and the counts are small. Assumes nothing.
use mathlib.Core.Path.{◌≡◌, refl}
use mathlib.Core.Bool.{Bool, true, false, cond}
use Prim.Native.Nat.{ℕ, ◌+◌, ◌-◌, ◌*◌, ◌/◌, ◌≤◌, ◌<◌}
use native.Mathlib.Nat.{div-lt_iff_lt-mul}
use native.Mathlib.Omega.{arith}
use borrow.Author.Tests.{le-leb, leb-true, eqb-false, ne_eqb}
use lib.Dec.{leb, eqb}
use Rattle.buffers.proofs.Tests.{and_fst, and_snd, not_true_false, cond_bound}
use Rattle.rules.specs.Layout.{legal_pair, legal_layout, LegalLayout, frame_size, kind_at, is_secondary, start_band, hfr_bands, ceil_div, bands_per_group}
use Rattle.rules.specs.Layout.{group_count}
use Rattle.rules.specs.Layout.{coded_count_at, side_count_at, spectrum_length, factor_length, side_length, has_room, HasRoom}
use Rattle.rules.specs.declared.Layout.{Layout}
use Rattle.rules.specs.declared.Room.{Room}

pub legal_true : (l : Layout) → LegalLayout l → legal_layout l ≡ true
unfolding legal_layout
legal_true l h =
    rw (
      le-leb _ _ h.some,
      le-leb _ _ h.few,
      le-leb _ _ h.band,
      le-leb _ _ h.bands,
      le-leb _ _ h.start,
      le-leb _ _ h.small,
      le-leb _ _ h.large,
      le-leb _ _ h.lowest,
      le-leb _ _ h.paired,
      le-leb _ _ h.highest,
    )

pub legal_sizes : (l : Layout) → legal_layout l ≡ true → LegalLayout l
unfolding legal_layout
legal_sizes l e₁ =
    let e₂ = and_snd (leb 1 l.channels) _ e₁ in
    let e₃ = and_snd (leb l.channels 16) _ e₂ in
    let e₄ = and_snd (leb 1 l.total) _ e₃ in
    let e₅ = and_snd (leb l.total 128) _ e₄ in
    let e₆ = and_snd (leb (start_band l) l.total) _ e₅ in
    let e₇ = and_snd (leb 8 (frame_size l)) _ e₆ in
    let e₈ = and_snd (leb (frame_size l) 65535) _ e₇ in
    let e₉ = and_snd (leb 1 l.minimum) _ e₈ in
    record {
      some = leb-true _ _ (and_fst (leb 1 l.channels) _ e₁);
      few = leb-true _ _ (and_fst (leb l.channels 16) _ e₂);
      band = leb-true _ _ (and_fst (leb 1 l.total) _ e₃);
      bands = leb-true _ _ (and_fst (leb l.total 128) _ e₄);
      start = leb-true _ _ (and_fst (leb (start_band l) l.total) _ e₅);
      small = leb-true _ _ (and_fst (leb 8 (frame_size l)) _ e₆);
      large = leb-true _ _ (and_fst (leb (frame_size l) 65535) _ e₇);
      lowest = leb-true _ _ (and_fst (leb 1 l.minimum) _ e₈);
      paired = leb-true _ _ (and_fst (leb l.minimum l.maximum) _ e₉);
      highest = leb-true _ _ (and_snd (leb l.minimum l.maximum) _ e₉);
    }

-- where all but the pair is within its limits, the pair decides
pub legal_pair_lem : (l : Layout) → 1 ≤ l.channels → l.channels ≤ 16 → 1 ≤ l.total → l.total ≤ 128 → l.base + l.stereo ≤ l.total → 8 ≤ frame_size l
    → frame_size l ≤ 65535 → legal_layout l ≡ legal_pair l.minimum l.maximum
unfolding legal_layout
legal_pair_lem l h₁ h₂ h₃ h₄ h₅ h₆ h₇ =
    rw (le-leb _ _ h₁, le-leb _ _ h₂, le-leb _ _ h₃, le-leb _ _ h₄, le-leb _ _ h₅, le-leb _ _ h₆, le-leb _ _ h₇)

pub legal_false : (l : Layout) → (LegalLayout l → ⊥) → legal_layout l ≡ false
legal_false l h = not_true_false (legal_layout l) (λ e. h (legal_sizes l e))

-- room for a record and its frame
module _ (l : Layout) (r : Room) where
  pub room_true : HasRoom l r → has_room l r ≡ true
  unfolding has_room
  room_true h = rw (le-leb _ _ h.factors, le-leb _ _ h.side, le-leb _ _ h.codes, le-leb _ _ h.frame)

  pub room_facts : has_room l r ≡ true → HasRoom l r
  unfolding has_room
  room_facts e₁ =
      let e₂ = and_snd (leb (factor_length l) r.factors) _ e₁ in
      let e₃ = and_snd (leb (side_length l) r.side) _ e₂ in
      record {
        factors = leb-true _ _ (and_fst (leb (factor_length l) r.factors) _ e₁);
        side = leb-true _ _ (and_fst (leb (side_length l) r.side) _ e₂);
        codes = leb-true _ _ (and_fst (leb (spectrum_length l) r.codes) _ e₃);
        frame = leb-true _ _ (and_snd (leb (spectrum_length l) r.codes) _ e₃);
      }

  pub room_false : (HasRoom l r → ⊥) → has_room l r ≡ false
  room_false h = not_true_false (has_room l r) (λ e. h (room_facts e))

-- a coded count is at most N
pub coded-le : (l : Layout) (c : ℕ) → coded_count_at l c ≤ start_band l
unfolding coded_count_at
coded-le l c = cond_bound (is_secondary (kind_at l c)) (λ _. omega arith) (λ _. omega arith)

-- at most eight groups
few_groups : (h g : ℕ) (t : Bool) → h ≤ 8 * g → eqb g 0 ≡ t → cond t 0 ((h + (g - 1)) / g) ≤ 8
few_groups h g true p e = omega arith
few_groups h g false p e =
    let q : g ≡ 0 → ⊥ = eqb-false g 0 e in
    let z : 0 < g = omega arith in
    let r : (h + (g - 1)) / g < 9 = (div-lt_iff_lt-mul z).1 (omega arith) in
    omega arith

pub groups_le : (l : Layout) → group_count l ≤ 8
unfolding group_count bands_per_group ceil_div
groups_le l = few_groups (hfr_bands l) ((hfr_bands l + 7) / 8) _ (omega arith) refl

-- as the code counts them
pub groups_are : (l : Layout) (g n : ℕ) → g ≡ bands_per_group l → n ≡ start_band l → (g ≡ 0 → ⊥)
    → ((l.total - n + (g - 1)) / g ≡ group_count l) × ((l.total - n + (g - 1)) / g ≤ 8)
unfolding group_count ceil_div
groups_are l g n p q h =
    let is : (l.total - n + (g - 1)) / g ≡ group_count l = rw (q, ← p, ne_eqb g 0 h) in
    (is, rw is (groups_le l))

pub sides_le : (l : Layout) (c : ℕ) → side_count_at l c ≤ 8
unfolding side_count_at
sides_le l c = cond_bound (is_secondary (kind_at l c)) (λ _. omega arith) (λ _. groups_le l)

-- a coded count fits its row
pub coded-few : (l : Layout) → LegalLayout l → (c : ℕ) → coded_count_at l c ≤ 128
coded-few l z c = omega (arith, coded-le l c)
