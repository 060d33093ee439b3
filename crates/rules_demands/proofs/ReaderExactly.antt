-- Demand 1 for the strict reader as it is called: refusals 1, 2, 8 and 9 come exactly when the scope says; a refusal is one of 1, 2, 8, 9 and 11 to 14,
-- and what it leaves goes by its number. Assumes nothing.
use mathlib.Core.Path.{◌≡◌, sym, ◌∙◌, ap}
use mathlib.Core.List.{List, [], ◌∷◌, ◌++◌, append_assoc}
use mathlib.Core.Logic.{◌↔◌, ◌⊎◌, inl, inr, ⊎_elim}
use mathlib.Core.Bool.{Bool, true, false, not, ◌&&◌}
use Prim.Native.Nat.{ℕ, ◌+◌, ◌-◌, ◌*◌, ◌≤◌, ◌<◌}
use native.Mathlib.Omega.{arith}
use borrow.Author.Tests.{not-true, not-false}
use lib.ListN.{length, take, length-append}
use lib.Seq.{length-take-le, take-take, take_at}
use Rattle.bits.specs.Bits.{Bytes, value, bits, bits_of}
use Rattle.bits.proofs.Numbers.{length-bits, length-bits_of, value-append, value-back}
use Rattle.buffers.proofs.Tests.{cond_both}
use Rattle.crc.specs.Sealed.{body, is_sealed}
use Rattle.rules.specs.Layout.{legal_layout, frame_size}
use Rattle.rules.specs.Refusals.{Outcome, refused}
use Rattle.rules.specs.Reading.{Scanned, accepted, faulty, scan, strict}
use Rattle.rules.specs.Lent.{overwrite, no_codes, no_factors, no_side}
use Rattle.rules.specs.Reader.{ReaderLent, ReaderLeft, reader_has_room, scanned_left, read_frame}
use Rattle.rules.specs.declared.Layout.{Layout}
use Rattle.rules.proofs.Layouts.{legal_sizes}
use Rattle.rules_formats.proofs.Numbers.{eqb_case}
use Rattle.rules.proofs.Refused.{read_keeps, read_clears}
use Rattle.rules_demands.proofs.Demand3.{bytes_take}
use Rattle.rules_demands.proofs.Deliveries.{front_length}
use Rattle.rules_demands.proofs.Exactly.{number_of, beside_of, differ}
use Rattle.rules_demands.proofs.ReaderNumbers.{From, scan_no_sync, scan-sync}

-- ---- the sync in bytes

two_bytes : (x y : ℕ) (s : List Bool) → x < 256 → y < 256 → value (take 16 (bits 8 x ++ (bits 8 y ++ s))) ≡ x * 256 + y
two_bytes x y s h g =
    let long : length (bits 8 x ++ bits 8 y) ≡ 16 = length-append (bits 8 x) (bits 8 y) ∙ rw (length-bits 8 x, length-bits 8 y) in
    ap (λ r. value (take 16 r)) (sym (append_assoc (bits 8 x) (bits 8 y) s))
    ∙ ap value (take_at (bits 8 x ++ bits 8 y) s 16 long) ∙ value-append (bits 8 x) (bits 8 y) ∙ rw (value-back 8 x h, value-back 8 y g, length-bits 8 y)

-- the first 16 bits of bytes are FFFF just where the first two bytes are FF
sync-bytes : (g : List ℕ) → Bytes g → 2 ≤ length g → (value (take 16 (bits_of g)) ≡ 0xFFFF) ↔ (take 2 g ≡ 0xFF ∷ 0xFF ∷ [])
unfolding bits_of
sync-bytes [] b h = absurd (omega arith)
sync-bytes (x ∷ []) b h = absurd (omega arith)
sync-bytes (x ∷ y ∷ g) b h = (
  (λ e. let z : x * 256 + y ≡ 0xFFFF = sym (two_bytes x y (bits_of g) b.0 b.1.0) ∙ e in
      let p : x ≡ 0xFF = omega (arith, b.0, b.1.0) in let q : y ≡ 0xFF = omega (arith, b.0, b.1.0) in rw (p, q)),
  (λ e. let p : x ≡ 0xFF = cc in let q : y ≡ 0xFF = cc in two_bytes x y (bits_of g) b.0 b.1.0 ∙ rw (p, q)),
)

-- ---- THE READER

-- a scan's number, where it refuses from the level on
scanned_number : (l : Layout) (x : Scanned) → From 11 x → (n k : ℕ) → (scanned_left l x).outcome ≡ refused n k → (11 ≤ n) × (n ≤ 14)
unfolding scanned_left
scanned_number l (accepted r m) w n k e = let z : ◌≡◌ {A = ℕ} 0 1 = cc e in absurd (omega arith)
scanned_number l (faulty a b) w n k e = let z : a ≡ n = ap number_of e in rw z at w

module _ (l : Layout) (u : ReaderLent) where
  -- the F bytes that are looked at, and the bits before their check
  abbrev bytes_of : List ℕ
  bytes_of = take (frame_size l) u.frame

  abbrev sync : ℕ
  sync = value (take 16 (bits_of (body bytes_of)))

  body-long : legal_layout l ≡ true → reader_has_room l u ≡ true → length (body bytes_of) ≡ frame_size l - 2
  body-long a m = length-take-le (length bytes_of - 2) bytes_of (omega arith) ∙ ap (λ n. n - 2) (front_length l u m)

  bits-long : legal_layout l ≡ true → reader_has_room l u ≡ true → 16 ≤ length (bits_of (body bytes_of))
  bits-long a m = let z = legal_sizes l a in omega (arith, length-bits_of (body bytes_of), body-long a m, z.small)

  -- the answer is one of five
  judged : (P : Outcome → Type 0) → (legal_layout l ≡ false → P (refused 1 0)) → (legal_layout l ≡ true → reader_has_room l u ≡ false → P (refused 2 0))
      → (legal_layout l ≡ true → reader_has_room l u ≡ true → is_sealed bytes_of ≡ false → P (refused 8 0))
      → (legal_layout l ≡ true → reader_has_room l u ≡ true → is_sealed bytes_of ≡ true → (sync ≡ 0xFFFF → ⊥) → P (refused 9 0))
      → (legal_layout l ≡ true → reader_has_room l u ≡ true → (x : Scanned) → From 11 x → P (scanned_left l x).outcome) → P (read_frame l u).outcome
  unfolding read_frame strict scanned_left
  judged P one two eight nine rest =
      let Q : ReaderLeft → Type 0 = λ x. P x.outcome in
      let R : Scanned → Type 0 = λ x. P (scanned_left l x).outcome in
      cond_both Q (not (legal_layout l)) (λ a. one (not-true _ a))
      (λ a. cond_both Q (not (reader_has_room l u)) (λ m. two (not-false _ a) (not-true _ m))
      (λ m. cond_both R (is_sealed bytes_of)
      (λ c. eqb_case (λ _. R (scan l (bits_of (body bytes_of)))) sync 0xFFFF
      (λ e. rest (not-false _ a) (not-false _ m) (scan l (bits_of (body bytes_of)))
      (scan-sync l (bits_of (body bytes_of)) (bits-long (not-false _ a) (not-false _ m)) e))
      (λ e. rw (scan_no_sync l (bits_of (body bytes_of)) (bits-long (not-false _ a) (not-false _ m)) e) (nine (not-false _ a) (not-false _ m) c e)))
      (λ c. eight (not-false _ a) (not-false _ m) c)))

  later_differs : {A : Type 0} (n k : ℕ) → n ≤ 9 → legal_layout l ≡ true → reader_has_room l u ≡ true → (x : Scanned) → From 11 x → (scanned_left l x).outcome
      ≡ refused n k → A
  later_differs n k h _ _ x w e = absurd (omega (arith, scanned_number l x w n k e))

  -- Refusal 1: the layout is outside the limits.
  pub read_one_exactly : (p : ℕ) → ((read_frame l u).outcome ≡ refused 1 p) ↔ ((legal_layout l ≡ false) × (p ≡ 0))
  unfolding read_frame
  read_one_exactly p = (
    judged (λ o. o ≡ refused 1 p → (legal_layout l ≡ false) × (p ≡ 0)) (λ a e. (a, sym (ap beside_of e))) (λ _ _ e. differ e (λ z. omega arith))
        (λ _ _ _ e. differ e (λ z. omega arith)) (λ _ _ _ _ e. differ e (λ z. omega arith)) (later_differs 1 p (omega arith)),
    (λ x. rw (x.0, x.1)),
  )

  -- Refusal 2: a lent buffer is too short.
  pub read_two_exactly : (p : ℕ) → ((read_frame l u).outcome ≡ refused 2 p) ↔ ((legal_layout l ≡ true) × (reader_has_room l u ≡ false) × (p ≡ 0))
  unfolding read_frame
  read_two_exactly p = (
    judged (λ o. o ≡ refused 2 p → (legal_layout l ≡ true) × (reader_has_room l u ≡ false) × (p ≡ 0)) (λ _ e. differ e (λ z. omega arith))
        (λ a m e. (a, m, sym (ap beside_of e)))
        (λ _ _ _ e. differ e (λ z. omega arith)) (λ _ _ _ _ e. differ e (λ z. omega arith)) (later_differs 2 p (omega arith)),
    (λ x. let (a, m, q) = x in rw (a, m, q)),
  )

  -- Refusal 8: the check is wrong.
  pub eight_exactly : (p : ℕ) → ((read_frame l u).outcome ≡ refused 8 p)
      ↔ ((legal_layout l ≡ true) × (reader_has_room l u ≡ true) × (is_sealed (take (frame_size l) u.frame) ≡ false) × (p ≡ 0))
  unfolding read_frame strict scanned_left
  eight_exactly p = (
    judged (λ o. o ≡ refused 8 p → (legal_layout l ≡ true) × (reader_has_room l u ≡ true) × (is_sealed bytes_of ≡ false) × (p ≡ 0))
        (λ _ e. differ e (λ z. omega arith))
        (λ _ _ e. differ e (λ z. omega arith)) (λ a m c e. (a, m, c, sym (ap beside_of e))) (λ _ _ _ _ e. differ e (λ z. omega arith))
        (later_differs 8 p (omega arith)),
    (λ x. let (a, m, c, q) = x in rw (a, m, c, q)),
  )

  sync-lent : legal_layout l ≡ true → reader_has_room l u ≡ true → Bytes u.frame → (sync ≡ 0xFFFF) ↔ (take 2 u.frame ≡ 0xFF ∷ 0xFF ∷ [])
  sync-lent a m b =
      let z = legal_sizes l a in
      let front : take 2 (body bytes_of) ≡ take 2 u.frame =
      take-take 2 (length bytes_of - 2) bytes_of (omega (arith, front_length l u m, z.small)) ∙ take-take 2 (frame_size l) u.frame (omega (arith, z.small)) in
      rw front at (sync-bytes (body bytes_of) (bytes_take (length bytes_of - 2) bytes_of (bytes_take (frame_size l) u.frame b))
      (omega (arith, body-long a m, z.small)))

  -- Refusal 9: the check is right, and the sync is not FFFF.
  pub nine_exactly : (p : ℕ) → Bytes u.frame → ((read_frame l u).outcome ≡ refused 9 p)
      ↔ ((legal_layout l ≡ true) × (reader_has_room l u ≡ true) × (is_sealed (take (frame_size l) u.frame) ≡ true) × (take 2 u.frame ≡ 0xFF ∷ 0xFF ∷ [] → ⊥)
      × (p ≡ 0))
  unfolding read_frame strict scanned_left
  nine_exactly p b = (
    judged (λ o. o ≡ refused 9 p → (legal_layout l ≡ true) × (reader_has_room l u ≡ true) × (is_sealed bytes_of ≡ true) × (take 2 u.frame ≡ 0xFF ∷ 0xFF ∷ [] → ⊥)
        × (p ≡ 0))
        (λ _ e. differ e (λ z. omega arith)) (λ _ _ e. differ e (λ z. omega arith)) (λ _ _ _ e. differ e (λ z. omega arith))
        (λ a m c h e. (a, m, c, (λ f. h ((sync-lent a m b).1 f)), sym (ap beside_of e))) (later_differs 9 p (omega arith)),
    (λ x. let (a, m, c, h, q) = x in rw (a, m, c, scan_no_sync l (bits_of (body bytes_of)) (bits-long a m) (λ e. h ((sync-lent a m b).0 e)), q)),
  )

  -- Every refusal is 1, 2, 8, 9 or one of 11 to 14.
  pub read_numbers : (n k : ℕ) → (read_frame l u).outcome ≡ refused n k → (n ≡ 1) ⊎ ((n ≡ 2) ⊎ ((8 ≤ n) × (n ≤ 14) × (n ≡ 10 → ⊥)))
  read_numbers n k =
      judged (λ o. o ≡ refused n k → (n ≡ 1) ⊎ ((n ≡ 2) ⊎ ((8 ≤ n) × (n ≤ 14) × (n ≡ 10 → ⊥)))) (λ _ e. inl (sym (ap number_of e)))
      (λ _ _ e. inr (inl (sym (ap number_of e))))
      (λ _ _ _ e. let z = ap number_of e in inr (inr (omega arith, omega arith, λ q. omega arith)))
      (λ _ _ _ _ e. let z = ap number_of e in inr (inr (omega arith, omega arith, λ q. omega arith)))
      (λ _ _ x w e. let (h, g) = scanned_number l x w n k e in inr (inr (omega arith, g, λ q. omega arith)))

  -- 1 and 2 keep every buffer; 8 to 14 clear the stated lengths of all three.
  pub read_leaves : (n k : ℕ) → (read_frame l u).outcome ≡ refused n k
      → (n ≤ 2 → ((read_frame l u).factors ≡ u.factors) × ((read_frame l u).side ≡ u.side) × ((read_frame l u).codes ≡ u.codes))
      × (8 ≤ n → ((read_frame l u).factors ≡ overwrite (no_factors l) u.factors) × ((read_frame l u).side ≡ overwrite (no_side l) u.side)
      × ((read_frame l u).codes ≡ overwrite (no_codes l) u.codes))
  read_leaves n k e = ((λ h. read_keeps l u (shut e h)), (λ h. let (a, m) = entered e h in read_clears l u a m n k e))
    where
      shut : (read_frame l u).outcome ≡ refused n k → n ≤ 2 → (legal_layout l && reader_has_room l u) ≡ false
      shut =
          judged (λ o. o ≡ refused n k → n ≤ 2 → (legal_layout l && reader_has_room l u) ≡ false) (λ a _ _. rw a) (λ a m _ _. rw (a, m))
          (λ _ _ _ e h. differ e (λ z. omega arith)) (λ _ _ _ _ e h. differ e (λ z. omega arith))
          (λ _ _ x w e h. absurd (omega (arith, scanned_number l x w n k e)))

      entered : (read_frame l u).outcome ≡ refused n k → 8 ≤ n → (legal_layout l ≡ true) × (reader_has_room l u ≡ true)
      entered =
          judged (λ o. o ≡ refused n k → 8 ≤ n → (legal_layout l ≡ true) × (reader_has_room l u ≡ true)) (λ _ e h. differ e (λ z. omega arith))
          (λ _ _ e h. differ e (λ z. omega arith))
          (λ a m _ _ _. (a, m)) (λ a m _ _ _ _. (a, m)) (λ a m _ _ _ _. (a, m))

  -- no refusal has the number 0
  pub read_number : (n k : ℕ) → (read_frame l u).outcome ≡ refused n k → 0 < n
  read_number n k e = ⊎_elim (λ (z : n ≡ 1). omega arith)
      (λ x. ⊎_elim (λ (z : n ≡ 2). omega arith) (λ (z : (8 ≤ n) × (n ≤ 14) × (n ≡ 10 → ⊥)). omega (arith, z.0)) x) (read_numbers n k e)
