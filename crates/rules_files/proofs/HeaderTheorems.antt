-- Request A1: what holds of the file header and of its writer's call. Assumes nothing.
use mathlib.Core.Path.{◌≡◌, refl, sym, ap, ◌∙◌}
use mathlib.Core.List.{List, [], ◌∷◌, map}
use mathlib.Core.Logic.{◌↔◌}
use mathlib.Core.Bool.{Bool, true, false, not, ◌&&◌}
use Prim.Native.Nat.{ℕ, ◌+◌, ◌-◌, ◌*◌, ◌%◌, ◌≤◌, ◌<◌}
use native.Mathlib.Omega.{arith}
use borrow.Author.Tests.{not-true, not-false, ltb-true, ltb-false, lt-ltb, le-ltb, eqb-true, eqb-false, eq-eqb}
use lib.Dec.{leb, ltb, eqb}
use lib.ListN.{length, get_or, replicate}
use Rattle.std.specs.Prelude.{Option, Some, None, Result, Ok, Err}
use Rattle.bits.specs.Bits.{Bytes}
use Rattle.bits.proofs.Parts.{bytes-all, bytes_at_lem}
use Rattle.buffers.specs.Walk.{build}
use Rattle.buffers.proofs.Build.{length-build}
use Rattle.buffers.proofs.Most.{build-most}
use Rattle.buffers.proofs.Tests.{cond_both, cond_bound}
use Rattle.crc.specs.Sealed.{is_sealed}
use Rattle.crc.proofs.Sealed.{length-sealed, is_sealed-sealed, bytes-sealed}
use Rattle.numbers.proofs.HighFirst.{high-bytes}
use Rattle.rules.specs.Layout.{legal_layout}
use Rattle.rules.specs.Lent.{overwrite}
use Rattle.rules.specs.Refusals.{Outcome, delivered, refused}
use Rattle.rules.specs.declared.Layout.{Layout}
use Rattle.rules.proofs.Answers.{never, Numbered, numbered, unnumbered}
use Rattle.rules_files.specs.declared.header.LoopPoints.{LoopPoints}
use Rattle.rules_files.specs.declared.header.LoopFields.{LoopFields}
use Rattle.rules_files.specs.declared.header.Stream.{Stream}
use Rattle.rules_files.specs.declared.header.HeaderRefusal.{HeaderRefusal}
use Rattle.rules_files.specs.declared.header.HeaderRefusal.TheVariants as why
use Rattle.rules_files.specs.FileHeader.{Piece, covers, piece_bytes, byte_of, pieces, pieces_with, loop_pieces, after_loop, header_byte, header_of}
use Rattle.rules_files.specs.FileHeader.{loop_fields, channel_mapping, valid_mappings, channel_config, fits_header, HeaderFits}
use Rattle.rules_files.specs.FileHeader.{header_outcome, HeaderLeft, header_left, write_header}
use Rattle.rules_files.proofs.HeaderFitting.{fits_true, fits_false}

-- ---- the bytes

byte_of-most : (ps : List Piece) (i blank : ℕ) → blank ≤ 255 → byte_of ps i blank ≤ 255
unfolding byte_of
byte_of-most [] i b h = h
byte_of-most (p ∷ ps) i b h =
    byte_of-most ps i _ (cond_bound (covers p i) (λ _. omega (arith, bytes_at_lem (piece_bytes p) (high-bytes p.width p.value) (i - p.offset))) (λ _. h))

module _ (l : Layout) (st : Stream) where
  -- 96 bytes, of which the last two are the check of the 94 before them
  pub header-bytes : (length (header_of l st) ≡ 96) × Bytes (header_of l st) × (is_sealed (header_of l st) ≡ true)
  unfolding header_of
  header-bytes =
      let m : List ℕ = build (header_byte l st) 94 in
      let e : length m ≡ 94 = length-build (header_byte l st) 94 in
      let b : Bytes m = bytes-all m (λ k. omega (arith, build-most 255 (header_byte l st) (λ i. byte_of-most (pieces l st) i 0 (omega arith)) 94 k)) in
      (omega (arith, length-sealed m), bytes-sealed m b, is_sealed-sealed m)

-- each piece ends where the next begins, or before
unfoldable pub apart : (ps : List Piece) → Bool
apart [] = true
apart (p ∷ []) = true
apart (p ∷ q ∷ ps) = leb (p.offset + p.width) q.offset && apart (q ∷ ps)

-- no two pieces overlap, with a loop and without
pub pieces-apart : (l : Layout) (st : Stream) → apart (pieces l st) ≡ true
unfolding pieces apart loop_pieces after_loop
pieces-apart l st = by_points st.points
  where
    by_points : (p : Option LoopPoints) → apart (pieces_with l st p) ≡ true
    by_points None = refl
    by_points (Some p) = refl

-- ---- the channel configuration

abbrev pub one_to_eight : List ℕ
one_to_eight = 1 ∷ 2 ∷ 3 ∷ 4 ∷ 5 ∷ 6 ∷ 7 ∷ 8 ∷ []

-- is a configuration valid by the Rust's second table?
abbrev pub valid_config : (channels config : ℕ) → ℕ
valid_config channels config = get_or (get_or valid_mappings (channels - 1) []) config 0

-- the Rust's first table gives these to 1 to 8 channels, and each is valid
pub config_valid : (map channel_config one_to_eight ≡ 1 ∷ 0 ∷ 4 ∷ 0 ∷ 1 ∷ 3 ∷ 7 ∷ 3 ∷ [])
    × (map (λ c. valid_config c (channel_config c)) one_to_eight ≡ replicate 8 1)
unfolding channel_mapping valid_mappings
config_valid = (refl, refl)

-- ---- the loop

module _ (start end : ℕ) where
  abbrev pub f : LoopFields
  f = loop_fields start end

  -- the header's four numbers say where the points are, after the shift
  pub record LoopMoved : Type 0 where
    pub begins : 1024 * f.start_frame + f.delay ≡ start + 128
    pub ends : 1024 * (f.end_frame + 1) - f.padding ≡ end + 128
    pub delay : f.delay < 1024
    pub padding : f.padding < 1024

  pub loop_moved : LoopMoved
  unfolding loop_fields
  loop_moved = by_edge (eqb ((end + 128) % 1024) 0) refl
    where
      by_edge : (b : Bool) → eqb ((end + 128) % 1024) 0 ≡ b → LoopMoved
      by_edge true e =
          let z : (end + 128) % 1024 ≡ 0 = eqb-true _ _ e in
          record { begins = omega arith; ends = rw e (omega arith); delay = omega arith; padding = rw e (omega arith) }
      by_edge false e =
          let z : (end + 128) % 1024 ≡ 0 → ⊥ = eqb-false _ _ e in
          record { begins = omega arith; ends = rw e (omega arith); delay = omega arith; padding = rw e (omega arith) }

  -- a loop end on a frame's edge belongs to the frame before, with padding 0
  pub loop_edge : (k : ℕ) → end + 128 ≡ 1024 * (k + 1) → (f.end_frame ≡ k) × (f.padding ≡ 0)
  unfolding loop_fields
  loop_edge k e =
      let z : (end + 128) % 1024 ≡ 0 = omega arith in
      let t : eqb ((end + 128) % 1024) 0 ≡ true = eq-eqb _ _ z in
      (rw t (omega arith), rw t)

-- ---- the call

other : {A : Type 0} {a b n k : ℕ} → refused a b ≡ refused n k → eqb a n ≡ false → A
other {A} {a} {b} {n} {k} e d = let z : a ≡ n = cc e in absurd (eqb-false a n d z)

clash : {A : Type 0} → false ≡ true → A
clash q = let z : ◌≡◌ {A = ℕ} 0 1 = cc in absurd (omega arith)

module _ (l : Layout) (st : Stream) (h : List ℕ) where
  -- what each end has, every end has
  pub header_case : (P : HeaderLeft → Type 0)
      → (legal_layout l ≡ false → P (record { outcome = refused 1 0; header = h }))
      → (legal_layout l ≡ true → length h < 96 → P (record { outcome = refused 2 0; header = h }))
      → (legal_layout l ≡ true → 96 ≤ length h → fits_header l st ≡ false → P (record { outcome = refused 16 0; header = h }))
      → (legal_layout l ≡ true → 96 ≤ length h → fits_header l st ≡ true → P (record { outcome = delivered []; header = overwrite (header_of l st) h }))
      → P (write_header l st h)
  unfolding write_header
  header_case P one two sixteen done =
      cond_both P (not (legal_layout l)) (λ a. one (not-true _ a))
      (λ a. cond_both P (ltb (length h) 96) (λ b. two (not-false _ a) (ltb-true _ _ b))
      (λ b. cond_both P (not (fits_header l st)) (λ c. sixteen (not-false _ a) (ltb-false _ _ b) (not-true _ c))
      (λ c. done (not-false _ a) (ltb-false _ _ b) (not-false _ c))))

  -- a refusal is 1, 2 or 16
  pub header-numbers : Numbered (1 ∷ 2 ∷ 16 ∷ []) (write_header l st h).outcome
  header-numbers =
      header_case (λ x. Numbered (1 ∷ 2 ∷ 16 ∷ []) x.outcome) (λ _. numbered (1 ∷ 2 ∷ 16 ∷ []) 1 0 tt) (λ _ _. numbered (1 ∷ 2 ∷ 16 ∷ []) 2 0 tt)
      (λ _ _ _. numbered (1 ∷ 2 ∷ 16 ∷ []) 16 0 tt) (λ _ _ _. unnumbered (1 ∷ 2 ∷ 16 ∷ []) [])

  -- and leaves the buffer, 0 beside it
  pub header_refused : (n k : ℕ) → (write_header l st h).outcome ≡ refused n k → (k ≡ 0) × ((write_header l st h).header ≡ h)
  header_refused =
      header_case (λ x. (n k : ℕ) → x.outcome ≡ refused n k → (k ≡ 0) × (x.header ≡ h)) (λ _ n k e. (cc e, refl)) (λ _ _ n k e. (cc e, refl))
      (λ _ _ _ n k e. (cc e, refl)) (λ _ _ _ n k e. never e)

  -- 1 exactly where the layout is outside the limits
  pub header_one_exactly : ((write_header l st h).outcome ≡ refused 1 0) ↔ (legal_layout l ≡ false)
  unfolding write_header
  header_one_exactly = (
    header_case (λ x. x.outcome ≡ refused 1 0 → legal_layout l ≡ false) (λ a _. a) (λ _ _ e. other e refl) (λ _ _ _ e. other e refl) (λ _ _ _ e. never e),
    (λ a. rw a),
  )

  -- 2 exactly where it is legal and the buffer is short
  pub header_two_exactly : ((write_header l st h).outcome ≡ refused 2 0) ↔ ((legal_layout l ≡ true) × (length h < 96))
  unfolding write_header
  header_two_exactly = (
    header_case (λ x. x.outcome ≡ refused 2 0 → (legal_layout l ≡ true) × (length h < 96)) (λ _ e. other e refl) (λ a b _. (a, b)) (λ _ _ _ e. other e refl)
        (λ _ _ _ e. never e),
    (λ x. rw (x.0, lt-ltb _ _ x.1)),
  )

  -- 16 exactly where both are right and a number does not fit
  pub header_sixteen_exactly : ((write_header l st h).outcome ≡ refused 16 0) ↔ ((legal_layout l ≡ true) × (96 ≤ length h) × (HeaderFits l st → ⊥))
  unfolding write_header
  header_sixteen_exactly = (
    header_case (λ x. x.outcome ≡ refused 16 0 → (legal_layout l ≡ true) × (96 ≤ length h) × (HeaderFits l st → ⊥))
        (λ _ e. other e refl) (λ _ _ e. other e refl)
        (λ a b c _. (a, b, (λ y. clash (sym c ∙ fits_true l st y)))) (λ _ _ _ e. never e),
    (λ x. rw (x.0, le-ltb _ _ x.1, fits_false l st x.2)),
  )

-- two outcomes that the contract allows coincide
header_answer : Outcome → Result (Unit {0}) HeaderRefusal
header_answer (delivered xs) = Ok tt
header_answer (refused n k) = Err (get_or (why.BadLayout ∷ why.ShortBuffer ∷ []) (n - 1) why.BadHeader)

header-said : (a : Result (Unit {0}) HeaderRefusal) → header_answer (header_outcome a) ≡ a
unfolding header_answer header_outcome
header-said (Ok x) = refl
header-said (Err why.BadLayout) = refl
header-said (Err why.ShortBuffer) = refl
header-said (Err why.BadHeader) = refl

pub header_once : (l : Layout) (st : Stream) (h g g' : List ℕ) (a b : Result (Unit {0}) HeaderRefusal)
    → header_left a g ≡ write_header l st h → header_left b g' ≡ write_header l st h → (a ≡ b) × (g ≡ g')
header_once l st h g g' a b p q =
    let z : header_left a g ≡ header_left b g' = p ∙ sym q in
    (sym (header-said a) ∙ ap (λ (x : HeaderLeft). header_answer x.outcome) z ∙ header-said b, ap (λ (x : HeaderLeft). x.header) z)
