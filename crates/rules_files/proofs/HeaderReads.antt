-- Request A14: the numbers of the reader's refusals, each exactly where those before it do not come and its own pass fails. Assumes nothing.
use mathlib.Core.Path.{◌≡◌, refl, sym, ◌∙◌}
use mathlib.Core.List.{List, [], ◌∷◌}
use mathlib.Core.Logic.{◌↔◌}
use mathlib.Core.Bool.{true, false, not}
use Prim.Native.Nat.{ℕ, ◌≤◌, ◌<◌}
use borrow.Author.Tests.{not-true, not-false, ltb-true, ltb-false, lt-ltb, le-ltb, eqb-false}
use lib.Dec.{eqb, ltb}
use lib.ListN.{length, take}
use Rattle.std.specs.Prelude.{Result, Ok, Err}
use Rattle.buffers.proofs.Tests.{cond_both}
use Rattle.crc.specs.Sealed.{is_sealed}
use Rattle.rules.specs.Refusals.{Outcome, refused}
use Rattle.rules.proofs.Answers.{never, Numbered, numbered, unnumbered}
use Rattle.rules_files.specs.declared.header.FileHeader.{FileHeader}
use Rattle.rules_files.specs.declared.header.HeaderReadRefusal.{HeaderReadRefusal}
use Rattle.rules_files.specs.declared.header.HeaderReadRefusal.TheVariants as why
use Rattle.rules_files.specs.HeaderReading.{names_right, fields_right, rest_zero, fields_of, exact_read, read_header, header_read_outcome, header_layout}

other : {A : Type 0} {a b n k : ℕ} → refused a b ≡ refused n k → eqb a n ≡ false → A
other {A} {a} {b} {n} {k} e d = let z : a ≡ n = cc e in absurd (eqb-false a n d z)

-- what each end has, every end has
pub exact_case : (h : List ℕ) (P : Result FileHeader HeaderReadRefusal → Type 0)
    → (is_sealed h ≡ false → P (Err why.WrongCheck))
    → (is_sealed h ≡ true → names_right h ≡ false → P (Err why.WrongName))
    → (is_sealed h ≡ true → names_right h ≡ true → fields_right h ≡ false → P (Err why.BadField))
    → (is_sealed h ≡ true → names_right h ≡ true → fields_right h ≡ true → rest_zero h ≡ false → P (Err why.NotZero))
    → (is_sealed h ≡ true → names_right h ≡ true → fields_right h ≡ true → rest_zero h ≡ true → P (Ok (fields_of h)))
    → P (exact_read h)
unfolding exact_read
exact_case h P check name field zero done =
    cond_both P (not (is_sealed h)) (λ a. check (not-true _ a))
    (λ a. cond_both P (not (names_right h)) (λ c. name (not-false _ a) (not-true _ c))
    (λ c. cond_both P (not (fields_right h)) (λ d. field (not-false _ a) (not-false _ c) (not-true _ d))
    (λ d. cond_both P (not (rest_zero h)) (λ e. zero (not-false _ a) (not-false _ c) (not-false _ d) (not-true _ e))
    (λ e. done (not-false _ a) (not-false _ c) (not-false _ d) (not-false _ e)))))

module _ (h : List ℕ) where
  abbrev pub outcome : Outcome
  outcome = header_read_outcome (read_header h)

  abbrev pub front : List ℕ
  front = take 96 h

  -- what each end has, every end has
  pub read_case : (P : Result FileHeader HeaderReadRefusal → Type 0) → (length h < 96 → P (Err why.ShortBuffer))
      → (96 ≤ length h → is_sealed front ≡ false → P (Err why.WrongCheck))
      → (96 ≤ length h → is_sealed front ≡ true → names_right front ≡ false → P (Err why.WrongName))
      → (96 ≤ length h → is_sealed front ≡ true → names_right front ≡ true → fields_right front ≡ false → P (Err why.BadField))
      → (96 ≤ length h → is_sealed front ≡ true → names_right front ≡ true → fields_right front ≡ true → rest_zero front ≡ false → P (Err why.NotZero))
      → (96 ≤ length h → is_sealed front ≡ true → names_right front ≡ true → fields_right front ≡ true → rest_zero front ≡ true
      → P (Ok (fields_of front)))
      → P (read_header h)
  unfolding read_header
  read_case P short check name field zero done =
      cond_both P (ltb (length h) 96) (λ k. short (ltb-true _ _ k))
      (λ k. let n : 96 ≤ length h = ltb-false _ _ k in exact_case front P (check n) (name n) (field n) (zero n) (done n))

  -- no other number comes, and 0 stands beside each
  pub header_read_numbers : Numbered (2 ∷ 26 ∷ 27 ∷ 28 ∷ 29 ∷ []) outcome
  unfolding header_read_outcome
  header_read_numbers =
      read_case (λ a. Numbered (2 ∷ 26 ∷ 27 ∷ 28 ∷ 29 ∷ []) (header_read_outcome a))
      (λ _. numbered (2 ∷ 26 ∷ 27 ∷ 28 ∷ 29 ∷ []) 2 0 tt) (λ _ _. numbered (2 ∷ 26 ∷ 27 ∷ 28 ∷ 29 ∷ []) 26 0 tt)
      (λ _ _ _. numbered (2 ∷ 26 ∷ 27 ∷ 28 ∷ 29 ∷ []) 27 0 tt) (λ _ _ _ _. numbered (2 ∷ 26 ∷ 27 ∷ 28 ∷ 29 ∷ []) 28 0 tt)
      (λ _ _ _ _ _. numbered (2 ∷ 26 ∷ 27 ∷ 28 ∷ 29 ∷ []) 29 0 tt) (λ _ _ _ _ _. unnumbered (2 ∷ 26 ∷ 27 ∷ 28 ∷ 29 ∷ []) _)

  -- beside a refusal stands 0, and no layout is handed out
  pub header_read_refused : (n k : ℕ) → outcome ≡ refused n k → (k ≡ 0) × (header_layout (read_header h) ≡ [])
  unfolding header_read_outcome header_layout
  header_read_refused =
      read_case (λ a. (n k : ℕ) → header_read_outcome a ≡ refused n k → (k ≡ 0) × (header_layout a ≡ []))
      (λ _ n k e. (cc e, refl)) (λ _ _ n k e. (cc e, refl)) (λ _ _ _ n k e. (cc e, refl)) (λ _ _ _ _ n k e. (cc e, refl))
      (λ _ _ _ _ _ n k e. (cc e, refl)) (λ _ _ _ _ _ n k e. never e)

  -- 2 exactly where there are under 96 bytes
  pub header_read_two_exactly : (outcome ≡ refused 2 0) ↔ (length h < 96)
  unfolding header_read_outcome read_header
  header_read_two_exactly = (
    read_case (λ a. header_read_outcome a ≡ refused 2 0 → length h < 96)
        (λ k _. k) (λ _ _ e. other e refl) (λ _ _ _ e. other e refl) (λ _ _ _ _ e. other e refl) (λ _ _ _ _ _ e. other e refl) (λ _ _ _ _ _ e. never e),
    (λ k. rw (lt-ltb _ _ k)),
  )

  -- 26 exactly where there are 96 and the check is wrong
  pub header_read_twenty_six_exactly : (outcome ≡ refused 26 0) ↔ ((96 ≤ length h) × (is_sealed front ≡ false))
  unfolding header_read_outcome read_header exact_read
  header_read_twenty_six_exactly = (
    read_case (λ a. header_read_outcome a ≡ refused 26 0 → (96 ≤ length h) × (is_sealed front ≡ false))
        (λ _ e. other e refl) (λ n a _. (n, a)) (λ _ _ _ e. other e refl) (λ _ _ _ _ e. other e refl) (λ _ _ _ _ _ e. other e refl) (λ _ _ _ _ _ e. never e),
    (λ x. rw (le-ltb _ _ x.0, x.1)),
  )

  -- 27 exactly where the check is right and a name or the version is wrong
  pub header_read_twenty_seven_exactly : (outcome ≡ refused 27 0) ↔ ((96 ≤ length h) × (is_sealed front ≡ true) × (names_right front ≡ false))
  unfolding header_read_outcome read_header exact_read
  header_read_twenty_seven_exactly = (
    read_case (λ a. header_read_outcome a ≡ refused 27 0 → (96 ≤ length h) × (is_sealed front ≡ true) × (names_right front ≡ false))
        (λ _ e. other e refl) (λ _ _ e. other e refl) (λ n a b _. (n, a, b)) (λ _ _ _ _ e. other e refl) (λ _ _ _ _ _ e. other e refl)
        (λ _ _ _ _ _ e. never e),
    (λ x. rw (le-ltb _ _ x.0, x.1, x.2)),
  )

  -- 28 exactly where these are right and a field is wrong
  pub header_read_twenty_eight_exactly : (outcome ≡ refused 28 0)
      ↔ ((96 ≤ length h) × (is_sealed front ≡ true) × (names_right front ≡ true) × (fields_right front ≡ false))
  unfolding header_read_outcome read_header exact_read
  header_read_twenty_eight_exactly = (
    read_case (λ a. header_read_outcome a ≡ refused 28 0 → (96 ≤ length h) × (is_sealed front ≡ true) × (names_right front ≡ true) × (fields_right front ≡ false))
        (λ _ e. other e refl) (λ _ _ e. other e refl) (λ _ _ _ e. other e refl) (λ n a b c _. (n, a, b, c)) (λ _ _ _ _ _ e. other e refl)
        (λ _ _ _ _ _ e. never e),
    (λ x. rw (le-ltb _ _ x.0, x.1, x.2, x.3)),
  )

  -- 29 exactly where all these are right and a byte of the rest is not 0
  pub header_read_twenty_nine_exactly : (outcome ≡ refused 29 0)
      ↔ ((96 ≤ length h) × (is_sealed front ≡ true) × (names_right front ≡ true) × (fields_right front ≡ true) × (rest_zero front ≡ false))
  unfolding header_read_outcome read_header exact_read
  header_read_twenty_nine_exactly = (
    read_case (λ a. header_read_outcome a ≡ refused 29 0
        → (96 ≤ length h) × (is_sealed front ≡ true) × (names_right front ≡ true) × (fields_right front ≡ true) × (rest_zero front ≡ false))
        (λ _ e. other e refl) (λ _ _ e. other e refl) (λ _ _ _ e. other e refl) (λ _ _ _ _ e. other e refl) (λ n a b c d _. (n, a, b, c, d))
        (λ _ _ _ _ _ e. never e),
    (λ x. rw (le-ltb _ _ x.0, x.1, x.2, x.3, x.4)),
  )

-- two outcomes that the contract allows coincide
pub header_read_once : (h : List ℕ) (a b : Result FileHeader HeaderReadRefusal) → a ≡ read_header h → b ≡ read_header h → a ≡ b
header_read_once h a b p q = p ∙ sym q
