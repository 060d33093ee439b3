-- What is told of a header that was read, by its answer and by the place where the call left. Assumes nothing.
use mathlib.Core.Path.{◌≡◌, refl, sym, ap, ◌∙◌, subst}
use mathlib.Core.List.{List, [], ◌∷◌}
use Prim.Native.Nat.{ℕ, ◌≤◌, ◌<◌}
use native.Mathlib.Omega.{arith}
use borrow.Author.Tests.{lt-ltb, le-ltb}
use lib.ListN.{length, set}
use Rattle.std.specs.Prelude.{Option, Some, None, Result, Ok, Err, unwrap_or}
use Rattle.rules.specs.Lent.{overwrite}
use Rattle.rules.specs.Refusals.{delivered, refused}
use Rattle.rules_files.specs.HeaderReading.{loop_numbers, stream_numbers, read_header, header_read_outcome, header_layout}
use Rattle.rules_files.specs.HeaderReadFits.{LoopWords, LoopFits, FieldsFit, ReadFits}
use Rattle.rules_files.specs.declared.header.FileHeader.{FileHeader}
use Rattle.rules_files.specs.declared.header.HeaderReadRefusal.{HeaderReadRefusal}
use Rattle.rules_files.specs.declared.header.HeaderReadRefusal.TheVariants as why
use Rattle.rules_files.specs.declared.header.LoopFields.{LoopFields}
use Rattle.refusals.specs.Refusals.{refusal_of}
use Rattle.refusals.specs.declared.Refusal.{Refusal}
use Rattle.hca_answers.specs.Outcomes.{numbers_of, answer_after, AnswerStored}
use Rattle.hca_files.specs.ReadHeader.{c_header_read_left, c_header_read_from, c_read_header, loop_flag, loop_or}

-- ---- places

pub over_seven : (xs : List ℕ) (a b c d e f g : ℕ) → 7 ≤ length xs
    → set (set (set (set (set (set (set xs 0 a) 1 b) 2 c) 3 d) 4 e) 5 f) 6 g ≡ overwrite (a ∷ b ∷ c ∷ d ∷ e ∷ f ∷ g ∷ []) xs
over_seven [] a b c d e f g h = absurd (omega arith)
over_seven (x₁ ∷ []) a b c d e f g h = absurd (omega arith)
over_seven (x₁ ∷ x₂ ∷ []) a b c d e f g h = absurd (omega arith)
over_seven (x₁ ∷ x₂ ∷ x₃ ∷ []) a b c d e f g h = absurd (omega arith)
over_seven (x₁ ∷ x₂ ∷ x₃ ∷ x₄ ∷ []) a b c d e f g h = absurd (omega arith)
over_seven (x₁ ∷ x₂ ∷ x₃ ∷ x₄ ∷ x₅ ∷ []) a b c d e f g h = absurd (omega arith)
over_seven (x₁ ∷ x₂ ∷ x₃ ∷ x₄ ∷ x₅ ∷ x₆ ∷ []) a b c d e f g h = absurd (omega arith)
over_seven (x₁ ∷ x₂ ∷ x₃ ∷ x₄ ∷ x₅ ∷ x₆ ∷ x₇ ∷ xs) a b c d e f g h = refl

pub over_eight : (xs : List ℕ) (a b c d e f g h : ℕ) → 8 ≤ length xs
    → set (set (set (set (set (set (set (set xs 0 a) 1 b) 2 c) 3 d) 4 e) 5 f) 6 g) 7 h ≡ overwrite (a ∷ b ∷ c ∷ d ∷ e ∷ f ∷ g ∷ h ∷ []) xs
over_eight [] a b c d e f g h k = absurd (omega arith)
over_eight (x₁ ∷ []) a b c d e f g h k = absurd (omega arith)
over_eight (x₁ ∷ x₂ ∷ []) a b c d e f g h k = absurd (omega arith)
over_eight (x₁ ∷ x₂ ∷ x₃ ∷ []) a b c d e f g h k = absurd (omega arith)
over_eight (x₁ ∷ x₂ ∷ x₃ ∷ x₄ ∷ []) a b c d e f g h k = absurd (omega arith)
over_eight (x₁ ∷ x₂ ∷ x₃ ∷ x₄ ∷ x₅ ∷ []) a b c d e f g h k = absurd (omega arith)
over_eight (x₁ ∷ x₂ ∷ x₃ ∷ x₄ ∷ x₅ ∷ x₆ ∷ []) a b c d e f g h k = absurd (omega arith)
over_eight (x₁ ∷ x₂ ∷ x₃ ∷ x₄ ∷ x₅ ∷ x₆ ∷ x₇ ∷ []) a b c d e f g h k = absurd (omega arith)
over_eight (x₁ ∷ x₂ ∷ x₃ ∷ x₄ ∷ x₅ ∷ x₆ ∷ x₇ ∷ x₈ ∷ xs) a b c d e f g h k = refl

-- ---- a loop's numbers

pub loop_numbers_lem : (loop : Option LoopFields)
    → loop_flag loop ∷ (loop_or loop).start_frame ∷ (loop_or loop).delay ∷ (loop_or loop).end_frame ∷ (loop_or loop).padding ∷ []
    ≡ loop_numbers loop
unfolding loop_flag loop_or loop_numbers
loop_numbers_lem None = refl
loop_numbers_lem (Some f) = refl

abbrev no_numbers : LoopFields
no_numbers = record { start_frame = 0; end_frame = 0; delay = 0; padding = 0 }

pub loop_given : (loop : Option LoopFields) → LoopFits loop → (unwrap_or loop no_numbers ≡ loop_or loop) × LoopWords (unwrap_or loop no_numbers)
unfolding loop_or LoopFits
loop_given None h = (refl, record { first = omega arith; last = omega arith; delay = omega arith; padding = omega arith })
loop_given (Some f) h = (refl, h)

pub header-stored : (f : FileHeader) (xs : List ℕ) (n : LoopFields) (flag : ℕ) → 8 ≤ length xs → n ≡ loop_or f.points → flag ≡ loop_flag f.points
    → set (set (set (set (set (set (set (set xs 0 f.rate) 1 f.frames) 2 f.padding) 3 flag) 4 n.start_frame) 5 n.delay) 6 n.end_frame) 7
    n.padding
    ≡ answer_after (delivered (stream_numbers f)) xs
unfolding answer_after numbers_of
header-stored f xs n flag k p q =
    let l : 4 ≤ length xs = omega arith in
    over_eight xs _ _ _ _ _ _ _ _ k
    ∙ rw (le-ltb _ _ l, p, q)
    (ap (λ (ns : List ℕ). overwrite (f.rate ∷ f.frames ∷ f.padding ∷ ns) xs) (loop_numbers_lem f.points))

-- ---- a refusal

-- its number is small, 0 stands beside it, and it has no layout
record Refuses (e : HeaderReadRefusal) : Type 0 where
  pub number : ℕ
  pub small : number ≤ 29
  pub outcome : header_read_outcome (Err e) ≡ refused number 0

header-refuses : (e : HeaderReadRefusal) → Refuses e
unfolding header_read_outcome
header-refuses why.ShortBuffer = record { number = 2; small = omega arith; outcome = refl }
header-refuses why.WrongCheck = record { number = 26; small = omega arith; outcome = refl }
header-refuses why.WrongName = record { number = 27; small = omega arith; outcome = refl }
header-refuses why.BadField = record { number = 28; small = omega arith; outcome = refl }
header-refuses why.NotZero = record { number = 29; small = omega arith; outcome = refl }

module _ (e : HeaderReadRefusal) (r : Refusal) (is : r ≡ refusal_of (header_read_outcome (Err e))) where
  same : r ≡ record { number = (header-refuses e).number; beside = 0 }
  unfolding refusal_of
  same = is ∙ ap refusal_of (header-refuses e).outcome

  pub refusal-fits : (r.number < 4294967296) × (r.beside < 4294967296)
  refusal-fits = let w = header-refuses e in rw same (omega (arith, w.small), omega arith)

  pub refusal-stored : (result : ℕ) (before after layout : List ℕ) → AnswerStored (refused r.number r.beside) result before after
      → (layout ≡ overwrite (header_layout (Err e)) layout) × AnswerStored (header_read_outcome (Err e)) result before after
  unfolding header_layout
  refusal-stored result before after layout t =
      let w = header-refuses e in
      (refl, rw w.outcome (subst (λ (x : Refusal). AnswerStored (refused x.number x.beside) result before after) same t))

-- ---- by its variant

pub read_fits : (a : Result FileHeader HeaderReadRefusal) (f : FileHeader) → a ≡ Ok f → ReadFits a → FieldsFit f
unfolding ReadFits
read_fits a f e h = subst ReadFits e h

pub read_stored : (a b : Result FileHeader HeaderReadRefusal) → a ≡ b → (result : ℕ) (before after layout laid_out : List ℕ)
    → (laid_out ≡ overwrite (header_layout b) layout) × AnswerStored (header_read_outcome b) result before after
    → (laid_out ≡ overwrite (header_layout a) layout) × AnswerStored (header_read_outcome a) result before after
read_stored a b e result before after layout laid_out h =
    subst (λ x. (laid_out ≡ overwrite (header_layout x) layout) × AnswerStored (header_read_outcome x) result before after) (sym e) h

-- ---- the whole call

module _ (header layout answer : List ℕ) where
  pub answer-short : length answer < 8 → c_header_read_left 2 layout answer ≡ c_read_header header layout answer
  unfolding c_read_header
  answer-short h = rw (lt-ltb _ _ h)

  module _ (h : 8 ≤ length answer) where
    pub layout-short : length layout < 7 → (r : ℕ) (after : List ℕ) → AnswerStored (refused 2 0) r answer after
        → c_header_read_left r layout after ≡ c_read_header header layout answer
    unfolding c_read_header c_header_read_from header_read_outcome header_layout
    layout-short k r after t = rw (le-ltb _ _ h, lt-ltb _ _ k, t.answered, t.shown)

    pub header-done : 7 ≤ length layout → (a : Result FileHeader HeaderReadRefusal) (r : ℕ) (laid_out stored : List ℕ) → a ≡ read_header header
        → laid_out ≡ overwrite (header_layout a) layout → AnswerStored (header_read_outcome a) r answer stored → c_header_read_left r laid_out stored
        ≡ c_read_header header layout answer
    unfolding c_read_header c_header_read_from
    header-done k a r laid_out stored e p t = rw (p, t.answered, t.shown, le-ltb _ _ h, le-ltb _ _ k, e)
