-- What a call tells of its outcome, by the place where it left. Assumes nothing.
use mathlib.Core.Path.{◌≡◌, ◌∙◌, ap}
use mathlib.Core.List.{List}
use mathlib.Core.Bool.{true, false}
use Prim.Native.Nat.{ℕ, ◌≤◌, ◌<◌}
use borrow.Author.Tests.{lt-ltb, le-ltb}
use lib.IntN.{ℤ}
use lib.ListN.{length, get_or}
use Rattle.std.specs.Prelude.{Result}
use Rattle.rules.specs.Refusals.{refused, writer_outcome}
use Rattle.rules.specs.Writer.{WriterLeft, writer_lent, writer_left, write_record}
use Rattle.rules.specs.declared.Layout.{Layout}
use Rattle.rules.specs.declared.RecordDelivery.{RecordDelivery}
use Rattle.rules.specs.declared.WriteRefusal.{WriteRefusal}
use Rattle.hca_layout.specs.Layouts.{layout_of, is_layout}
use Rattle.hca_answers.specs.Outcomes.{result_of, AnswerStored}
use Rattle.hca_answers.proofs.Places.{stored_short}
use Rattle.hca_records.specs.WriteRecord.{CWriterLeft, c_writer_left, c_writer_from, c_write_record}

pub write_stores : (a : Result RecordDelivery WriteRefusal) (r : ℕ) (before after frame : List ℕ) (x : WriterLeft)
    → writer_left a frame ≡ x → AnswerStored (writer_outcome a) r before after → c_writer_left r after frame ≡ c_writer_from x before
unfolding c_writer_from
write_stores a r before after frame x e t = rw (t.answered, t.shown) (ap (λ (y : WriterLeft). c_writer_from y before) e)

module _ (numbers kinds head F S : List ℕ) (C : List ℤ) (frame answer : List ℕ) where
  pub write_unnamed : (r : ℕ) (after : List ℕ) → is_layout numbers kinds ≡ false → AnswerStored (refused 1 0) r answer after
      → c_writer_left r after frame ≡ c_write_record numbers kinds head F S C frame answer
  unfolding c_write_record c_writer_from
  write_unnamed r after e h = rw (e, h.answered, h.shown)

  module _ (e : is_layout numbers kinds ≡ true) where
    pub write_short : length answer < 4 → c_writer_left 2 answer frame ≡ c_write_record numbers kinds head F S C frame answer
    unfolding c_write_record c_writer_from result_of
    write_short h = rw (e, lt-ltb _ _ h) (ap (λ (xs : List ℕ). c_writer_left 2 xs frame) (stored_short (refused 2 0) answer h))

    module _ (h : 4 ≤ length answer) where
      pub write_headless : (r : ℕ) (after : List ℕ) → length head < 2 → AnswerStored (refused 2 0) r answer after → c_writer_left r after frame
          ≡ c_write_record numbers kinds head F S C frame answer
      unfolding c_write_record c_writer_from
      write_headless r after k t = rw (e, le-ltb _ _ h, lt-ltb _ _ k, t.answered, t.shown)

      pub write_done : 2 ≤ length head → (l : Layout) (level boundary : ℕ) (x : CWriterLeft) → l ≡ layout_of numbers kinds → level ≡ get_or head 0 0 → boundary
          ≡ get_or head 1 0
          → x ≡ c_writer_from (write_record l (writer_lent level boundary F S C frame)) answer → x ≡ c_write_record numbers kinds head F S C frame answer
      unfolding c_write_record
      write_done k l level boundary x q p b d = d ∙ rw (e, le-ltb _ _ h, le-ltb _ _ k, q, p, b)
