-- What a call tells of its outcome, by the place where it left. Assumes nothing.
use mathlib.Core.Path.{◌≡◌, ◌∙◌, ap}
use mathlib.Core.List.{List}
use mathlib.Core.Bool.{true, false}
use Prim.Native.Nat.{ℕ, ◌≤◌, ◌<◌}
use borrow.Author.Tests.{lt-ltb, le-ltb}
use lib.IntN.{ℤ}
use lib.ListN.{length}
use Rattle.std.specs.Prelude.{Result}
use Rattle.rules.specs.Refusals.{refused, reader_outcome}
use Rattle.rules.specs.Reader.{ReaderLent, ReaderLeft, reader_left, read_frame}
use Rattle.rules.specs.declared.Layout.{Layout}
use Rattle.rules.specs.declared.RecordDelivery.{RecordDelivery}
use Rattle.rules.specs.declared.ReadRefusal.{ReadRefusal}
use Rattle.hca_layout.specs.Layouts.{layout_of, is_layout}
use Rattle.hca_answers.specs.Outcomes.{result_of, AnswerStored}
use Rattle.hca_answers.proofs.Places.{stored_short}
use Rattle.hca_records.specs.ReadFrame.{CReaderLeft, c_reader_left, c_reader_from, c_read_frame}

pub read_stores : (a : Result RecordDelivery ReadRefusal) (r : ℕ) (before after factors side : List ℕ) (codes : List ℤ) (x : ReaderLeft)
    → reader_left a factors side codes ≡ x → AnswerStored (reader_outcome a) r before after → c_reader_left r after factors side codes ≡ c_reader_from x before
unfolding c_reader_from
read_stores a r before after factors side codes x e t = rw (t.answered, t.shown) (ap (λ (y : ReaderLeft). c_reader_from y before) e)

module _ (numbers kinds : List ℕ) (t : ReaderLent) (answer : List ℕ) where
  pub read_unnamed : (r : ℕ) (after : List ℕ) → is_layout numbers kinds ≡ false → AnswerStored (refused 1 0) r answer after
      → c_reader_left r after t.factors t.side t.codes ≡ c_read_frame numbers kinds t answer
  unfolding c_read_frame c_reader_from
  read_unnamed r after e h = rw (e, h.answered, h.shown)

  module _ (e : is_layout numbers kinds ≡ true) where
    pub read_short : length answer < 4 → c_reader_left 2 answer t.factors t.side t.codes ≡ c_read_frame numbers kinds t answer
    unfolding c_read_frame c_reader_from result_of
    read_short h = rw (e, lt-ltb _ _ h) (ap (λ (xs : List ℕ). c_reader_left 2 xs t.factors t.side t.codes) (stored_short (refused 2 0) answer h))

    pub read_done : (l : Layout) (x : CReaderLeft) → l ≡ layout_of numbers kinds → 4 ≤ length answer → x ≡ c_reader_from (read_frame l t) answer → x
        ≡ c_read_frame numbers kinds t answer
    unfolding c_read_frame
    read_done l x q h d = d ∙ rw (e, le-ltb _ _ h, q)
