-- `read_frame` is `read_frame`: refusals 1 and 2, and behind them `lend_exact`. Assumes nothing.
use mathlib.Core.Bool.{true, false}
use mathlib.Core.Path.{◌≡◌, ◌∙◌, refl, sym}
use Rattle.rules.proofs.Layouts.{legal_sizes, room_facts}
use Rattle.rules.specs.Layout.{legal_layout}
use Rattle.rules.specs.Refusals.{reader_outcome}
use Rattle.rules.specs.Reader.{read_frame}
use Rattle.reader.proofs.read_frame.Goals as goal

pub returns-then-not-legal : goal.returns-then-not-legal
unfolding read_frame reader_outcome
returns-then-not-legal c = let e : legal_layout c.args.layout ≡ false = sym c.legal.ensures ∙ c.if-not-legal.true in rw e refl

pub has_room-requires : goal.has_room-requires
has_room-requires c = legal_sizes _ (sym c.legal.ensures ∙ c.if-not-legal.false)

pub returns-then-not-has_room : goal.returns-then-not-has_room
unfolding read_frame reader_outcome
returns-then-not-has_room c =
    let e : legal_layout c.args.layout ≡ true = sym c.legal.ensures ∙ c.if-not-legal.false in
    let r = sym c.has_room.ensures ∙ c.if-not-has_room.true in
    rw (e, r) refl

pub lend_exact-requires-clause-legal_layout : goal.lend_exact-requires-clause-legal_layout
lend_exact-requires-clause-legal_layout c = legal_sizes _ (sym c.legal.ensures ∙ c.if-not-legal.false)

pub lend_exact-requires-clause-has_room : goal.lend_exact-requires-clause-has_room
lend_exact-requires-clause-has_room c = room_facts _ _ (sym c.has_room.ensures ∙ c.if-not-has_room.false)

pub returns : goal.returns
unfolding read_frame
returns c =
    let e : legal_layout c.args.layout ≡ true = sym c.legal.ensures ∙ c.if-not-legal.false in
    let r = sym c.has_room.ensures ∙ c.if-not-has_room.false in
    c.lend_exact.ensures ∙ rw (e, r) refl
