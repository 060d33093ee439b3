-- `reader_codes::one_code::read_word` meets its contract. Assumes nothing.
use mathlib.Core.Path.{sym, ◌∙◌, subst}
use native.Mathlib.Omega.{arith}
use lib.IntN.{ℤ}
use mir.Syntax.{w32}
use mir.ValLaws.{to_z-of_z}
use Rattle.std.specs.Prelude.{Ok}
use Rattle.bits.specs.Place.{left_at}
use Rattle.rules.specs.Format.{one_of}
use Rattle.rules.specs.Fields.{small_bits}
use Rattle.rules.specs.Reading.{codes_to}
use Rattle.reader_codes.specs.CodeAgrees.{CodeAgrees}
use Rattle.reader_codes.proofs.CodeAnswers.{word_read}
use Rattle.reader_codes.proofs.one_code.read_word.Goals as goal

pub returns : goal.returns
returns c =
    let a = c.args in
    let z = to_z-of_z w32 c.seen_code.result (record { sfits = c.seen_code.type_inv }) ∙ c.seen_code.ensures in
    subst (λ (y : ℤ). CodeAgrees a.part.now a.place.at (one_of (small_bits a.resolution) (codes_to a.resolution) (left_at a.part.now a.place.at))
    (Ok (y, c.in_ok-next.next))) (sym z)
    (word_read a.part.now a.place.at a.resolution c.word_bits.result c.look-seen.result c.seen_length.result (omega arith) c.word_bits.ensures.0
    c.look-seen.ensures.0 (omega arith) c.seen_length.ensures.0 (sym c.get.ensures ∙ c.in_ok-next.was))
