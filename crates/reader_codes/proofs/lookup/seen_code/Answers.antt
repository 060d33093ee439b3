-- `reader_codes::lookup::seen_code` meets its contract: the table is computed from the codes. Assumes nothing.
use mathlib.Core.Path.{ap, ◌∙◌}
use mir.Syntax.{w8, w32}
use mir.Val.{to_z, of_z}
use Rattle.bits.specs.Bits.{bits}
use Rattle.buffers.specs.Walk.{build}
use Rattle.rules.specs.Format.{strip, one_of}
use Rattle.rules.specs.Tables.{spectrum_bits, spectrum_value, max_bit_table}
use Rattle.rules.specs.Signed.{held_z}
use Rattle.rules.specs.Code.{code_place}
use Rattle.rules.specs.Fields.{small_bits}
use Rattle.reader_codes.specs.Seen.{code_seen}
use Rattle.reader_codes.proofs.Entries.{table-entry, code-kept}
use Rattle.reader_codes.proofs.lookup.seen_code.Goals as goal

pub returns : goal.returns
unfolding build code_seen small_bits code_place held_z spectrum_bits spectrum_value max_bit_table bits strip one_of
returns c =
    let r = c.args.r in
    let v = c.args.seen in
    ap (λ z. to_z w32 (of_z w32 (to_z w8 (of_z w8 z)))) (table-entry code_seen r v _ c.requires.0 c.requires.1)
    ∙ code-kept r v c.requires.0 c.requires.1
