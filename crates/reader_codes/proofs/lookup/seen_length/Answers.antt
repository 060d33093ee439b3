-- `reader_codes::lookup::seen_length` meets its contract: the table is computed from the codes. Assumes nothing.
use mathlib.Core.Path.{sym, subst}
use Prim.Native.Nat.{◌≤◌}
use Rattle.bits.specs.Bits.{bits}
use Rattle.buffers.specs.Walk.{build}
use Rattle.rules.specs.Format.{strip, one_of}
use Rattle.rules.specs.Tables.{spectrum_bits, spectrum_value, max_bit_table}
use Rattle.rules.specs.Signed.{held_z}
use Rattle.rules.specs.Code.{code_place}
use Rattle.rules.specs.Fields.{small_bits}
use Rattle.reader_codes.specs.Seen.{length_seen}
use Rattle.reader_codes.proofs.Entries.{table-entry, length-short}
use Rattle.reader_codes.proofs.lookup.seen_length.Goals as goal

pub returns : goal.returns
unfolding build length_seen small_bits code_place held_z spectrum_bits spectrum_value max_bit_table bits strip one_of
returns c =
    let e = table-entry length_seen c.args.r c.args.seen _ c.requires.0 c.requires.1 in
    (e, subst (λ n. n ≤ 15) (sym e) (length-short c.args.r c.args.seen c.requires.0 c.requires.1))
