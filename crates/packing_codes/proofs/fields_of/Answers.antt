use mathlib.Core.Path.{◌≡◌, ap, ◌∙◌}
use Prim.Native.Nat.{ℕ, ◌≤◌}
use native.Mathlib.Omega.{arith}
use lib.IntN.{pos}
use lib.ListN.{length, get_or}
use mir.Syntax.{w32}
use mir.ValLaws.{to_z-of_z}
use Rattle.buffers.proofs.Build.{filled_none, filled_more, filled-all}
use Rattle.packing_codes.specs.Columns.{ordinal, length_of, word_of}
use Rattle.packing_codes.proofs.Columns.{ruled_starts, ruled_most}
use borrow.Author.Rules.{rules}
use Rattle.packing_codes.proofs.fields_of.Goals as goal

pub loop-b-init : goal.loop-b-init
loop-b-init c = (filled_none _ _, filled_none _ _)

pub number_of-requires : goal.number_of-requires
number_of-requires c =
    let b = c.loop-b.b in
    let back = to_z-of_z w32 (get_or c.args.codes.now b (pos 0)) (record { sfits = search rules }) in
    rw back (ruled_most (c.requires.all_ruled b (omega arith)))

pub field_of-field-requires : goal.field_of-field-requires
field_of-field-requires c =
    (c.number_of.ensures.1, ruled_starts (c.requires.all_ruled c.loop-b.b (omega arith)))

pub loop-b-preserved : goal.loop-b-preserved
loop-b-preserved c =
    let l = c.loop-b in
    let f = c.field_of-field in
    let z = get_or c.args.codes.now l.b (pos 0) in
    let p = get_or c.args.rows.now l.b 0 in
    let back = to_z-of_z w32 z (record { sfits = search rules }) in
    let o : c.number_of.result ≡ ordinal z = rw back at c.number_of.ensures.0 in
    let w : f.result.word ≡ word_of p (ordinal z) = f.ensures.1 ∙ ap (word_of p) o in
    let n : f.result.length ≡ length_of p (ordinal z) = f.ensures.0 ∙ ap (length_of p) o in (
      filled_more _ c.args.words.now l.b l.words f.result.word (omega arith) l.invariant.0 w,
      filled_more _ c.args.lengths.now l.b l.lengths f.result.length (omega arith) l.invariant.1 n,
    )

pub shape_of-words : goal.shape_of-words
shape_of-words c = c.loop-b.invariant.0.0

pub shape_of-lengths : goal.shape_of-lengths
shape_of-lengths c = c.loop-b.invariant.1.0

pub returns : goal.returns
returns c =
    let a = c.args in
    let l = c.loop-b in
    let n : ℕ = length a.rows.now in
    let past : n ≤ l.b = omega arith in
    let within : l.b ≤ n = omega arith in (
      filled-all _ a.words.now l.b n l.words c.requires.columns.1 past within l.invariant.0,
      filled-all _ a.lengths.now l.b n l.lengths c.requires.columns.2 past within l.invariant.1,
    )
