use mathlib.Core.Path.{◌≡◌, refl, sym, ◌∙◌}
use mathlib.Core.List.{List}
use Prim.Native.Nat.{ℕ, ◌+◌, ◌-◌, ◌*◌, ◌/◌, ◌≤◌}
use native.Mathlib.Omega.{arith}
use borrow.Author.Rules.{rules}
use lib.IntN.{pos}
use lib.ListN.{length, take, drop, length-drop}
use lib.Seq.{take-take, length-take-le, get_or-take}
use Rattle.buffers.proofs.Build.{back-width}
use Rattle.emission.proofs.Loops.{sent_none, sent_more, sent_all}
use Rattle.rules.specs.Format.{each_bits}
use Rattle.rules.proofs.Cuts.{subframe_cut}
use Rattle.rules_formats.proofs.Written.{each-blocks}
use Rattle.packing_codes.specs.Columns.{rule_bits, AllRuled, padded_rows, padded_codes}
use Rattle.packing_codes.proofs.write_subframe.Goals as goal

pub loop-c-init : goal.loop-c-init
loop-c-init c = (sent_none _ _ _ _ c.requires.n_bound.0, refl, refl)

-- what is lent of a channel's rows and codes is the coded bands, up to a multiple of eight
module _ {A : Type 0} (xs : List A) (at n : ℕ) (few : n ≤ 128) where
  lent_is : take (at + n - at) (drop at xs) ≡ take n (take 128 (drop at xs))
  lent_is = rw (back-width at n) (sym (take-take n 128 (drop at xs) few))

  lent_many : at + 128 ≤ length xs → length (take (at + n - at) (drop at xs)) ≡ n
  lent_many h = rw (back-width at n) (length-take-le n (drop at xs) (rw (length-drop at xs) (omega (arith, few))))

pub write_band_codes-at-requires : goal.write_band_codes-at-requires
write_band_codes-at-requires c =
    let l = c.loop-c in
    let rows = c.args.rows.now in
    let codes = c.args.codes.now in
    let k = c.coded_count.ensures in
    let h = c.loop-c-test.true in
    let ruled = c.requires.rows_ruled l.c c.args.subframe h c.requires.n_bound.2 in
    let r : ℕ = l.c * 128 in
    let at : ℕ = l.c * 1024 + c.args.subframe * 128 in
    let n : ℕ = (c.coded_count.result + 7) / 8 * 8 in
    let few : n ≤ 128 = omega (arith, k.1, c.requires.legal_layout.bands) in
    let many = lent_many rows r n few (omega (arith, h, c.requires.n_bound.3)) in
    let many_codes = lent_many codes at n few (omega (arith, h, c.requires.n_bound.2, c.requires.n_bound.4)) in
    let words = length-take-le n l.words (omega (arith, few, l.invariant.1, c.requires.n_bound.5)) in
    let lengths = length-take-le n l.lengths (omega (arith, few, l.invariant.2, c.requires.n_bound.6)) in
    let all : AllRuled n (take n (take 128 (drop r rows))) (take n (take 128 (drop at codes))) =
    λ b g. rw (get_or-take n (take 128 (drop r rows)) b 0 g, get_or-take n (take 128 (drop at codes)) b (pos 0) g)
    (rw (subframe_cut codes l.c c.args.subframe c.requires.n_bound.2) at (ruled b (omega arith))) in record {
      n_bound = (
        l.invariant.0.run.few,
        omega (arith, l.invariant.0.bound, c.requires.legal_layout.few),
        omega (arith, many, few),
        rw many (omega arith),
      );
      columns = (many_codes ∙ sym many, words ∙ sym many, lengths ∙ sym many);
      all_ruled = rw (many, lent_is rows r n few, lent_is codes at n few) all;
    }

pub loop-c-preserved : goal.loop-c-preserved
loop-c-preserved c =
    let l = c.loop-c in
    let w = c.write_band_codes-at.ensures in
    let at : ℕ = l.c * 1024 + c.args.subframe * 128 in
    let n : ℕ = (c.coded_count.result + 7) / 8 * 8 in
    let few : n ≤ 128 = omega (arith, c.coded_count.ensures.1, c.requires.legal_layout.bands) in
    let h = rw (
      lent_is c.args.rows.now (l.c * 128) n few,
      lent_is c.args.codes.now at n few,
      c.coded_count.ensures.0,
    ) at w.0 in (
      sent_more _ _ _ _ l.invariant.0 (rw (subframe_cut c.args.codes.now l.c c.args.subframe c.requires.n_bound.2) h) w.1,
      search rules,
      search rules,
    )

pub shape_of-payload : goal.shape_of-payload
shape_of-payload c = c.loop-c.invariant.0.run.same

pub shape_of-words : goal.shape_of-words
shape_of-words c = c.loop-c.invariant.1

pub shape_of-lengths : goal.shape_of-lengths
shape_of-lengths c = c.loop-c.invariant.2

pub returns : goal.returns
returns c =
    let a = c.args in
    let l = c.loop-c in
    let blocks = each-blocks (each_bits rule_bits) (padded_rows a.layout a.rows.now) (padded_codes a.layout a.codes.now a.subframe)
    a.layout.channels in
    (sent_all _ _ _ _ blocks (omega arith) l.invariant.0, omega (arith, l.invariant.0.bound, c.requires.legal_layout.few))
