-- Columns of words and lengths, and the bits that they are. Assumes nothing.
use mathlib.Core.Path.{◌≡◌, sym, ap, ap₂, ◌∙◌}
use mathlib.Core.List.{List, [], ◌++◌, append-nil}
use mathlib.Core.Bool.{Bool}
use Prim.Native.Nat.{ℕ, zero, suc, ◌+◌, ◌-◌, ◌*◌, ◌≤◌, ◌<◌}
use native.Mathlib.Nat.{zero-add, suc-add}
use native.Mathlib.Omega.{arith}
use lib.IntN.{ℤ, pos}
use lib.ListN.{length, get_or, drop}
use lib.Seq.{take_all, get_or-take, get_or-drop}
use Rattle.buffers.specs.Walk.{build, blocks, AtMost}
use Rattle.buffers.proofs.Build.{length-build, build-at}
use Rattle.emission.specs.Run.{field_bits, AllFit}
use Rattle.emission.proofs.Loops.{fields-blocks}
use Rattle.rules.specs.Format.{each_bits}
use Rattle.rules.specs.Layout.{LegalLayout, coded_count_at, part}
use Rattle.rules.specs.Record.{codes_in}
use Rattle.rules.specs.Fields.{code_bits}
use Rattle.rules.specs.declared.Layout.{Layout}
use Rattle.rules.proofs.Cuts.{length_part, blocks-same}
use Rattle.rules.proofs.Layouts.{coded-few}
use Rattle.rules_formats.proofs.Written.{front-blocks, each-blocks}
use Rattle.resolutions.specs.Coded.{coded_resolutions}
use Rattle.packing_codes.specs.Columns.{rule_of, rule_bits, length_at, word_at, AllRuled, padded, padded_rows, padded_codes}
use Rattle.packing_codes.specs.Columns.{RowsRuled, Blank, AllRanged}
use Rattle.packing_codes.proofs.Columns.{field_is, ruled_fits}

-- ---- a subframe's columns

module _ (rows : List ℕ) (codes : List ℤ) (e : length codes ≡ length rows) where
  pub columns_bits : field_bits (build (length_at rows codes) (length rows)) (build (word_at rows codes) (length rows)) ≡ each_bits rule_bits rows codes
  unfolding rule_bits
  columns_bits =
      let n : ℕ = length rows in
      fields-blocks (length_at rows codes) (word_at rows codes) n
      ∙ sym (front-blocks rule_bits 0 (pos 0) rows codes n (omega arith) (omega (arith, e)))
      ∙ ap₂ (each_bits rule_bits) (take_all n rows (omega arith)) (take_all n codes (omega (arith, e)))

  pub columns_fit : AllRuled (length rows) rows codes
      → AllFit 12 (build (length_at rows codes) (length rows)) (build (word_at rows codes) (length rows)) (length rows)
  columns_fit w i h =
      let n : ℕ = length rows in
      let f = ruled_fits (w i h) in
      let l = build-at (length_at rows codes) n i 0 h in
      let x = build-at (word_at rows codes) n i 0 h in
      (rw l f.0, rw (l, x) f.1)

-- ---- the buffers' rows

-- empty blocks at the end
blocks-short : {A : Type 0} (f : ℕ → List A) (n k : ℕ) → ((i : ℕ) → n ≤ i → i < k + n → f i ≡ []) → blocks f (k + n) ≡ blocks f n
unfolding blocks
blocks-short f n zero h = ap (blocks f) (zero-add n)
blocks-short f n (suc k) h =
    rw (suc-add k n)
    (ap₂ (λ x y. x ++ y) (blocks-short f n k (λ i l g. h i l (omega arith))) (h (k + n) (omega arith) (omega arith)) ∙ append-nil (blocks f n))

part_at : {A : Type 0} (d : A) (k : ℕ) (xs : List A) (c b : ℕ) → b < k → get_or (part k xs c) b d ≡ get_or xs (c * k + b) d
part_at d k xs c b h = get_or-take k (drop (c * k) xs) b d h ∙ get_or-drop (c * k) xs b d

module _ (l : Layout) (R : List ℕ) (C : List ℤ) {rows : List ℕ} (z : LegalLayout l) (long : length R ≡ l.channels * 128) (many : length C ≡ l.channels * 1024)
    (most : AtMost 15 R) (blank : Blank l R) (ranged : AllRanged l R C) (e : rows ≡ build (λ i. rule_of (get_or R i 0)) (length R)) where
  rule-at : (c b : ℕ) → c < l.channels → b < 128 → get_or (part 128 rows c) b 0 ≡ rule_of (get_or (part 128 R c) b 0)
  rule-at c b hc hb =
      let h : c * 128 + b < length R = omega arith in
      part_at 0 128 rows c b hb ∙ ap (λ t. get_or t (c * 128 + b) 0) e ∙ build-at (λ i. rule_of (get_or R i 0)) (length R) (c * 128 + b) 0 h
      ∙ ap rule_of (sym (part_at 0 128 R c b hb))

  resolution-most : (c b : ℕ) → b < 128 → get_or (part 128 R c) b 0 ≤ 15
  resolution-most c b hb = rw (part_at 0 128 R c b hb) (most (c * 128 + b))

  pub rows_ruled : RowsRuled l rows C
  rows_ruled c s hc hs b hb = record {
    resolution = get_or (part 128 R c) b 0;
    known = resolution-most c b hb;
    same = rule-at c b hc hb;
    ranged = ranged c s b hc hs hb;
  }

  rows_long : length rows ≡ l.channels * 128
  rows_long = ap length e ∙ length-build (λ i. rule_of (get_or R i 0)) (length R) ∙ long

  -- a channel's codes in a subframe
  module _ (c s : ℕ) (hc : c < l.channels) (hs : s < 8) where
    code_at_lem : (b : ℕ) → b < 128 → rule_bits (get_or (part 128 rows c) b 0) (get_or (part 128 (part 1024 C c) s) b (pos 0))
        ≡ code_bits (get_or (part 128 R c) b 0) (get_or (part 128 (part 1024 C c) s) b (pos 0))
    code_at_lem b hb =
        ap (λ p. rule_bits p (get_or (part 128 (part 1024 C c) s) b (pos 0))) (rule-at c b hc hb)
        ∙ sym (field_is (get_or (part 128 R c) b 0) (get_or (part 128 (part 1024 C c) s) b (pos 0)) (resolution-most c b hb) (ranged c s b hc hs hb))

    code_blank : (b : ℕ) → coded_count_at l c ≤ b → b < 128 → code_bits (get_or (part 128 R c) b 0) (get_or (part 128 (part 1024 C c) s) b (pos 0)) ≡ []
    unfolding code_bits
    code_blank b h hb = rw (blank c b hc h hb)

    channel_bits_lem : each_bits rule_bits (padded_rows l rows c) (padded_codes l C s c) ≡ each_bits code_bits (coded_resolutions l R c) (codes_in l C s c)
    channel_bits_lem =
        let n : ℕ = coded_count_at l c in
        let few : n ≤ 128 = coded-few l z c in
        let lr : length (part 128 rows c) ≡ 128 = length_part 128 l.channels c rows (omega (arith, rows_long)) hc in
        let l_r : length (part 128 R c) ≡ 128 = length_part 128 l.channels c R (omega arith) hc in
        let lc : length (part 1024 C c) ≡ 1024 = length_part 1024 l.channels c C (omega arith) hc in
        let l_c : length (part 128 (part 1024 C c) s) ≡ 128 = length_part 128 8 s (part 1024 C c) (omega arith) hs in
        let k : ℕ = padded l c - n in
        let q : k + n ≡ padded l c = omega arith in
        let f : ℕ → List Bool = λ b. code_bits (get_or (part 128 R c) b 0) (get_or (part 128 (part 1024 C c) s) b (pos 0)) in
        front-blocks rule_bits 0 (pos 0) (part 128 rows c) (part 128 (part 1024 C c) s) (padded l c) (omega arith) (omega arith)
        ∙ blocks-same (λ b. rule_bits (get_or (part 128 rows c) b 0) (get_or (part 128 (part 1024 C c) s) b (pos 0))) f (padded l c) (λ b h. code_at_lem b (omega arith))
        ∙ ap (blocks f) (sym q)
        ∙ blocks-short f n k (λ b h g. code_blank b h (omega arith))
        ∙ sym (front-blocks code_bits 0 (pos 0) (part 128 R c) (part 128 (part 1024 C c) s) n (omega arith) (omega arith))

  pub subframe_bits_lem : (s : ℕ) → s < 8
      → each_bits (each_bits rule_bits) (build (padded_rows l rows) l.channels) (build (padded_codes l C s) l.channels)
      ≡ each_bits (each_bits code_bits) (build (coded_resolutions l R) l.channels) (build (codes_in l C s) l.channels)
  subframe_bits_lem s hs =
      each-blocks (each_bits rule_bits) (padded_rows l rows) (padded_codes l C s) l.channels
      ∙ blocks-same (λ c. each_bits rule_bits (padded_rows l rows c) (padded_codes l C s c)) (λ c. each_bits code_bits (coded_resolutions l R c) (codes_in l C s c))
      l.channels (λ c hc. channel_bits_lem c s hc hs)
      ∙ sym (each-blocks (each_bits code_bits) (coded_resolutions l R) (codes_in l C s) l.channels)
