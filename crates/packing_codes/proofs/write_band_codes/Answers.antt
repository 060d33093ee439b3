-- `packing_codes::write_band_codes` meets its contract: the columns are filled, then emitted. Assumes nothing.
use mathlib.Core.Path.{refl, ap, ◌∙◌}
use native.Mathlib.Omega.{arith}
use lib.ListN.{length}
use Rattle.buffers.proofs.Build.{length-build}
use Rattle.packing_codes.specs.Columns.{word_at, length_at}
use Rattle.packing_codes.proofs.Walks.{columns_bits, columns_fit}
use Rattle.packing_codes.proofs.write_band_codes.Goals as goal

pub put_all-requires : goal.put_all-requires
put_all-requires c =
    let a = c.args in
    let rows = a.rows.now in
    let f = c.fields_of in
    let words = length-build (word_at rows a.codes.now) (length rows) in
    let lengths = length-build (length_at rows a.codes.now) (length rows) in record {
      words_len = rw (f.ensures.0, f.ensures.1, words, lengths) (c.requires.n_bound.3, refl, omega (arith, c.requires.n_bound.2));
      place = (c.requires.n_bound.0, omega (arith, c.requires.n_bound.1));
      all_fit = rw (f.ensures.0, f.ensures.1, words) (columns_fit rows a.codes.now c.requires.columns.0 c.requires.all_ruled);
    }

pub returns : goal.returns
returns c =
    let a = c.args in
    let rows = a.rows.now in
    let f = c.fields_of in
    let w = c.put_all.ensures in
    let n = ap length f.ensures.0 ∙ length-build (word_at rows a.codes.now) (length rows) in (
      rw (f.ensures.0, f.ensures.1, columns_bits rows a.codes.now c.requires.columns.0) at w.0,
      omega (arith, w.1, n, c.requires.n_bound.2),
    )
