-- `read_subframe` reads each channel's codes into its row. Assumes nothing.
use mathlib.Core.Path.{◌≡◌, refl, ◌∙◌}
use Prim.Native.Nat.{◌+◌, ◌*◌, ◌≤◌}
use native.Mathlib.Omega.{arith}
use lib.ListN.{length, take}
use Rattle.std.proofs.lemmas.Result.{err_from_is_err_and}
use Rattle.bits.specs.Place.{left_at}
use Rattle.buffers.proofs.Build.{back-width}
use Rattle.rules.specs.Format.{each}
use Rattle.rules.specs.Layout.{coded_count_at, part}
use Rattle.rules.specs.Reading.{read_code}
use Rattle.reader_codes.specs.Rows.{StoredCodes}
use Rattle.reader_codes.proofs.CodeChannels.{upto_none, upto_all, upto_stop, upto_more}
use Rattle.reader_codes.proofs.Padding.{lent_length}
use Rattle.reader_codes.proofs.read_subframe.Goals as goal

pub loop-c-init : goal.loop-c-init
loop-c-init c = upto_none _ _ _ _ _ _ (omega arith)

pub returns-in_err-at : goal.returns-in_err-at
returns-in_err-at c =
    let l = c.loop-c in
    let a = c.args in
    let p = err_from_is_err_and c.from_residual.result c.from_residual.ensures.1 in
    let t : StoredCodes a.part.now (each read_code (take (coded_count_at a.layout l.c) (part 128 a.resolutions.now l.c)) (left_at a.part.now l.at.at))
    (coded_count_at a.layout l.c) c.read_band_codes.new.codes c.read_band_codes.result =
    rw (back-width (l.c * 128) 128, c.coded_count-coded.ensures.0) at c.read_band_codes.ensures in
    rw (p.1, p.2)
    (upto_stop a.layout a.subframe a.part.now a.resolutions.now a.codes.now a.place.at l.codes l.at.at l.c l.invariant (omega arith) c.in_err-at.was t)

pub loop-c-preserved : goal.loop-c-preserved
loop-c-preserved c =
    let l = c.loop-c in
    let a = c.args in
    let row = c.read_band_codes in
    let fits : (l.c * 8 + a.subframe) * 128 + 128 ≤ length l.codes = omega (arith, l.invariant.same) in
    let long : length row.new.codes ≡ 128 = row.auto.codes ∙ lent_length _ 128 l.codes fits in
    let t : StoredCodes a.part.now (each read_code (take (coded_count_at a.layout l.c) (part 128 a.resolutions.now l.c)) (left_at a.part.now l.at.at))
    (coded_count_at a.layout l.c) row.new.codes row.result =
    rw (back-width (l.c * 128) 128, c.coded_count-coded.ensures.0) at row.ensures in
    upto_more a.layout a.subframe a.part.now a.resolutions.now a.codes.now a.place.at l.codes l.at.at l.c l.invariant (omega arith)
    (omega arith) c.requires.resolutions_len.1 row.new.codes long c.in_ok-at.was t

pub returns : goal.returns
returns c = upto_all _ _ _ _ _ _ _ _ _ c.loop-c.invariant c.loop-c.at refl (omega arith)
