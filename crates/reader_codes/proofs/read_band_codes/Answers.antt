-- `read_band_codes` stores each code that it reads, and clears the rest. Assumes nothing.
use mathlib.Core.Path.{◌≡◌, sym, ap, ◌∙◌}
use mathlib.Core.List.{◌++◌}
use native.Mathlib.Omega.{arith}
use lib.ListN.{length, take, drop, get_or, length-append, length-drop}
use lib.Seq.{take_at, take_all, get_or-take, length-take-le}
use Rattle.std.specs.Prelude.{Err}
use Rattle.std.proofs.lemmas.Result.{err_from_is_err_and}
use Rattle.bits.specs.Place.{left_at}
use Rattle.rules.specs.Format.{ok}
use Rattle.rules.specs.Reading.{read_code}
use Rattle.reader_codes.specs.CodeAgrees.{CodeAgrees}
use Rattle.rules_formats.proofs.Turns.{each_stop, each_end}
use Rattle.reader_codes.proofs.Padding.{cleared-front, cleared-blank}
use Rattle.reader_codes.proofs.read_band_codes.Goals as goal

pub returns-in_err-code : goal.returns-in_err-code
returns-in_err-code c =
    let a = c.args in
    let l = c.loop-band in
    let n = length-take-le a.coded a.resolutions.now (omega arith) in
    let p = err_from_is_err_and c.from_residual.result c.from_residual.ensures.1 in
    let t : CodeAgrees a.part.now l.at.at (read_code (get_or (take a.coded a.resolutions.now) l.band 0) (left_at a.part.now l.at.at))
    (Err c.in_err-code.field-0.0) = rw (get_or-take a.coded a.resolutions.now l.band 0 (omega (arith, length-take-le a.coded a.codes.now (omega arith))))
    c.in_err-code.ensures in
    rw (p.1, p.2)
    (record {
      done = record {
        is = l.invariant.is ∙ each_stop read_code (take a.coded a.resolutions.now) 0 (take l.band l.slot-items) l.band (left_at a.part.now l.at.at)
            13 _ (omega arith) t.is;
        within = omega (arith, t.ends, l.invariant.within);
      };
      blank = tt;
    })

pub returns : goal.returns
returns c =
    let a = c.args in
    let l = c.loop-band in
    let rest = drop a.coded a.codes.now in
    let row = l.slot-items ++ rest in
    let n = length-take-le a.coded a.resolutions.now (omega arith) in
    let e : length row ≡ 128 = omega (arith, length-append l.slot-items rest, length-drop a.coded a.codes.now, l.invariant.same) in
    let b : l.band ≡ a.coded = omega (arith, l.invariant.same) in
    let s : take a.coded row ≡ take l.band l.slot-items =
    take_at l.slot-items rest a.coded l.invariant.same ∙ sym (take_all l.band l.slot-items (omega (arith, l.invariant.same))) in
    let z = c.fill.ensures.after (λ y e. e) in
    record {
      done = record {
        is = l.invariant.is ∙ each_end read_code (take a.coded a.resolutions.now) 0 (take l.band l.slot-items) l.band (left_at a.part.now l.at.at)
            (omega arith)
            ∙ ap (λ xs. ok xs (left_at a.part.now l.at.at)) (sym s ∙ sym (cleared-front a.coded row _ e (omega arith) z));
        within = l.invariant.within;
      };
      blank = cleared-blank a.coded row _ e (omega arith) z;
    }
