-- `scan_frame` is `strict` on a frame of F bytes. Assumes nothing.
use mathlib.Core.Path.{refl, sym, ap, ◌∙◌}
use native.Mathlib.Omega.{arith}
use Rattle.rules.specs.Refusals.{reader_outcome}
use Rattle.rules.specs.Reader.{scanned_left}
use Rattle.rules.specs.declared.ReadRefusal.TheVariants as read
use Rattle.reader.proofs.Frames.{unsealed, unsynced, synced}
use Rattle.reader.proofs.Records.{refused-left}
use Rattle.reader.proofs.frame.scan_frame.Goals as goal

pub returns-then-not-is_sealed : goal.returns-then-not-is_sealed
unfolding reader_outcome
returns-then-not-is_sealed c =
    let a = c.args in
    refused-left a.layout read.WrongCheck (unsealed a.layout a.frame.now (sym c.is_sealed.ensures ∙ c.if-not-is_sealed.true)) refl

pub returns-then-sync-ne-SYNC : goal.returns-then-sync-ne-SYNC
unfolding reader_outcome
returns-then-sync-ne-SYNC c =
    let a = c.args in
    refused-left a.layout read.WrongSync
    (unsynced a.layout a.frame.now (omega arith) c.look-sync.ensures.0 (sym c.is_sealed.ensures ∙ c.if-not-is_sealed.false) c.if-sync-ne-SYNC.true) refl

pub returns : goal.returns
returns c =
    let a = c.args in
    c.read_record.ensures
    ∙ ap (scanned_left a.layout)
    (sym (synced a.layout a.frame.now (omega arith) c.look-sync.ensures.0 (sym c.is_sealed.ensures ∙ c.if-not-is_sealed.false) c.if-sync-ne-SYNC.false))
