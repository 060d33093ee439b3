-- `crc_sliced::eight` meets its contract, by the law of the sliced tables.
-- Assumes nothing.
use mathlib.Core.Path.{◌≡◌, sym, ap, ap₂, ◌∙◌}
use mathlib.Core.List.{◌∷◌}
use Prim.Native.Nat.{◌/◌, ◌%◌, ◌^◌}
use native.Mathlib.Omega.{arith}
use lib.Bits.{bit_xor}
use lib.ListN.{get_or, replicate}
use borrow.Author.Rules.{rules}
use Rattle.crc.specs.Check.{checksum}
use Rattle.crc_sliced.proofs.Sliced.{feed_eight}
use Rattle.crc_sliced.proofs.eight.Goals as goal

pub returns : goal.returns
returns c =
    let high : get_or c.to_be_bytes.result 0 0 ≡ c.args.sum / 2 ^ 8 = ap (λ l. get_or l 0 0) c.to_be_bytes.ensures ∙ omega arith in
    let low : get_or c.to_be_bytes.result 1 0 ≡ c.args.sum % 2 ^ 8 = ap (λ l. get_or l 1 0) c.to_be_bytes.ensures in
    ap₂ bit_xor
    (ap₂ bit_xor
    (ap₂ bit_xor
    (ap₂ bit_xor
    (ap₂ bit_xor
    (ap₂ bit_xor (ap₂ bit_xor c.share.ensures c.share-2.ensures) c.share-3.ensures)
    c.share-4.ensures)
    c.share-5.ensures)
    c.share-6.ensures)
    (c.share-7.ensures ∙ ap (λ x. checksum (bit_xor x (get_or c.args.b.now 1 0) ∷ replicate 6 0)) low))
    (c.share-8.ensures ∙ ap (λ x. checksum (bit_xor x (get_or c.args.b.now 0 0) ∷ replicate 7 0)) high)
    ∙ sym (feed_eight c.args.sum c.args.b.now (omega arith) (search rules))
