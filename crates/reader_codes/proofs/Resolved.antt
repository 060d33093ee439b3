-- What the reader's caller has beside the codes: the resolutions of the record that lies in the buffers, and its stored codes. Assumes nothing.
use mathlib.Core.Path.{◌≡◌, sym, ◌∙◌, ap}
use mathlib.Core.List.{List, []}
use Prim.Native.Nat.{ℕ}
use lib.IntN.{ℤ, pos}
use lib.ListN.{length, get_or}
use Rattle.buffers.specs.Walk.{build, blocks}
use Rattle.buffers.proofs.Build.{build-at}
use Rattle.rules.specs.Layout.{LegalLayout, factor_length}
use Rattle.rules.specs.Resolution.{all_resolutions}
use Rattle.rules.specs.Record.{resolutions, chan_of, codes_in, rec_of, pad, store_codes}
use Rattle.rules.specs.declared.Layout.{Layout}
use Rattle.rules.proofs.Cuts.{blocks-same}
use Rattle.resolutions.proofs.Bands.{resolutions_are}
use Rattle.reader_codes.specs.Rows.{coded_rows}

module _ (l : Layout) (level boundary : ℕ) (factors side : List ℕ) where
  -- the resolutions that the codes are read by are those of the record in the buffers
  pub coded_rows_lem : LegalLayout l → length factors ≡ factor_length l
      → coded_rows l (all_resolutions l level boundary factors) ≡ resolutions l level boundary (build (chan_of l factors side) l.channels)
  unfolding coded_rows
  coded_rows_lem z e = resolutions_are l level boundary factors side z e

  -- the codes that were read, stored, are the buffer
  pub codes-stored : (codes : List ℤ) → codes ≡ blocks (λ c. blocks (λ s. pad (pos 0) 128 (codes_in l codes s c)) 8) l.channels
      → store_codes l (rec_of l level boundary factors side codes) ≡ codes
  unfolding store_codes rec_of
  codes-stored codes b =
      blocks-same _ (λ c. blocks (λ s. pad (pos 0) 128 (codes_in l codes s c)) 8) l.channels
      (λ c h. blocks-same _ (λ s. pad (pos 0) 128 (codes_in l codes s c)) 8
      (λ s k. ap (pad (pos 0) 128)
      (ap (λ t. get_or t c []) (build-at (λ s. build (codes_in l codes s) l.channels) 8 s [] k) ∙ build-at (codes_in l codes s) l.channels c [] h)))
      ∙ sym b
