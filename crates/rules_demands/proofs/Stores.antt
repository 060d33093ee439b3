-- A legal record lies in the buffers that it is stored in, and a record lies in its buffers' stated lengths alone. Assumes nothing.
use mathlib.Core.Path.{◌≡◌, sym, ◌∙◌, ap}
use mathlib.Core.List.{List, [], ◌++◌}
use Prim.Native.Nat.{ℕ, ◌^◌, ◌<◌}
use native.Mathlib.Omega.{arith}
use lib.IntN.{ℤ, pos}
use lib.ListN.{length, take, get_or, length-map, get_or-map}
use Rattle.buffers.specs.Walk.{build, blocks}
use Rattle.buffers.proofs.Build.{length-build, build-at, build-of}
use Rattle.buffers.proofs.Blocks.{length-blocks, blocks_at}
use Rattle.rules.specs.Format.{Each}
use Rattle.rules.specs.Layout.{LegalLayout, kind_at, kinds_of, coded_count, coded_count_at, side_count, side_count_at, side_width, spectrum_length, factor_length}
use Rattle.rules.specs.Layout.{side_length, part}
use Rattle.rules.specs.Resolution.{resolution_at, resolutions_of, all_resolutions}
use Rattle.rules.specs.Record.{Chan, Rec, LegalCode, LegalChan, resolutions, Legal, chan_of, codes_in, rec_of, pad, no_chan, store_factors, store_side, store_codes}
use Rattle.rules.specs.Record.{legal_channel, legal_channels, legal_record}
use Rattle.rules.specs.declared.Layout.{Layout}
use Rattle.rules.proofs.Layouts.{sides_le, coded-few}
use Rattle.rules.proofs.Bands.{resolutions-front}
use Rattle.rules.proofs.Cuts.{build-same, every-same, part-of-front, block_part, length-pad, pad-take, each-length, each_at, times-length, times-at}

-- the kind of channel c
kind_of : (l : Layout) (c : ℕ) → c < l.channels → get_or (kinds_of l) c (kind_at l c) ≡ kind_at l c
unfolding kinds_of
kind_of l c h = build-at (kind_at l) l.channels c (kind_at l c) h

length_kinds : (l : Layout) → length (kinds_of l) ≡ l.channels
unfolding kinds_of
length_kinds l = length-build (kind_at l) l.channels

pub length-resolutions : (l : Layout) (level boundary : ℕ) (fs : List ℕ) → length (resolutions_of l level boundary fs) ≡ length fs
unfolding resolutions_of
length-resolutions l level boundary fs = length-build (resolution_at l level boundary fs) (length fs)

-- ---- the stored lengths, of any record

-- subframe s of channel c as it is stored, and the channel
abbrev row_of : Rec → ℕ → ℕ → List ℤ
row_of r c s = pad (pos 0) 128 (get_or (get_or r.codes s []) c [])

abbrev rows_of : Rec → ℕ → List ℤ
rows_of r c = blocks (row_of r c) 8

row-size : (r : Rec) (c s : ℕ) → s < 8 → length (row_of r c s) ≡ 128
row-size r c s h = length-pad (pos 0) 128 (get_or (get_or r.codes s []) c [])

rows-size : (r : Rec) (c : ℕ) → length (rows_of r c) ≡ 1024
rows-size r c = length-blocks (row_of r c) 128 8 (row-size r c) 8 (omega arith)

module _ (l : Layout) (r : Rec) where
  pub length-factors : length (store_factors l r) ≡ factor_length l
  unfolding store_factors
  length-factors = length-blocks _ 128 l.channels (λ c _. length-pad 0 128 (get_or r.chans c no_chan).factors) l.channels (omega arith)

  pub length-side : length (store_side l r) ≡ side_length l
  unfolding store_side
  length-side = length-blocks _ 8 l.channels (λ c _. length-pad 0 8 (get_or r.chans c no_chan).side) l.channels (omega arith)

  pub length-codes : length (store_codes l r) ≡ spectrum_length l
  unfolding store_codes
  length-codes = length-blocks _ 1024 l.channels (λ c _. rows-size r c) l.channels (omega arith)

  -- channel c's stored rows, whatever stands after them
  pub factors-part : (s : List ℕ) (c : ℕ) → c < l.channels → part 128 (store_factors l r ++ s) c ≡ pad 0 128 (get_or r.chans c no_chan).factors
  unfolding store_factors
  factors-part s c h = blocks_at _ 128 l.channels (λ i _. length-pad 0 128 (get_or r.chans i no_chan).factors) l.channels c s (omega arith) h

  pub side-part : (t : List ℕ) (c : ℕ) → c < l.channels → part 8 (store_side l r ++ t) c ≡ pad 0 8 (get_or r.chans c no_chan).side
  unfolding store_side
  side-part t c h = blocks_at _ 8 l.channels (λ i _. length-pad 0 8 (get_or r.chans i no_chan).side) l.channels c t (omega arith) h

  pub codes-part : (u : List ℤ) (c s : ℕ) → c < l.channels → s < 8 → part 128 (part 1024 (store_codes l r ++ u) c) s
      ≡ pad (pos 0) 128 (get_or (get_or r.codes s []) c [])
  unfolding store_codes
  codes-part u c s h g =
      ap (λ xs. part 128 xs s) (blocks_at (rows_of r) 1024 l.channels (λ i _. rows-size r i) l.channels c u (omega arith) h)
      ∙ block_part (row_of r c) 128 8 s (row-size r c) g

-- ---- the lengths in a legal record

module _ (l : Layout) (r : Rec) (h : Legal l r) where
  pub chans-long : length r.chans ≡ l.channels
  chans-long = each-length (LegalChan l) (kinds_of l) r.chans h.chans ∙ length_kinds l

  pub chan_legal : (c : ℕ) → c < l.channels → LegalChan l (kind_at l c) (get_or r.chans c no_chan)
  chan_legal c g = rw (kind_of l c g) at (each_at (LegalChan l) (kind_at l c) no_chan (kinds_of l) r.chans h.chans c (omega (arith, length_kinds l)))

  pub factors-long : (c : ℕ) → c < l.channels → length (get_or r.chans c no_chan).factors ≡ coded_count_at l c
  unfolding coded_count_at
  factors-long c g = times-length (λ f. f < 64) (coded_count l (kind_at l c)) _ (chan_legal c g).factors

  pub side-long : (c : ℕ) → c < l.channels → length (get_or r.chans c no_chan).side ≡ side_count_at l c
  unfolding side_count_at
  side-long c g = times-length (λ v. v < 2 ^ side_width (kind_at l c)) (side_count l (kind_at l c)) _ (chan_legal c g).side

  abbrev Resolved : List (List ℕ)
  Resolved = resolutions l r.level r.boundary r.chans

  pub subframes_long : length r.codes ≡ 8
  subframes_long = times-length (Each (Each LegalCode) Resolved) 8 r.codes h.codes

  pub subframe_legal : (s : ℕ) → s < 8 → Each (Each LegalCode) Resolved (get_or r.codes s [])
  subframe_legal s g = times-at (Each (Each LegalCode) Resolved) 8 r.codes [] h.codes s g

  resolved_long : length Resolved ≡ l.channels
  resolved_long = length-map r.chans (λ c. resolutions_of l r.level r.boundary c.factors) ∙ chans-long

  pub bands-long : (s : ℕ) → s < 8 → length (get_or r.codes s []) ≡ l.channels
  bands-long s g = each-length (Each LegalCode) Resolved (get_or r.codes s []) (subframe_legal s g) ∙ resolved_long

  pub bands-legal : (s c : ℕ) → s < 8 → c < l.channels →
      Each LegalCode (resolutions_of l r.level r.boundary (get_or r.chans c no_chan).factors) (get_or (get_or r.codes s []) c [])
  bands-legal s c g k =
      rw (get_or-map (λ (x : Chan). resolutions_of l r.level r.boundary x.factors) r.chans c no_chan) at
      (each_at (Each LegalCode) (resolutions_of l r.level r.boundary []) [] Resolved
      (get_or r.codes s []) (subframe_legal s g) c (omega (arith, resolved_long)))

  pub codes-long : (s c : ℕ) → s < 8 → c < l.channels → length (get_or (get_or r.codes s []) c []) ≡ coded_count_at l c
  codes-long s c g k =
      let fs = (get_or r.chans c no_chan).factors in
      each-length LegalCode (resolutions_of l r.level r.boundary fs) (get_or (get_or r.codes s []) c []) (bands-legal s c g k)
      ∙ length-resolutions l r.level r.boundary fs ∙ factors-long c k

-- ---- what a legal record is stored as is that record, whatever stands after it in the buffers

module _ (l : Layout) (z : LegalLayout l) (r : Rec) (h : Legal l r) (s t : List ℕ) (u : List ℤ) where
  chan_back : (c : ℕ) → c < l.channels → get_or r.chans c no_chan ≡ chan_of l (store_factors l r ++ s) (store_side l r ++ t) c
  chan_back c g =
      let x = get_or r.chans c no_chan in
      let f : take (coded_count_at l c) (part 128 (store_factors l r ++ s) c) ≡ x.factors =
      rw (factors-part l r s c g) (pad-take 0 128 (coded_count_at l c) x.factors (factors-long l r h c g) (coded-few l z c)) in
      let v : take (side_count_at l c) (part 8 (store_side l r ++ t) c) ≡ x.side =
      rw (side-part l r t c g) (pad-take 0 8 (side_count_at l c) x.side (side-long l r h c g) (sides_le l c)) in
      λ i. record { factors = sym f i; side = sym v i }

  codes-back : (j c : ℕ) → j < 8 → c < l.channels → get_or (get_or r.codes j []) c [] ≡ codes_in l (store_codes l r ++ u) j c
  codes-back j c g k =
      sym (rw (codes-part l r u c j k g) (pad-take (pos 0) 128 (coded_count_at l c) (get_or (get_or r.codes j []) c []) (codes-long l r h j c g k)
      (coded-few l z c)))

  pub stored : rec_of l r.level r.boundary (store_factors l r ++ s) (store_side l r ++ t) (store_codes l r ++ u) ≡ r
  unfolding rec_of
  stored =
      let a = build-of (chan_of l (store_factors l r ++ s) (store_side l r ++ t)) l.channels no_chan r.chans (chans-long l r h) chan_back in
      let b = build-of (λ j. build (codes_in l (store_codes l r ++ u) j) l.channels) 8 [] r.codes (subframes_long l r h)
      (λ j g. build-of (codes_in l (store_codes l r ++ u) j) l.channels [] (get_or r.codes j []) (bands-long l r h j g) (λ c k. codes-back j c g k)) in
      λ i. record { level = r.level; boundary = r.boundary; chans = sym a i; codes = sym b i }

-- ---- only the stated lengths are looked at

module _ (l : Layout) (level boundary : ℕ) (F S : List ℕ) (C : List ℤ) where
  pub record_front : rec_of l level boundary (take (factor_length l) F) (take (side_length l) S) (take (spectrum_length l) C) ≡ rec_of l level boundary F S C
  unfolding rec_of
  record_front =
      let a = build-same (chan_of l (take (factor_length l) F) (take (side_length l) S)) (chan_of l F S) l.channels
      (λ c g. λ i. record {
        factors = take (coded_count_at l c) (part-of-front 128 l.channels c F g i);
        side = take (side_count_at l c) (part-of-front 8 l.channels c S g i);
      }) in
      let b = build-same (λ s. build (codes_in l (take (spectrum_length l) C) s) l.channels) (λ s. build (codes_in l C s) l.channels) 8
      (λ s _. build-same (codes_in l (take (spectrum_length l) C) s) (codes_in l C s) l.channels
      (λ c g. ap (λ xs. take (coded_count_at l c) (part 128 xs s)) (part-of-front 1024 l.channels c C g))) in
      λ i. record { level = level; boundary = boundary; chans = a i; codes = b i }

  pub legal-front : legal_record l level boundary (take (factor_length l) F) (take (side_length l) S) (take (spectrum_length l) C)
      ≡ legal_record l level boundary F S C
  unfolding legal_record legal_channels
  legal-front =
      rw (
        resolutions-front l level boundary F,
        every-same (λ c. legal_channel l c (part 128 (take (factor_length l) F) c) (part 8 (take (side_length l) S) c) (part 1024 (take (spectrum_length l) C) c)
            (part 128 (all_resolutions l level boundary F) c))
            (λ c. legal_channel l c (part 128 F c) (part 8 S c) (part 1024 C c) (part 128 (all_resolutions l level boundary F) c)) l.channels
            (λ c g. rw (part-of-front 128 l.channels c F g, part-of-front 8 l.channels c S g, part-of-front 1024 l.channels c C g)),
      )
