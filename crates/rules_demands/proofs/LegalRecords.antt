-- The test on the buffers says that the record that lies there is legal and that everything unwritten is 0; and such buffers are what their
-- record is stored as. Assumes nothing.
use mathlib.Core.Path.{◌≡◌, refl, sym, ◌∙◌, ap}
use mathlib.Core.List.{List, [], ◌++◌}
use mathlib.Core.Bool.{Bool, true, ◌&&◌}
use Prim.Native.Nat.{ℕ, ◌+◌, ◌*◌, ◌^◌, ◌≤◌, ◌<◌}
use native.Mathlib.Omega.{arith}
use borrow.Author.Tests.{lt-ltb, le-ltb, le-leb, eq-eqb, ltb-true, ltb-false, leb-true, eqb-true}
use lib.Dec.{leb, ltb}
use lib.IntN.{ℤ, pos, negsuc, nat_abs}
use lib.ListN.{length, take, drop, get_or, length-map, get_or-map}
use lib.Seq.{length-take-le, get_or-take, get_or-drop}
use Rattle.buffers.specs.Walk.{build}
use Rattle.buffers.proofs.Tests.{and_fst, and_snd, and-true, cond_both}
use Rattle.buffers.proofs.Build.{length-build, build-at}
use Rattle.buffers.proofs.Every.{every-at, every-all}
use Rattle.rules.specs.Format.{Each}
use Rattle.rules.specs.Layout.{LegalLayout, kind_at, kinds_of, coded_count_at, side_count_at, side_width, spectrum_length, factor_length, side_length, part}
use Rattle.rules.specs.Resolution.{resolution_at, resolutions_of, channel_resolutions}
use Rattle.rules.specs.Record.{Chan, Rec, LegalHead, LegalCode, LegalChan, resolutions, Legal, chan_of, codes_in, rec_of, pad, no_chan, store_factors, store_side}
use Rattle.rules.specs.Record.{store_codes, code_range, legal_head, legal_row, legal_subframe, legal_codes, legal_channel, legal_channels, legal_record, CodesInRange}
use Rattle.rules.specs.declared.Layout.{Layout}
use Rattle.rules.proofs.Layouts.{sides_le}
use Rattle.rules.proofs.Legality.{head-legal, legal_head_lem}
use Rattle.rules.proofs.Bands.{coded-band, blank-band, resolutions_at, resolutions-part}
use Rattle.rules.proofs.Cuts.{by_order, blocks-same, length_part, parts_all, pad-back, pad-blank, each_at, each_of, times-at, times-of}
use Rattle.rules.proofs.Layouts.{coded-few}
use Rattle.rules_demands.proofs.Stores.{length-resolutions, factors-part, side-part, codes-part, chan_legal, factors-long, side-long, bands-legal}
use Rattle.rules_demands.proofs.Stores.{codes-long, stored}

-- ---- the tests, one by one

-- n values of k below m, the others 0
module _ (n m k : ℕ) (xs : List ℕ) where
  row_below : legal_row n m k xs ≡ true → (i : ℕ) → i < k → i < n → get_or xs i 0 < m
  unfolding legal_row
  row_below e i h g = ltb-true _ _ (rw (lt-ltb i n g) at (every-at _ k i e h))

  row-blank : legal_row n m k xs ≡ true → (i : ℕ) → i < k → n ≤ i → get_or xs i 0 ≡ 0
  unfolding legal_row
  row-blank e i h g = eqb-true _ _ (rw (le-ltb i n g) at (every-at _ k i e h))

  row_of : ((i : ℕ) → i < k → i < n → get_or xs i 0 < m) → ((i : ℕ) → i < k → n ≤ i → get_or xs i 0 ≡ 0) → legal_row n m k xs ≡ true
  unfolding legal_row
  row_of f g =
      every-all _ k
      (λ i h. cond_both (λ t. t ≡ true) (ltb i n) (λ e. lt-ltb _ _ (f i h (ltb-true i n e))) (λ e. eq-eqb _ _ (g i h (ltb-false i n e))))

no_size : (z : ℤ) → nat_abs z ≤ 0 → z ≡ pos 0
no_size (pos n) h = let e : n ≡ 0 = omega arith in ap pos e
no_size (negsuc n) h = absurd (omega arith)

-- a code of a channel, in its subframe's row
pub row_code : (cs : List ℤ) (s b : ℕ) → b < 128 → get_or (part 128 cs s) b (pos 0) ≡ get_or cs (s * 128 + b) (pos 0)
row_code cs s b h = get_or-take 128 (drop (s * 128) cs) b (pos 0) h ∙ get_or-drop (s * 128) cs b (pos 0)

range_none : code_range 0 ≡ 0
unfolding code_range
range_none = refl

-- a channel's codes, at the resolutions of its bands
module _ (l : Layout) (level boundary n : ℕ) (fs : List ℕ) (cs : List ℤ) where
  abbrev rs : List ℕ
  rs = channel_resolutions l level boundary fs n

  code_within : legal_codes rs cs ≡ true → (s b : ℕ) → s < 8 → b < 128 → nat_abs (get_or cs (s * 128 + b) (pos 0)) ≤ code_range (get_or rs b 0)
  unfolding legal_codes legal_subframe
  code_within e s b h g =
      let k : leb (nat_abs (get_or (part 128 cs s) b (pos 0))) (code_range (get_or rs b 0))
      ≡ true = every-at _ 128 b (every-at (λ j. legal_subframe rs (part 128 cs j)) 8 s e h) g in
      rw (row_code cs s b g) at (leb-true (nat_abs (get_or (part 128 cs s) b (pos 0))) (code_range (get_or rs b 0)) k)

  codes-within : legal_codes rs cs ≡ true → (s b : ℕ) → s < 8 → b < 128 → b < n → LegalCode (resolution_at l level boundary fs b) (get_or cs (s * 128 + b) (pos 0))
  codes-within e s b h g k = rw (coded-band l level boundary fs n b g k) at (code_within e s b h g)

  codes-blank : legal_codes rs cs ≡ true → (s b : ℕ) → s < 8 → b < 128 → n ≤ b → get_or cs (s * 128 + b) (pos 0) ≡ pos 0
  codes-blank e s b h g k = no_size _ (rw (blank-band l level boundary fs n b g k, range_none) at (code_within e s b h g))

  codes_of_lem : ((s b : ℕ) → s < 8 → b < 128 → b < n → LegalCode (resolution_at l level boundary fs b) (get_or cs (s * 128 + b) (pos 0)))
      → ((s b : ℕ) → s < 8 → b < 128 → n ≤ b → get_or cs (s * 128 + b) (pos 0) ≡ pos 0) → legal_codes rs cs ≡ true
  unfolding legal_codes legal_subframe
  codes_of_lem f g =
      every-all _ 8
      (λ s h. every-all _ 128
      (λ b k. rw (row_code cs s b k)
      (by_order b n
      (λ lt. rw (coded-band l level boundary fs n b k lt) (le-leb _ _ (f s b h k lt)))
      (λ ge. rw (blank-band l level boundary fs n b k ge, range_none, g s b h k ge)))))

-- ---- the test of the whole, by what is written and what is not

-- what is written is in its range
pub record Held (l : Layout) (level boundary : ℕ) (F S : List ℕ) (C : List ℤ) : Type 0 where
  pub head : LegalHead level boundary
  pub factors : (c i : ℕ) → c < l.channels → i < coded_count_at l c → get_or (part 128 F c) i 0 < 64
  pub side : (c i : ℕ) → c < l.channels → i < side_count_at l c → get_or (part 8 S c) i 0 < 2 ^ side_width (kind_at l c)
  pub codes : CodesInRange l level boundary F C

-- everything unwritten is 0
pub record Blank (l : Layout) (F S : List ℕ) (C : List ℤ) : Type 0 where
  pub factors : (c i : ℕ) → c < l.channels → coded_count_at l c ≤ i → i < 128 → get_or (part 128 F c) i 0 ≡ 0
  pub side : (c i : ℕ) → c < l.channels → side_count_at l c ≤ i → i < 8 → get_or (part 8 S c) i 0 ≡ 0
  pub codes : (c s b : ℕ) → c < l.channels → s < 8 → coded_count_at l c ≤ b → b < 128 → get_or (part 1024 C c) (s * 128 + b) (pos 0) ≡ pos 0

module _ (l : Layout) (level boundary : ℕ) (F S : List ℕ) (C : List ℤ) where
  abbrev FactorsOk : ℕ → Bool
  FactorsOk c = legal_row (coded_count_at l c) 64 128 (part 128 F c)

  abbrev SideOk : ℕ → Bool
  SideOk c = legal_row (side_count_at l c) (2 ^ side_width (kind_at l c)) 8 (part 8 S c)

  abbrev CodesOk : ℕ → Bool
  CodesOk c = legal_codes (resolutions_at l level boundary F c) (part 1024 C c)

  channel_ok : legal_record l level boundary F S C ≡ true → (c : ℕ) → c < l.channels → (FactorsOk c && (SideOk c && CodesOk c)) ≡ true
  unfolding legal_record legal_channels legal_channel
  channel_ok e c h = rw (resolutions-part l level boundary F c h) at (every-at _ l.channels c (and_snd (legal_head level boundary) _ e) h)

  factors-ok : legal_record l level boundary F S C ≡ true → (c : ℕ) → c < l.channels → FactorsOk c ≡ true
  factors-ok e c h = and_fst (FactorsOk c) _ (channel_ok e c h)

  side-ok : legal_record l level boundary F S C ≡ true → (c : ℕ) → c < l.channels → SideOk c ≡ true
  side-ok e c h = and_fst (SideOk c) _ (and_snd (FactorsOk c) _ (channel_ok e c h))

  codes-ok : legal_record l level boundary F S C ≡ true → (c : ℕ) → c < l.channels → CodesOk c ≡ true
  codes-ok e c h = and_snd (SideOk c) _ (and_snd (FactorsOk c) _ (channel_ok e c h))

  pub record_held : LegalLayout l → legal_record l level boundary F S C ≡ true → Held l level boundary F S C
  unfolding legal_record
  record_held z e = record {
    head = head-legal level boundary (and_fst (legal_head level boundary) _ e);
    factors = λ c i h g. row_below _ 64 128 _ (factors-ok e c h) i (omega (arith, coded-few l z c)) g;
    side = λ c i h g. row_below _ _ 8 _ (side-ok e c h) i (omega (arith, sides_le l c)) g;
    codes = λ c s b h k g. codes-within l level boundary _ _ _ (codes-ok e c h) s b k (omega (arith, coded-few l z c)) g;
  }

  pub record_blank : legal_record l level boundary F S C ≡ true → Blank l F S C
  record_blank e = record {
    factors = λ c i h g k. row-blank _ 64 128 _ (factors-ok e c h) i k g;
    side = λ c i h g k. row-blank _ _ 8 _ (side-ok e c h) i k g;
    codes = λ c s b h k g q. codes-blank l level boundary _ _ _ (codes-ok e c h) s b k q g;
  }

  pub held_record : Held l level boundary F S C → Blank l F S C → legal_record l level boundary F S C ≡ true
  unfolding legal_record legal_channels legal_channel
  held_record h o =
      and-true (legal_head_lem level boundary h.head)
      (every-all _ l.channels
      (λ c k. rw (resolutions-part l level boundary F c k) (and-true
      (row_of (coded_count_at l c) 64 128 (part 128 F c) (λ i _ g. h.factors c i k g) (λ i q g. o.factors c i k g q))
      (and-true
      (row_of (side_count_at l c) (2 ^ side_width (kind_at l c)) 8 (part 8 S c) (λ i _ g. h.side c i k g) (λ i q g. o.side c i k g q))
      (codes_of_lem l level boundary (coded_count_at l c) (part 128 F c) (part 1024 C c) (λ s b g _ q. h.codes c s b k g q)
      (λ s b g q p. o.codes c s b k g p q))))))

-- ---- the record that lies there

resolution-front : (l : Layout) (level boundary n b : ℕ) (fs : List ℕ) → b < n
    → resolution_at l level boundary (take n fs) b ≡ resolution_at l level boundary fs b
unfolding resolution_at
resolution-front l level boundary n b fs h = rw (get_or-take n fs b 0 h)

module _ (l : Layout) (level boundary n : ℕ) (fs : List ℕ) (long : length (take n fs) ≡ n) where
  -- the resolution of a coded band
  coded-resolution : (b : ℕ) → b < n → get_or (resolutions_of l level boundary (take n fs)) b 0 ≡ resolution_at l level boundary fs b
  unfolding resolutions_of
  coded-resolution b h =
      build-at (resolution_at l level boundary (take n fs)) (length (take n fs)) b 0 (omega arith) ∙ resolution-front l level boundary n b fs h

  resolved : length (resolutions_of l level boundary (take n fs)) ≡ n
  resolved = length-resolutions l level boundary (take n fs) ∙ long

  -- n codes of a row
  module _ (cs : List ℤ) where
    codes-each : n ≤ length cs → ((b : ℕ) → b < n → LegalCode (resolution_at l level boundary fs b) (get_or cs b (pos 0)))
        → Each LegalCode (resolutions_of l level boundary (take n fs)) (take n cs)
    codes-each m f =
        each_of LegalCode 0 (pos 0) (resolutions_of l level boundary (take n fs)) (take n cs) (length-take-le n cs m ∙ sym resolved)
        (λ b g. let h : b < n = omega (arith, resolved) in rw (coded-resolution b h, get_or-take n cs b (pos 0) h) (f b h))

    each_code : Each LegalCode (resolutions_of l level boundary (take n fs)) (take n cs) → (b : ℕ) → b < n
        → LegalCode (resolution_at l level boundary fs b) (get_or cs b (pos 0))
    each_code e b h =
        rw (coded-resolution b h, get_or-take n cs b (pos 0) h) at
        (each_at LegalCode 0 (pos 0) (resolutions_of l level boundary (take n fs)) (take n cs) e b (omega (arith, resolved)))

module _ (l : Layout) (level boundary : ℕ) (F S : List ℕ) (C : List ℤ) where
  rec_chan : (c : ℕ) → c < l.channels → get_or (rec_of l level boundary F S C).chans c no_chan ≡ chan_of l F S c
  unfolding rec_of
  rec_chan c h = build-at (chan_of l F S) l.channels c no_chan h

  rec-codes : (s c : ℕ) → s < 8 → c < l.channels → get_or (get_or (rec_of l level boundary F S C).codes s []) c [] ≡ codes_in l C s c
  unfolding rec_of
  rec-codes s c h g = rw (build-at (λ j. build (codes_in l C j) l.channels) 8 s [] h) (build-at (codes_in l C s) l.channels c [] g)

module _ (l : Layout) (z : LegalLayout l) (level boundary : ℕ) (F S : List ℕ) (C : List ℤ) where
  -- from the legal record to what is written
  module _ (h : Legal l (rec_of l level boundary F S C)) where
    legal_chan : (c : ℕ) → c < l.channels → LegalChan l (kind_at l c) (chan_of l F S c)
    legal_chan c g = rw (rec_chan l level boundary F S C c g) at (chan_legal l (rec_of l level boundary F S C) h c g)

    legal-long : (c : ℕ) → c < l.channels → length (take (coded_count_at l c) (part 128 F c)) ≡ coded_count_at l c
    legal-long c g = rw (rec_chan l level boundary F S C c g) at (factors-long l (rec_of l level boundary F S C) h c g)

    legal-bands : (s c : ℕ) → s < 8 → c < l.channels → Each LegalCode (resolutions_of l level boundary (take (coded_count_at l c) (part 128 F c)))
        (codes_in l C s c)
    unfolding rec_of
    legal-bands s c g k = rw (rec_chan l level boundary F S C c k, rec-codes l level boundary F S C s c g k)
        at (bands-legal l (rec_of l level boundary F S C) h s c g k)

    pub legal-held : Held l level boundary F S C
    unfolding rec_of coded_count_at side_count_at
    legal-held = record {
      head = h.head;
      factors = λ c i g k. rw (get_or-take (coded_count_at l c) (part 128 F c) i 0 k) at
          (times-at (λ f. f < 64) (coded_count_at l c) (take (coded_count_at l c) (part 128 F c)) 0 (legal_chan c g).factors i k);
      side = λ c i g k. rw (get_or-take (side_count_at l c) (part 8 S c) i 0 k) at
          (times-at (λ v. v < 2 ^ side_width (kind_at l c)) (side_count_at l c) (take (side_count_at l c) (part 8 S c)) 0 (legal_chan c g).side i k);
      codes = λ c s b g k q. rw (row_code (part 1024 C c) s b (omega (arith, coded-few l z c))) at
          (each_code l level boundary (coded_count_at l c) (part 128 F c) (legal-long c g) (part 128 (part 1024 C c) s) (legal-bands s c k g) b q);
    }

  -- and back, in buffers that are long enough
  module _ (lf : factor_length l ≤ length F) (ls : side_length l ≤ length S) (lc : spectrum_length l ≤ length C) (h : Held l level boundary F S C) where
    held_chan : (c : ℕ) → c < l.channels → LegalChan l (kind_at l c) (chan_of l F S c)
    unfolding coded_count_at side_count_at
    held_chan c g = record {
      factors = times-of (λ f. f < 64) (coded_count_at l c) (take (coded_count_at l c) (part 128 F c)) 0
          (length-take-le (coded_count_at l c) (part 128 F c) (omega (arith, length_part 128 l.channels c F lf g, coded-few l z c)))
          (λ i k. rw (get_or-take (coded_count_at l c) (part 128 F c) i 0 k) (h.factors c i g k));
      side = times-of (λ v. v < 2 ^ side_width (kind_at l c)) (side_count_at l c) (take (side_count_at l c) (part 8 S c)) 0
          (length-take-le (side_count_at l c) (part 8 S c) (omega (arith, length_part 8 l.channels c S ls g, sides_le l c)))
          (λ i k. rw (get_or-take (side_count_at l c) (part 8 S c) i 0 k) (h.side c i g k));
    }

    held-bands : (s c : ℕ) → s < 8 → c < l.channels → Each LegalCode (resolutions_of l level boundary (take (coded_count_at l c) (part 128 F c)))
        (codes_in l C s c)
    held-bands s c g k =
        let few = coded-few l z c in
        let row = part 1024 C c in
        codes-each l level boundary (coded_count_at l c) (part 128 F c)
        (length-take-le (coded_count_at l c) (part 128 F c) (omega (arith, length_part 128 l.channels c F lf k)))
        (part 128 row s) (omega (arith, length_part 128 8 s row (omega (arith, length_part 1024 l.channels c C lc k)) g))
        (λ b q. rw (row_code row s b (omega arith)) (h.codes c s b k g q))

    held_subframe : (s : ℕ) → s < 8
        → Each (Each LegalCode) (resolutions l level boundary (build (chan_of l F S) l.channels)) (build (codes_in l C s) l.channels)
    held_subframe s g =
        let chans = build (chan_of l F S) l.channels in
        let long : length (resolutions l level boundary chans) ≡ l.channels =
        length-map chans (λ x. resolutions_of l level boundary x.factors) ∙ length-build (chan_of l F S) l.channels in
        each_of (Each LegalCode) (resolutions_of l level boundary []) [] (resolutions l level boundary chans) (build (codes_in l C s) l.channels)
        (length-build (codes_in l C s) l.channels ∙ sym long)
        (λ c q. let k : c < l.channels = omega (arith, long) in
        rw (
          get_or-map (λ (x : Chan). resolutions_of l level boundary x.factors) chans c no_chan,
          build-at (chan_of l F S) l.channels c no_chan k,
          build-at (codes_in l C s) l.channels c [] k,
        ) (held-bands s c g k))

    held-chans : Each (LegalChan l) (kinds_of l) (build (chan_of l F S) l.channels)
    unfolding kinds_of
    held-chans =
        each_of (LegalChan l) (kind_at l 0) no_chan (build (kind_at l) l.channels) (build (chan_of l F S) l.channels)
        (length-build (chan_of l F S) l.channels ∙ sym (length-build (kind_at l) l.channels))
        (λ c q. let g : c < l.channels = omega (arith, length-build (kind_at l) l.channels) in
        rw (build-at (kind_at l) l.channels c (kind_at l 0) g, build-at (chan_of l F S) l.channels c no_chan g) (held_chan c g))

    pub held-legal : Legal l (rec_of l level boundary F S C)
    unfolding rec_of
    held-legal = record {
      head = h.head;
      chans = held-chans;
      codes = times-of (Each (Each LegalCode) (resolutions l level boundary (build (chan_of l F S) l.channels))) 8
          (build (λ s. build (codes_in l C s) l.channels) 8) [] (length-build (λ s. build (codes_in l C s) l.channels) 8)
          (λ s g. rw (build-at (λ j. build (codes_in l C j) l.channels) 8 s [] g) (held_subframe s g));
    }

  -- the test is that the record is legal and that everything unwritten is 0
  pub record_legal : legal_record l level boundary F S C ≡ true → factor_length l ≤ length F → side_length l ≤ length S → spectrum_length l ≤ length C
      → Legal l (rec_of l level boundary F S C)
  record_legal e lf ls lc = held-legal lf ls lc (record_held l level boundary F S C z e)

  pub legal_record_lem : Legal l (rec_of l level boundary F S C) → Blank l F S C → legal_record l level boundary F S C ≡ true
  legal_record_lem h o = held_record l level boundary F S C (legal-held h) o

-- ---- what is stored

module _ (l : Layout) (z : LegalLayout l) (r : Rec) (h : Legal l r) (s t : List ℕ) (u : List ℤ) where
  stored-blank : Blank l (store_factors l r ++ s) (store_side l r ++ t) (store_codes l r ++ u)
  stored-blank = record {
    factors = λ c i g k q. rw (factors-part l r s c g) (pad-blank 0 128 (get_or r.chans c no_chan).factors i (omega (arith, factors-long l r h c g)) q);
    side = λ c i g k q. rw (side-part l r t c g) (pad-blank 0 8 (get_or r.chans c no_chan).side i (omega (arith, side-long l r h c g)) q);
    codes = λ c j b g k p q. sym (row_code (part 1024 (store_codes l r ++ u) c) j b q)
        ∙ rw (codes-part l r u c j g k) (pad-blank (pos 0) 128 (get_or (get_or r.codes j []) c []) b (omega (arith, codes-long l r h j c k g)) q);
  }

  pub stored-legal : legal_record l r.level r.boundary (store_factors l r ++ s) (store_side l r ++ t) (store_codes l r ++ u) ≡ true
  stored-legal =
      legal_record_lem l z r.level r.boundary (store_factors l r ++ s) (store_side l r ++ t) (store_codes l r ++ u) (rw (stored l z r h s t u) h) stored-blank

-- buffers of the stated lengths that pass the test are what their record is stored as
module _ (l : Layout) (z : LegalLayout l) (level boundary : ℕ) (F S : List ℕ) (C : List ℤ) (e : legal_record l level boundary F S C ≡ true) where
  factors_restored : length F ≡ factor_length l → store_factors l (rec_of l level boundary F S C) ≡ F
  unfolding store_factors
  factors_restored n =
      blocks-same _ (part 128 F) l.channels
      (λ c g. rw (rec_chan l level boundary F S C c g)
      (pad-back 0 128 (coded_count_at l c) (part 128 F c) (length_part 128 l.channels c F (omega arith) g) (coded-few l z c)
      (λ i k q. (record_blank l level boundary F S C e).factors c i g k q)))
      ∙ parts_all 128 l.channels F n

  side_restored : length S ≡ side_length l → store_side l (rec_of l level boundary F S C) ≡ S
  unfolding store_side
  side_restored n =
      blocks-same _ (part 8 S) l.channels
      (λ c g. rw (rec_chan l level boundary F S C c g)
      (pad-back 0 8 (side_count_at l c) (part 8 S c) (length_part 8 l.channels c S (omega arith) g) (sides_le l c)
      (λ i k q. (record_blank l level boundary F S C e).side c i g k q)))
      ∙ parts_all 8 l.channels S n

  row_restored : (c s : ℕ) → c < l.channels → s < 8 → length (part 1024 C c) ≡ 1024 → pad (pos 0) 128 (codes_in l C s c) ≡ part 128 (part 1024 C c) s
  row_restored c s g k n =
      pad-back (pos 0) 128 (coded_count_at l c) (part 128 (part 1024 C c) s) (length_part 128 8 s (part 1024 C c) (omega arith) k) (coded-few l z c)
      (λ b p q. row_code (part 1024 C c) s b q ∙ (record_blank l level boundary F S C e).codes c s b g k p q)

  codes_restored : length C ≡ spectrum_length l → store_codes l (rec_of l level boundary F S C) ≡ C
  unfolding store_codes
  codes_restored n =
      blocks-same _ (part 1024 C) l.channels
      (λ c g. let m : length (part 1024 C c) ≡ 1024 = length_part 1024 l.channels c C (omega arith) g in
      blocks-same _ (part 128 (part 1024 C c)) 8 (λ s k. rw (rec-codes l level boundary F S C s c k g) (row_restored c s g k m))
      ∙ parts_all 128 8 (part 1024 C c) m)
      ∙ parts_all 1024 l.channels C n

  pub restored : length F ≡ factor_length l → length S ≡ side_length l → length C ≡ spectrum_length l →
      (store_factors l (rec_of l level boundary F S C) ≡ F) × (store_side l (rec_of l level boundary F S C) ≡ S) × (store_codes l (rec_of l level boundary F S C) ≡ C)
  restored lf ls lc = (factors_restored lf, side_restored ls, codes_restored lc)
