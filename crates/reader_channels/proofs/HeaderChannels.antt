-- A channel's factors and side values, and the channels in their parts of the buffers.
-- Assumes nothing.
use mathlib.Core.Path.{◌≡◌, refl, sym, ◌∙◌, ap, ap₂, subst}
use mathlib.Core.List.{List, [], ◌∷◌, ◌++◌, append-nil}
use mathlib.Core.Logic.{⊎_elim}
use Prim.Native.Nat.{ℕ, ◌+◌, ◌*◌, ◌≤◌, ◌<◌}
use native.Mathlib.Nat.{eq-or-lt_of_le}
use native.Mathlib.Numerals.{add-one}
use native.Mathlib.Omega.{arith}
use lib.ListN.{length, drop, get_or, drop_of_length-le}
use Rattle.std.specs.Prelude.{Ok, Err}
use lib.Seq.{drop-cons}
use Rattle.bits.specs.Place.{left_at}
use Rattle.bits.specs.declared.Place.{Place}
use Rattle.buffers.specs.Walk.{build}
use Rattle.buffers.proofs.Build.{build-none, build_more, length-build, build-at}
use Rattle.rules.specs.Format.{Read, ok, stay, each, times, number}
use Rattle.rules.specs.Layout.{kind_at, kinds_of, coded_count_at, side_count_at, side_width, factor_length, side_length, part}
use Rattle.rules.specs.Record.{Chan, Rec, chan_in, chan_of, pad, no_chan, store_factors, store_side}
use Rattle.rules.specs.Reading.{read_width, read_channel}
use Rattle.rules.specs.declared.Layout.{Layout}
use Rattle.rules.proofs.Cuts.{build-same, blocks-same, parts_all, renewed, renewed-length, row_new, row_old}
use Rattle.rules_formats.proofs.Turns.{onto, onto-none, walk_turn, walk_stop}
use Rattle.reader_channels.specs.declared.values.faults.Fault.{Fault}
use Rattle.reader_channels.specs.Steps.{Step, fault_number, fault_bit}
use Rattle.reader_channels.specs.StoredRow.{Row, StoredRow}
use Rattle.reader_channels.specs.Answers.{StoredChannel, Rows, StoredChannels}

-- A CHANNEL: n and k are its counts, and w is the width of its side values
abbrev pub ChannelRead : (l : Layout) (c : ℕ) (s : List ℕ) (at : ℕ) (F S : List ℕ) (r : Step) → Type 0
ChannelRead l c s at F S r = StoredChannel l c s (read_channel l (kind_at l c) (left_at s at)) F S r

module _ (l : Layout) (c : ℕ) (s : List ℕ) (at : ℕ) {n : ℕ} (counts : n ≡ coded_count_at l c) {F : List ℕ} {o : Step}
    (t : StoredRow s (read_width n (left_at s at)) n 128 F o) where
  -- the factors, of the coded count itself
  coded : {o' : Step} → o ≡ o' → StoredRow s (read_width (coded_count_at l c) (left_at s at)) (coded_count_at l c) 128 F o'
  coded {o'} e = subst (λ m. StoredRow s (read_width m (left_at s at)) m 128 F o') counts (subst (λ r. StoredRow s (read_width n (left_at s at)) n 128 F r) e t)

  pub channel_cut : {S : List ℕ} {f : Fault} → o ≡ Err f → ChannelRead l c s at F S (Err f)
  unfolding coded_count_at side_count_at
  channel_cut {S} e =
      let v = coded e in
      record { done = record { is = rw v.done.is refl; within = v.done.within }; rows = tt }

  module _ {S : List ℕ} {q : Place} (e : o ≡ Ok q) where
    sides : (r : Step) → StoredRow s (each (λ _. number (side_width (kind_at l c))) (times (side_count_at l c)) (left_at s q.at)) (side_count_at l c) 8 S r
        → ChannelRead l c s at F S r
    unfolding coded_count_at side_count_at
    sides (Ok _) u = record { done = record { is = rw ((coded e).done.is, u.done.is) refl; within = u.done.within }; rows = ((coded e).held, u.held) }
    sides (Err f) u = record { done = record { is = rw ((coded e).done.is, u.done.is) refl; within = u.done.within }; rows = tt }

    pub channel_stored : {k w : ℕ} → k ≡ side_count_at l c → w ≡ side_width (kind_at l c) → (r : Step)
        → StoredRow s (each (λ _. number w) (times k) (left_at s q.at)) k 8 S r
        → ChannelRead l c s at F S r
    channel_stored {w} i j r u =
        sides r
        (subst (λ v. StoredRow s (each (λ _. number v) (times (side_count_at l c)) (left_at s q.at)) (side_count_at l c) 8 S r) j
        (subst (λ m. StoredRow s (each (λ _. number w) (times m) (left_at s q.at)) m 8 S r) i u))

-- ALL CHANNELS: c of them are read, each in its part
pub record Reading (l : Layout) (s : List ℕ) (x : Read (List Chan)) (c at : ℕ) (F S : List ℕ) : Type 0 where
  pub below : c ≤ l.channels
  pub within : at ≤ 8 * length s
  pub factors-long : length F ≡ factor_length l
  pub side-long : length S ≡ side_length l
  pub rows : Rows l F S c
  pub is : x ≡ onto (build (chan_of l F S) c) (each (read_channel l) (drop c (kinds_of l)) (left_at s at))

kinds_next : (l : Layout) (c : ℕ) → c < l.channels → drop c (kinds_of l) ≡ kind_at l c ∷ drop (c + 1) (kinds_of l)
unfolding kinds_of
kinds_next l c h =
    drop-cons (build (kind_at l) l.channels) c (kind_at l c) (omega (arith, length-build (kind_at l) l.channels))
    ∙ ap₂ (λ k m. k ∷ drop m (build (kind_at l) l.channels)) (build-at (kind_at l) l.channels c (kind_at l c) h) (sym (add-one c))

kinds_end : (l : Layout) (c : ℕ) → l.channels ≤ c → drop c (kinds_of l) ≡ []
unfolding kinds_of
kinds_end l c h =
    let z : length (build (kind_at l) l.channels) ≤ c = omega (arith, length-build (kind_at l) l.channels) in
    drop_of_length-le (build (kind_at l) l.channels) z

module _ (l : Layout) (s : List ℕ) where
  pub reading_none : (at : ℕ) (F S : List ℕ) → at ≤ 8 * length s → length F ≡ factor_length l → length S ≡ side_length l
      → Reading l s (each (read_channel l) (kinds_of l) (left_at s at)) 0 at F S
  reading_none at F S h f g = record {
    below = omega arith;
    within = h;
    factors-long = f;
    side-long = g;
    rows = λ c i. absurd (omega arith);
    is = onto-none _ ∙ ap (λ d. onto d (each (read_channel l) (kinds_of l) (left_at s at))) (sym (build-none (chan_of l F S)));
  }

  module _ {x : Read (List Chan)} {c at : ℕ} {F S : List ℕ} (w : Reading l s x c at F S) where
    pub reading_all : (q : Place) → q.at ≡ at → l.channels ≤ c → StoredChannels l s x F S (Ok q)
    reading_all q e h =
        let z : c ≡ l.channels = omega (arith, w.below) in
        record {
          done = record {
            is = w.is ∙ rw (kinds_end l c h) (ap₂ (λ a b. ok a (left_at s b)) (append-nil (build (chan_of l F S) c) ∙ ap (build (chan_of l F S)) z) (sym e));
            within = omega (arith, w.within);
          };
          rows = λ i g. w.rows i (omega arith);
        }

    module _ (h : c < l.channels) where
      pub reading_stop : {ys zs : List ℕ} {r : Step} {f : Fault} → r ≡ Err f → ChannelRead l c s at ys zs r
          → {A B : List ℕ} → StoredChannels l s x A B (Err f)
      reading_stop {ys} {zs} {r} {f} e t {A} {B} =
          let v = subst (ChannelRead l c s at ys zs) e t in
          record {
            done = record {
              is = w.is ∙ rw (kinds_next l c h)
                  (walk_stop stay (λ _. read_channel l) (build (chan_of l F S) c) tt (kind_at l c) (drop (c + 1) (kinds_of l)) (left_at s at) (fault_number f)
                  (length (left_at s (fault_bit f))) v.done.is);
              within = v.done.within;
            };
            rows = tt;
          }

      module _ (ys zs : List ℕ) (fl : length ys ≡ 128) (sl : length zs ≡ 8) {q : Place} {r : Step} (z : r ≡ Ok q)
          (agrees : ChannelRead l c s at ys zs r) where
        t : ChannelRead l c s at ys zs (Ok q)
        t = subst (ChannelRead l c s at ys zs) z agrees

        -- the rows end within their buffers
        ends-f : c * 128 + 128 ≤ length F
        ends-f = omega (arith, w.factors-long)

        ends_s : c * 8 + 8 ≤ length S
        ends_s = omega (arith, w.side-long)

        new_f : part 128 (renewed 128 c F ys) c ≡ ys
        new_f = row_new 128 c F ys ends-f fl

        new_s : part 8 (renewed 8 c S zs) c ≡ zs
        new_s = row_new 8 c S zs ends_s sl

        old_f : (i : ℕ) → i < c → part 128 (renewed 128 c F ys) i ≡ part 128 F i
        old_f i g = row_old 128 c F ys ends-f fl i (λ e. omega arith)

        old_s : (i : ℕ) → i < c → part 8 (renewed 8 c S zs) i ≡ part 8 S i
        old_s i g = row_old 8 c S zs ends_s sl i (λ e. omega arith)

        chans : build (chan_of l (renewed 128 c F ys) (renewed 8 c S zs)) (c + 1) ≡ build (chan_of l F S) c ++ (chan_in l c ys zs ∷ [])
        chans =
            build_more (chan_of l (renewed 128 c F ys) (renewed 8 c S zs)) c
            ∙ ap₂ (λ xs x. xs ++ (x ∷ []))
            (build-same (chan_of l (renewed 128 c F ys) (renewed 8 c S zs)) (chan_of l F S) c (λ i g. ap₂ (chan_in l i) (old_f i g) (old_s i g)))
            (ap₂ (chan_in l c) new_f new_s)

        rows' : (i : ℕ) → i < c + 1 → Row (coded_count_at l i) 128 (part 128 (renewed 128 c F ys) i) × Row (side_count_at l i) 8 (part 8 (renewed 8 c S zs) i)
        rows' i g =
            ⊎_elim
            (λ (e : i ≡ c). rw (e, new_f, new_s) t.rows)
            (λ (e : i < c). rw (old_f i e, old_s i e) (w.rows i e))
            (eq-or-lt_of_le (omega arith))

        pub reading_more : Reading l s x (c + 1) q.at (renewed 128 c F ys) (renewed 8 c S zs)
        reading_more = record {
          below = omega arith;
          within = t.done.within;
          factors-long = renewed-length 128 c F ys ends-f fl ∙ w.factors-long;
          side-long = renewed-length 8 c S zs ends_s sl ∙ w.side-long;
          rows = rows';
          is = w.is ∙ rw (kinds_next l c h)
              (walk_turn stay (λ _. read_channel l) (build (chan_of l F S) c) tt (kind_at l c) (drop (c + 1) (kinds_of l)) (left_at s at) (chan_in l c ys zs)
              (left_at s q.at) t.done.is
              ∙ ap (λ d. onto d (each (read_channel l) (drop (c + 1) (kinds_of l)) (left_at s q.at))) (sym chans));
        }

-- THE BUFFERS hold what the record with these channels is stored as
module _ (l : Layout) (F S : List ℕ) (h : Rows l F S l.channels) (r : Rec) (e : r.chans ≡ build (chan_of l F S) l.channels) where
  chan_at : (c : ℕ) → c < l.channels → get_or r.chans c no_chan ≡ chan_of l F S c
  chan_at c g = rw e (build-at (chan_of l F S) l.channels c no_chan g)

  pub holds-factors : length F ≡ factor_length l → store_factors l r ≡ F
  unfolding store_factors
  holds-factors z =
      blocks-same (λ c. pad 0 128 (get_or r.chans c no_chan).factors) (part 128 F) l.channels
      (λ c g. ap (λ x. pad 0 128 x.factors) (chan_at c g) ∙ sym (h c g).0.padded)
      ∙ parts_all 128 l.channels F z

  pub holds-side : length S ≡ side_length l → store_side l r ≡ S
  unfolding store_side
  holds-side z =
      blocks-same (λ c. pad 0 8 (get_or r.chans c no_chan).side) (part 8 S) l.channels
      (λ c g. ap (λ x. pad 0 8 x.side) (chan_at c g) ∙ sym (h c g).1.padded)
      ∙ parts_all 8 l.channels S z
