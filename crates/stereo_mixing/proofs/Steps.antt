-- A turn of each loop over the channels, as a step of the definition that it follows. Assumes nothing.
use mathlib.Core.Path.{◌≡◌, refl, sym, ap, ◌∙◌, subst}
use mathlib.Core.List.{List, ◌++◌}
use mathlib.Core.Bool.{Bool, true, false, ◌&&◌}
use Prim.Native.Nat.{ℕ, ◌+◌, ◌-◌, ◌*◌, ◌≤◌, ◌<◌}
use native.Mathlib.Numerals.{add-one}
use borrow.Author.Tests.{le-ltb, lt-ltb, eq-eqb, ne_eqb}
use denote.Enum.Bare.{sameb}
use lib.Dec.{T, ltb, ltb→lt}
use lib.Ieee.{Float}
use lib.ListN.{take, drop}
use lib.Ieee.Fits.{and_r}
use Rattle.buffers.proofs.Build.{back-width}
use Rattle.rules_stereo.specs.Mixed.{Signal, signal, subframes_mixed, put_back, pair_at, pair_mixed, is_primary, paired_at, channel_mixed, channels_mixed, mixed}
use Rattle.rules.specs.Layout.{kind_at}
use Rattle.rules.specs.declared.ChannelType.{ChannelType}
use Rattle.rules.specs.declared.ChannelType.TheVariants.{Discrete, StereoPrimary, StereoSecondary}
use Rattle.rules.specs.contracts.ChannelType as Kind
use Rattle.rules.specs.declared.Layout.{Layout}

-- ---- which channels are mixed

-- the test of the kind
pub same_primary : (k : ChannelType) → sameb Kind.the_type k StereoPrimary ≡ is_primary k
same_primary Discrete = refl
same_primary StereoPrimary = refl
same_primary StereoSecondary = refl

module _ (l : Layout) (c : ℕ) where
  nothing : (b : Bool) → false ≡ b && false
  nothing true = refl
  nothing false = refl

  all : (b : Bool) → b ≡ b && true
  all true = refl
  all false = refl

  pub paired-last : l.channels ≤ c + 1 → false ≡ paired_at l c
  unfolding paired_at
  paired-last h = nothing (is_primary (kind_at l c)) ∙ ap (λ (b : Bool). is_primary (kind_at l c) && b) (sym (le-ltb (c + 1) l.channels h))

  pub paired_kind : (k : ChannelType) → c + 1 < l.channels → kind_at l c ≡ k → is_primary k ≡ paired_at l c
  unfolding paired_at
  paired_kind k h e = ap is_primary (sym e) ∙ all (is_primary (kind_at l c))
      ∙ ap (λ (b : Bool). is_primary (kind_at l c) && b) (sym (lt-ltb (c + 1) l.channels h))

-- ---- a channel, mixed or not
module _ (l : Layout) (c : ℕ) where
  pub paired-next : paired_at l c ≡ true → c + 1 < l.channels
  unfolding paired_at
  paired-next h = ltb→lt (c + 1) l.channels (and_r (is_primary (kind_at l c)) (ltb (c + 1) l.channels) (subst T (sym h) tt))

  module _ (xs : List Float) (is : List ℕ) where
    pub channel_not : paired_at l c ≡ false → signal xs is ≡ channel_mixed l c (signal xs is)
    unfolding channel_mixed
    channel_not h = rw h

    abbrev a : ℕ
    a = c * 1024

    abbrev i : ℕ
    i = (c + 1) * 8

    pub channel_mixed_lem : (ys : List Float) (js : List ℕ) → paired_at l c ≡ true
        → signal ys js ≡ subframes_mixed l 8 (signal (take (a + 2048 - a) (drop a xs)) (take (i + 8 - i) (drop i is)))
        → signal (take a xs ++ (ys ++ drop (a + 2048 - a) (drop a xs))) (take i is ++ (js ++ drop (i + 8 - i) (drop i is))) ≡ channel_mixed l c (signal xs is)
    unfolding channel_mixed pair_mixed
    channel_mixed_lem ys js h e =
        let d : signal ys js ≡ subframes_mixed l 8 (pair_at c (signal xs is)) = rw (back-width a 2048, back-width i 8) at e in
        rw (h, back-width a 2048, back-width i 8) (ap (λ (p : Signal). signal (put_back a 2048 p.spectra xs) (put_back i 8 p.intensities is)) d)

-- ---- one channel more
pub channels_more : (l : Layout) (c : ℕ) (t u v : Signal) → u ≡ channels_mixed l c t → v ≡ channel_mixed l c u → v ≡ channels_mixed l (c + 1) t
unfolding channels_mixed
channels_more l c t u v e d = rw (add-one c) (d ∙ ap (channel_mixed l c) e)

-- ---- none, and all
pub mixed-none : (l : Layout) (t : Signal) → l.stereo ≡ 0 → t ≡ mixed l t
unfolding mixed
mixed-none l t h = rw (eq-eqb l.stereo 0 h)

pub mixed-all : (l : Layout) (c : ℕ) (t u : Signal) → (l.stereo ≡ 0 → ⊥) → c ≡ l.channels → u ≡ channels_mixed l c t → u ≡ mixed l t
unfolding mixed
mixed-all l c t u h q e = rw (ne_eqb l.stereo 0 h) (e ∙ ap (λ (n : ℕ). channels_mixed l n t) q)
