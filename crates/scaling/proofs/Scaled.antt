-- A channel's values: its bands scaled by the factors below the coded count, and cleared past them. Assumes nothing.
use mathlib.Core.Path.{◌≡◌, refl, sym, ap, subst, ◌∙◌}
use mathlib.Core.List.{List, ◌++◌}
use mathlib.Core.Bool.{Bool, true, false, not, cond}
use Prim.Native.Nat.{ℕ, ◌+◌, ◌-◌, ◌*◌, ◌≤◌, ◌<◌}
use native.Mathlib.Omega.{arith}
use borrow.Author.Tests.{lt-ltb, le-ltb}
use lib.Dec.{T, ltb, ltb→lt, nltb→le}
use lib.Ieee.{Float, nan}
use lib.ListN.{length, get_or, take, drop, replicate, length-replicate, replicate-append-replicate}
use lib.Seq.{take_at, get_or-take, get_or-drop, drop_at, length-take-le}
use Rattle.buffers.specs.Walk.{build}
use Rattle.buffers.proofs.Build.{build-at, build-of, length-build}
use Rattle.buffers.proofs.Most.{build-most}
use Rattle.floats.specs.Single.{zero_f}
use Rattle.rules.specs.Layout.{part}
use Rattle.rules.specs.Scaling.{scaled_value, scaled_band, channel_scaled}
use Rattle.rules.proofs.Cuts.{blocks-same, length_part, parts_all}
use Rattle.factors.proofs.Cleared.{cleared-is, build-past}
use Rattle.scaling.specs.Bands.{coded_factor, Scaled}

-- 0.0 past the coded count is the value of factor 0
coded-or-not : (f : ℕ) (x : Float) (t : Bool) → scaled_value (cond t f 0) x ≡ cond t (scaled_value f x) zero_f
unfolding scaled_value
coded-or-not f x true = refl
coded-or-not f x false = refl

-- copies of one value, without the first n
rest-same : {A : Type 0} (d : A) (n k : ℕ) → n ≤ k → drop n (replicate k d) ≡ replicate (k - n) d
rest-same d n k h =
    let e : n + (k - n) ≡ k = omega arith in
    ap (drop n) (ap (λ (i : ℕ). replicate i d) (sym e) ∙ sym (replicate-append-replicate n (k - n) d))
    ∙ drop_at (replicate n d) (replicate (k - n) d) n (length-replicate n d)

-- a column whose first n entries are stored, and lent on
module _ (f : ℕ → Float) (n : ℕ) (entries all : List Float) (h : n ≤ length all) (e : entries ≡ build f (length (take n all))) where
  lent-back : take n (entries ++ drop n all) ≡ build f n
  lent-back =
      let stored : entries ≡ build f n = e ∙ ap (build f) (length-take-le n all h) in
      take_at entries (drop n all) n (ap length stored ∙ length-build f n) ∙ stored

  pub entries-count : length (take n (entries ++ drop n all)) ≡ n
  entries-count = ap length lent-back ∙ length-build f n

  pub entries_are : (b : ℕ) → b < length (take n (entries ++ drop n all)) → get_or (take n (entries ++ drop n all)) b nan ≡ f b
  entries_are b l = ap (λ (xs : List Float). get_or xs b nan) lent-back ∙ build-at f n b nan (omega (arith, entries-count))

module _ (fs used : List ℕ) (coded : ℕ) (h : coded ≤ 128) where
  -- the factors below the coded count, stored over zeros
  pub coded_are : used ≡ build (λ b. get_or fs b 0) coded ++ drop coded (replicate 128 0) → used ≡ build (coded_factor fs coded) 128
  unfolding coded_factor
  coded_are e = e ∙ ap (λ ys. build (λ i. get_or fs i 0) coded ++ ys) (rest-same 0 coded 128 h) ∙ sym (build-past 0 (λ i. get_or fs i 0) coded 128 h)

module _ (fs used : List ℕ) (coded : ℕ) (e : used ≡ build (coded_factor fs coded) 128) where
  -- factors below 64 stay below
  pub used_small : ((i : ℕ) → get_or fs i 0 < 64) → (i : ℕ) → get_or used i 0 < 64
  unfolding coded_factor
  used_small s i = let m : get_or used i 0 ≤ 63 = rw e (build-most 63 (coded_factor fs coded) (λ b. one b (ltb b coded)) 128 i) in omega arith
    where
      one : (b : ℕ) (c : Bool) → cond c (get_or fs b 0) 0 ≤ 63
      one b true = omega (arith, s b)
      one b false = omega arith

  module _ (xs : List Float) (n : ℕ) (g : coded ≤ n) (k : n ≤ 128) (sc : List Float) (w : Scaled xs used n sc) where
    abbrev value_at : ℕ → ℕ → Float
    value_at b s = cond (ltb b coded) (scaled_value (get_or fs b 0) (get_or xs (s * 128 + b) nan)) zero_f

    -- the values of the first n bands, and zeros
    abbrev filled : ℕ → Float
    filled i = cond (ltb i (n * 8)) (get_or sc i nan) zero_f

    filled_at : (b s : ℕ) → b < 128 → s < 8 → filled (b * 8 + s) ≡ value_at b s
    unfolding Scaled coded_factor
    filled_at b s l m = go (ltb b n) refl
      where
        go : (c : Bool) → ltb b n ≡ c → filled (b * 8 + s) ≡ value_at b s
        go true t =
            let q : b < n = ltb→lt b n (subst T (sym t) tt) in
            rw (lt-ltb (b * 8 + s) (n * 8) (omega arith))
            (w.1 b s q m
            ∙ ap (λ (f : ℕ). scaled_value f (get_or xs (s * 128 + b) nan)) (ap (λ us. get_or us b 0) e ∙ build-at (coded_factor fs coded) 128 b 0 l)
            ∙ coded-or-not _ _ (ltb b coded))
        go false t =
            let q : n ≤ b = nltb→le b n (subst (λ (c : Bool). T (not c)) (sym t) tt) in
            rw (le-ltb (b * 8 + s) (n * 8) (omega arith), le-ltb b coded (omega arith))

    bands_are : build filled 1024 ≡ channel_scaled xs fs coded
    unfolding channel_scaled scaled_band
    bands_are =
        let ys = build filled 1024 in
        let long : length ys ≡ 1024 = length-build filled 1024 in
        sym (parts_all 8 128 ys long)
        ∙ blocks-same (part 8 ys) (scaled_band xs fs coded) 128
        (λ b l. build-of (value_at b) 8 nan (part 8 ys b) (length_part 8 128 b ys (omega arith) l)
        (λ s m. get_or-take 8 (drop (b * 8) ys) s nan m ∙ get_or-drop (b * 8) ys s nan
        ∙ build-at filled 1024 (b * 8 + s) nan (omega arith) ∙ filled_at b s l m))

    -- the part past them, which was lent, came back as zeros
    pub channel_laid : (zs : List Float) → zs ≡ replicate (length (take (length sc - n * 8) (drop (n * 8) sc))) zero_f
        → take (n * 8) sc ++ (zs ++ drop (length sc - n * 8) (drop (n * 8) sc)) ≡ channel_scaled xs fs coded
    unfolding Scaled
    channel_laid zs z =
        let front : take (n * 8) sc ≡ build (λ i. get_or sc i nan) (n * 8) =
        build-of _ (n * 8) nan (take (n * 8) sc) (length-take-le (n * 8) sc (omega (arith, w.0)))
        (λ i l. get_or-take (n * 8) sc i nan l) in
        cleared-is zero_f 1024 (n * 8) sc zs w.0 (omega arith) z
        ∙ ap (λ ys. ys ++ replicate (1024 - n * 8) zero_f) front
        ∙ sym (build-past zero_f (λ i. get_or sc i nan) (n * 8) 1024 (omega arith))
        ∙ bands_are
