-- The level of the samples so far: one sample more, and the note at the end. Assumes nothing.
use mathlib.Core.Path.{◌≡◌, refl, sym, ap, ◌∙◌}
use mathlib.Core.List.{List, [], ◌∷◌, foldl, foldl-append}
use Prim.Native.Nat.{ℕ, zero, suc, ◌+◌}
use native.Mathlib.Numerals.{add-one}
use mathlib.Core.Bool.{true, false}
use lib.Ieee.{Float, lt}
use Rattle.buffers.specs.Walk.{build}
use Rattle.buffers.proofs.Build.{build_more}
use Rattle.floats.specs.Single.{zero_f, abs_f, max_f, max_abs, no_average, with_one}
use Rattle.floats.specs.declared.Average.{Average}
use Rattle.rules_files.specs.Wav.{note_of}
use Rattle.rules_files.specs.declared.wav.LevelNote.{LevelNote}
use Rattle.wav.specs.Loudness.{no_loudness, loudness_with, loudness_note, loudness_after}
use Rattle.wav.specs.declared.samples.loudness.Loudness.{Loudness}

module _ (f : ℕ → Float) where
  pub level-none : no_loudness ≡ loudness_after (build f 0)
  unfolding loudness_after build
  level-none = refl

  pub level_more : (n : ℕ) → loudness_after (build f (n + 1)) ≡ loudness_with (loudness_after (build f n)) (f n)
  unfolding loudness_after
  level_more n = ap (foldl loudness_with no_loudness) (build_more f n) ∙ foldl-append loudness_with no_loudness (build f n) (f n ∷ [])

  counted_none : no_loudness.average.count ≡ 0
  unfolding no_loudness no_average
  counted_none = refl

  counted_more : (l : Loudness) (x : Float) → (loudness_with l x).average.count ≡ l.average.count + 1
  unfolding loudness_with with_one
  counted_more l x = refl

  pub level-count : (n : ℕ) → (loudness_after (build f n)).average.count ≡ n
  level-count zero = rw (← level-none) counted_none
  level-count (suc n) =
      rw (← add-one n)
      (ap (λ (l : Loudness). l.average.count) (level_more n) ∙ counted_more (loudness_after (build f n)) (f n) ∙ ap (λ (k : ℕ). k + 1) (level-count n))

-- peak and average side by side are the two folds
both_folds : (xs : List Float) (p : Float) (a : Average)
    → foldl loudness_with (record { peak = p; average = a }) xs ≡ record { peak = foldl max_abs p xs; average = foldl with_one a xs }
unfolding loudness_with
both_folds [] p a = refl
both_folds (x ∷ xs) p a = both_folds xs (max_abs p x) (with_one a x)

pub level-note : (xs : List Float) → loudness_note (loudness_after xs) ≡ note_of xs
unfolding loudness_note loudness_after note_of no_loudness
level-note xs = ap loudness_note (both_folds xs zero_f no_average)

-- ---- as the loop has it

module _ (f : ℕ → Float) (k : ℕ) (l : Loudness) where
  pub level_counted : l ≡ loudness_after (build f k) → l.average.count ≡ k
  level_counted e = ap (λ (m : Loudness). m.average.count) e ∙ level-count f k

  pub level-next : (x : Float) (m : Loudness) → l ≡ loudness_after (build f k) → x ≡ f k → m ≡ loudness_with l x → m ≡ loudness_after (build f (k + 1))
  level-next x m e d q = q ∙ rw (e, d) (sym (level_more f k))

  pub level_noted : (n : ℕ) (r : LevelNote) → k ≡ n → l ≡ loudness_after (build f k) → r ≡ loudness_note l → r ≡ note_of (build f n)
  level_noted n r q e d = d ∙ ap loudness_note e ∙ level-note (build f k) ∙ ap (λ (j : ℕ). note_of (build f j)) q

-- ---- one sample more, by the test on its magnitude

module _ (l : Loudness) (x m : Float) (a : Average) (e : m ≡ abs_f x) (d : a ≡ with_one l.average x) where
  pub with_larger : lt l.peak m ≡ true → record { peak = m; average = a } ≡ loudness_with l x
  unfolding loudness_with max_f
  with_larger h = rw (d, e, rw e at h)

  pub with_other : lt l.peak m ≡ false → record { peak = l.peak; average = a } ≡ loudness_with l x
  unfolding loudness_with max_f
  with_other h = rw (d, rw e at h)
