-- One frame of a line, over any step: its parts lent and put back, and what its answer means for the line. Assumes nothing.
use mathlib.Core.Path.{◌≡◌, refl, sym, ◌∙◌, ap, ap₂}
use mathlib.Core.List.{List, ◌++◌, append-nil}
use mathlib.Core.Option.{Option}
use Prim.Native.Nat.{ℕ, ◌+◌, ◌-◌, ◌*◌, ◌≤◌}
use native.Mathlib.Omega.{arith}
use lib.IntN.{ℤ}
use lib.Ieee.{Float}
use lib.ListN.{length, take, drop, length-drop, drop_of_length-le, take-append-drop}
use lib.Seq.{length-take-le, take_all}
use Rattle.buffers.proofs.Build.{back-width}
use Rattle.rules.specs.Layout.{frame_size, spectrum_length, side_length}
use Rattle.rules.specs.Lent.{overwrite}
use Rattle.rules.specs.Refusals.{Outcome, stage_outcome}
use Rattle.rules.specs.Stage.{stage_lent, stage_left, encode_frame}
use Rattle.rules.specs.declared.Layout.{Layout}
use Rattle.std.specs.Prelude.{Result, Ok, Err}
use Rattle.rules.specs.declared.Delivery.{Delivery}
use Rattle.rules.specs.declared.StageRefusal.{StageRefusal}
use Rattle.rules_stereo.specs.Mixed.{signal}
use Rattle.rules_stereo.specs.Stereo.{StereoLeft, stereo_outcome, with_signal}
use Rattle.rules_stereo.specs.declared.StereoRefusal.{StereoRefusal}
use Rattle.rules_line.specs.Line.{left_with, Step, stage_step, frame_placed, step_at, answers_of, tally_after, turn_outcome, turn_index, line_turn}
use Rattle.rules_line.specs.declared.Tally.{Tally}
use Rattle.line_turns.specs.Turn.{call_outcome, left_by}

-- what the single calls answer, by what their refusals mean
pub stage_called : (a : Result Delivery StageRefusal) → call_outcome (λ e. stage_outcome (Err e)) a ≡ stage_outcome a
unfolding call_outcome
stage_called (Ok d) = refl
stage_called (Err e) = refl

pub stereo_called : (a : Result Delivery StereoRefusal) → call_outcome (λ e. stereo_outcome (Err e)) a ≡ stereo_outcome a
unfolding call_outcome stereo_outcome
stereo_called (Ok d) = refl
stereo_called (Err e) = refl

pub with_outcome : {o p : Outcome} {xs : List Float} {is : List ℕ} {sc : List Float} {co : List ℤ} {fa si fr : List ℕ} {x : StereoLeft}
    → o ≡ p → left_by p xs is sc co fa si fr ≡ x → left_by o xs is sc co fa si fr ≡ x
with_outcome {xs = xs} {is = is} {sc = sc} {co = co} {fa = fa} {si = si} {fr = fr} q e = ap (λ o. left_by o xs is sc co fa si fr) q ∙ e

-- a part of n elements from b on, lent and stored anew
abbrev pub lent_part : {A : Type 0} (b n : ℕ) (xs : List A) → List A
lent_part b n xs = take (b + n - b) (drop b xs)

abbrev pub stored_part : {A : Type 0} (b n : ℕ) (ys xs : List A) → List A
stored_part b n ys xs = take b xs ++ (ys ++ drop (b + n - b) (drop b xs))

stored-over : {A : Type 0} (k n b : ℕ) (ys xs : List A) → b ≡ k * n → length ys ≡ n → stored_part b n ys xs ≡ take (k * n) xs ++ overwrite ys (drop (k * n) xs)
stored-over k n b ys xs e h =
    let w : b + n - b ≡ length ys = back-width b n ∙ sym h in
    ap₂ (λ c m. take c xs ++ (ys ++ drop m (drop c xs))) e w

lent_at : {A : Type 0} (k n b : ℕ) (xs : List A) → b ≡ k * n → lent_part b n xs ≡ take n (drop (k * n) xs)
lent_at k n b xs e = ap₂ (λ m c. take m (drop c xs)) (back-width b n) e

module _ (l : Layout) (k : ℕ) (xs : List Float) (is : List ℕ) (sc₀ : List Float) (co₀ : List ℤ) (fa₀ si₀ fr₀ : List ℕ) (a i b : ℕ)
    (p : a ≡ k * spectrum_length l) (q : i ≡ k * side_length l) (s : b ≡ k * frame_size l) where
  -- the parts are back in their wholes
  pub placed : (step : Step) (o : Outcome) (ys : List Float) (js : List ℕ) (sc : List Float) (co : List ℤ) (fa si fr : List ℕ)
      → length ys ≡ spectrum_length l → length js ≡ side_length l → length fr ≡ frame_size l
      → left_by o ys js sc co fa si fr ≡ step l (stage_lent (lent_part a (spectrum_length l) xs) (lent_part i (side_length l) is) sc₀ co₀ fa₀ si₀
      (lent_part b (frame_size l) fr₀))
      → left_by o (stored_part a (spectrum_length l) ys xs) (stored_part i (side_length l) js is) sc co fa si (stored_part b (frame_size l) fr fr₀)
      ≡ step_at step l k (stage_lent xs is sc₀ co₀ fa₀ si₀ fr₀)
  unfolding step_at
  placed step o ys js sc co fa si fr u v w e =
      rw (
        stored-over k (spectrum_length l) a ys xs p u,
        stored-over k (side_length l) i js is q v,
        stored-over k (frame_size l) b fr fr₀ s w,
      ) (ap (frame_placed l k (stage_lent xs is sc₀ co₀ fa₀ si₀ fr₀)) (rw (
        lent_at k (spectrum_length l) a xs p,
        lent_at k (side_length l) i is q,
        lent_at k (frame_size l) b fr₀ s,
      ) at e))

  -- the stage leaves spectra and intensities as they were
  module _ (long : length (lent_part a (spectrum_length l) xs) ≡ spectrum_length l) (wide : length (lent_part i (side_length l) is) ≡ side_length l) where
    pub stage_placed : (r : Result Delivery StageRefusal) (sc : List Float) (co : List ℤ) (fa si fr : List ℕ) → length fr ≡ frame_size l
        → stage_left r sc co fa si fr ≡ encode_frame l (stage_lent (lent_part a (spectrum_length l) xs) (lent_part i (side_length l) is) sc₀ co₀ fa₀ si₀
        (lent_part b (frame_size l) fr₀))
        → with_signal (signal xs is) (stage_left r sc co fa si (stored_part b (frame_size l) fr fr₀))
        ≡ step_at stage_step l k (stage_lent xs is sc₀ co₀ fa₀ si₀ fr₀)
    unfolding stage_step
    stage_placed r sc co fa si fr w e =
        let ys = lent_part a (spectrum_length l) xs in
        let js = lent_part i (side_length l) is in
        ap₂ (λ us vs. with_signal (signal us vs) (stage_left r sc co fa si (stored_part b (frame_size l) fr fr₀))) (sym (same a (spectrum_length l) xs))
        (sym (same i (side_length l) is))
        ∙ placed stage_step (stage_outcome r) ys js sc co fa si fr long wide w (ap (with_signal (signal ys js)) e)
      where
        same : {A : Type 0} (c n : ℕ) (zs : List A) → stored_part c n (lent_part c n zs) zs ≡ zs
        same c n zs = rw (take-append-drop (c + n - c) (drop c zs)) (take-append-drop c zs)

-- where part k of n elements begins
module _ (k n a : ℕ) (e : a ≡ k * n) where
  -- a part that is there is lent whole
  pub lent-long : {A : Type 0} (xs : List A) → k * n + n ≤ length xs → length (lent_part a n xs) ≡ n
  lent-long xs h = rw (back-width a n) (length-take-le n (drop a xs) (omega (arith, length-drop a xs)))

-- a tail that was lent
tail_laid : (n : ℕ) (new xs ys : List ℕ) → ys ≡ overwrite new (take (length xs - n) (drop n xs)) → take n xs ++ (ys ++ drop (length xs - n) (drop n xs))
    ≡ take n xs ++ overwrite new (drop n xs)
tail_laid n new xs ys e =
    let h : length (drop n xs) ≤ length xs - n = omega (arith, length-drop n xs) in
    rw (e, take_all (length xs - n) (drop n xs) h, drop_of_length-le (drop n xs) h, append-nil (overwrite new (drop n xs)))

-- a turn's answer, its answers stored and its counts added
pub turned : (k n : ℕ) (o answered : Outcome) (index : Option ℕ) (next tally : Tally) (x : StereoLeft) (xs : List Float) (is : List ℕ) (sc : List Float)
    (co : List ℤ) (fa si fr an ys : List ℕ)
    → n ≡ k * 4 → left_by o xs is sc co fa si fr ≡ x → ys ≡ overwrite (answers_of o) (take (length an - n) (drop n an)) → next ≡ tally_after tally o
    → answered ≡ turn_outcome o → index ≡ turn_index k o
    → left_with answered index next xs is sc co fa si fr (take n an ++ (ys ++ drop (length an - n) (drop n an))) ≡ line_turn k x an tally
unfolding line_turn
turned k n o answered index next tally x xs is sc co fa si fr an ys p e a c q i =
    rw (tail_laid n (answers_of o) an ys a, c, q, i, p) (ap (λ y. line_turn k y an tally) e)
