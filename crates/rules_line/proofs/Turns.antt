-- The line turn by turn, over any step: a line that goes on takes its next turn, one that has ended stays. Assumes nothing.
use mathlib.Core.Path.{◌≡◌, refl, ◌∙◌, ap}
use mathlib.Core.Option.{none, some}
use Prim.Native.Nat.{ℕ, zero, suc, ◌+◌, ◌-◌, ◌≤◌}
use native.Mathlib.Nat.{add-zero, add-suc}
use native.Mathlib.Omega.{arith}
use Rattle.rules.specs.declared.Layout.{Layout}
use Rattle.rules_line.specs.Line.{LineLent, LineLeft, Step, step_at, tally_after, line_turn, turn_lent, onward, line_after}

-- the next turn of a line that x is left of
abbrev pub turn_after : (step : Step) (l : Layout) (k : ℕ) (x : LineLeft) → LineLeft
turn_after step l k x = line_turn k (step_at step l k (turn_lent x)) x.answers x.tally

module _ (step : Step) (l : Layout) (t : LineLent) (k : ℕ) where
  pub after_next : (x : LineLeft) → line_after step l t k ≡ x → x.index ≡ none → line_after step l t (suc k) ≡ turn_after step l k x
  unfolding line_after onward
  after_next x e n = ap (λ y. onward y.index y (turn_after step l k y)) e ∙ ap (λ i. onward i x (turn_after step l k x)) n

  -- the tally is brought up to date by the turn's answer
  pub turn_counted : (line_after step l t k).index ≡ none
      → (line_after step l t (suc k)).tally ≡ tally_after (line_after step l t k).tally (step_at step l k (turn_lent (line_after step l t k))).outcome
  unfolding line_turn
  turn_counted n = ap (λ (x : LineLeft). x.tally) (after_next (line_after step l t k) refl n)

  -- spectra and intensities are those that the turn left
  pub turn-signal : (line_after step l t k).index ≡ none
      → let x = step_at step l k (turn_lent (line_after step l t k)) in
      ((line_after step l t (suc k)).spectra ≡ x.spectra) × ((line_after step l t (suc k)).intensities ≡ x.intensities)
  unfolding line_turn
  turn-signal n =
      let e = after_next (line_after step l t k) refl n in
      (ap (λ (x : LineLeft). x.spectra) e, ap (λ (x : LineLeft). x.intensities) e)

  pub after-ended : (j : ℕ) → (line_after step l t k).index ≡ some j → line_after step l t (suc k) ≡ line_after step l t k
  unfolding line_after onward
  after-ended j e = ap (λ i. onward i (line_after step l t k) (turn_after step l k (line_after step l t k))) e

module _ (step : Step) (l : Layout) (t : LineLent) (k j : ℕ) (e : (line_after step l t k).index ≡ some j) where
  after_more : (m : ℕ) → line_after step l t (k + m) ≡ line_after step l t k
  after_more zero = ap (line_after step l t) (add-zero k)
  after_more (suc m) =
      let z = after_more m in
      ap (line_after step l t) (add-suc k m) ∙ after-ended step l t (k + m) j (ap (λ (x : LineLeft). x.index) z ∙ e) ∙ z

  -- all turns after the one that was refused change nothing
  pub after_stays : (n : ℕ) → k ≤ n → line_after step l t n ≡ line_after step l t k
  after_stays n h = let q : n ≡ k + (n - k) = omega arith in ap (line_after step l t) q ∙ after_more (n - k)
