use mathlib.Core.Path.{◌≡◌, refl, sym, ap, ◌∙◌}
use mathlib.Core.List.{List, [], ◌∷◌, ◌++◌}
use Prim.Native.Nat.{ℕ, zero, suc, ◌≤◌, ◌<◌}
use native.Mathlib.Nat.{not-suc-le-zero, le_of_suc-le-suc}
use native.Mathlib.Numerals.{add-one}
use native.Mathlib.Omega.{arith}
use lib.ListN.{length, get_or, set, take, drop}
use lib.Seq.{take_all}
use Rattle.rules.specs.Refusals.{delivered}
use Rattle.hca_answers.specs.Outcomes.{numbers_of, result_of, Small}
use Rattle.hca_answers.proofs.Places.{stored_short, stored-long}
use Rattle.hca_answers.proofs.deliver.Goals as goal

-- one number more
laid : (ns xs : List ℕ) (i : ℕ) → i < length ns → length ns ≤ length xs → set (take i ns ++ drop i xs) i (get_or ns i 0) ≡ take (suc i) ns ++ drop (suc i) xs
laid [] xs i h k = absurd (not-suc-le-zero h)
laid (n ∷ ns) [] i h k = absurd (not-suc-le-zero k)
laid (n ∷ ns) (x ∷ xs) zero h k = refl
laid (n ∷ ns) (x ∷ xs) (suc i) h k = ap (λ ys. n ∷ ys) (laid ns xs i (le_of_suc-le-suc h) (le_of_suc-le-suc k))

-- all of them
laid-all : (ns xs : List ℕ) (i : ℕ) → i ≡ length ns → take i ns ++ drop i xs ≡ ns ++ drop (length ns) xs
laid-all ns xs i e = rw (e, take_all (length ns) ns (omega arith))

pub loop-i-init : goal.loop-i-init
loop-i-init c = refl

pub overflow_cast-answer : goal.overflow_cast-answer
unfolding Small numbers_of
overflow_cast-answer c = record { fits = c.requires.small c.loop-i.i }

pub loop-i-preserved : goal.loop-i-preserved
loop-i-preserved c =
    let numbers = c.args.numbers.now in
    let old = c.args.answer.now in
    ap (λ xs. set xs c.loop-i.i (get_or numbers c.loop-i.i 0)) c.loop-i.invariant
    ∙ laid numbers old c.loop-i.i c.loop-i-test.true (omega (arith, c.requires.few))
    ∙ rw (add-one c.loop-i.i)

pub returns-after-loop-i : goal.returns-after-loop-i
unfolding result_of numbers_of
returns-after-loop-i c =
    let numbers = c.args.numbers.now in
    let old = c.args.answer.now in
    let all = laid-all numbers old c.loop-i.i (omega (arith, c.loop-i-test.false, c.loop-i.auto.i-end)) in
    record { answered = refl; shown = c.loop-i.invariant ∙ all ∙ sym (stored-long (delivered numbers) old c.if-answer-ge4.true) }

pub returns-else-answer-ge4 : goal.returns-else-answer-ge4
unfolding result_of
returns-else-answer-ge4 c = record { answered = refl; shown = stored_short _ _ (omega arith) }
