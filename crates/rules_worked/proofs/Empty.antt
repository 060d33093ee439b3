-- Document 01's empty programs, each ruled out by an input at which it breaks the definition of the stage. A program meets its contract where
-- what it leaves is `stage`, so that each claim below about `left` is one about what the program leaves. Assumes nothing.
use mathlib.Core.Path.{◌≡◌, sym, ap, ◌∙◌}
use mathlib.Core.List.{List, [], ◌∷◌}
use Prim.Native.Nat.{ℕ}
use native.Mathlib.Omega.{arith}
use lib.ListN.{get_or}
use Rattle.rules.specs.Frame.{frame_of}
use Rattle.rules.specs.Refusals.{delivered, refused}
use Rattle.rules.specs.Lent.{overwrite, no_side, no_frame}
use Rattle.rules.specs.Stage.{analysis, stage_record}
use Rattle.rules_demands.proofs.FirstSubframe.{first_only}
use Rattle.rules_worked.proofs.Runs.{run_made}
use Rattle.rules_worked.proofs.Inputs.{five, six, secondary, quiet, loud, later, removed, right, frames, loud_bytes}
use Rattle.rules_worked.proofs.Worked.{left, five-delivered, six-refused, secondary-refused, loud-delivered, later-delivered, removed-delivered}
use Rattle.rules_worked.proofs.Worked.{quiet_frame, loud_frame_lem, later-frame}

-- one that refuses all input
pub refuses-all : (n k : ℕ) → (left five).outcome ≡ refused n k → ⊥
refuses-all n k e = let z : ◌≡◌ {A = ℕ} 0 1 = cc five-delivered in omega arith

-- one that returns a single frame, silent or not: the two inputs have one layout and lend the same frame
pub one-silent-frame : (f : List ℕ) → (left quiet).frame ≡ f → (left loud).frame ≡ f → ⊥
one-silent-frame f p q = let z : ◌≡◌ {A = ℕ} 0 86 = ap (λ xs. get_or xs 2 0) (sym quiet_frame ∙ p ∙ sym q ∙ loud_frame_lem) in omega arith

-- one that stores nothing
pub stores_nothing : (left loud).frame ≡ no_frame loud.layout → ⊥
stores_nothing p = let z : ◌≡◌ {A = ℕ} 255 0 = ap (λ xs. get_or xs 0 0) (sym loud_frame_lem ∙ p) in omega arith

-- one that packs the first subframe and fills the other seven with zeros
pub first_subframe :
    (left later).frame
    ≡ overwrite (frame_of later.layout (first_only (stage_record later.layout (analysis later.layout later.spectra (no_side later.layout)))))
    (no_frame later.layout) → ⊥
first_subframe p =
    let q : (left later).frame ≡ loud_bytes = rw (run_made later right.5, frames.4) at p in
    let z : ◌≡◌ {A = ℕ} 224 0 = ap (λ xs. get_or xs 10 0) (sym later-frame ∙ q) in
    omega arith

-- a made-up bit count: the two inputs have one layout, level, boundary and pair count
pub made_up_bits : (n a b c a' b' c' : ℕ) → (left loud).outcome ≡ delivered (a ∷ b ∷ c ∷ n ∷ []) → (left later).outcome ≡ delivered (a' ∷ b' ∷ c' ∷ n ∷ []) → ⊥
made_up_bits n a b c a' b' c' p q = let z : ◌≡◌ {A = ℕ} 116 120 = cc (loud-delivered, later-delivered) in omega arith

-- a made-up pair count, beside refusal 5 and in a success
pub made_up_pairs : (n : ℕ) → (left six).outcome ≡ refused 5 n → (left secondary).outcome ≡ refused 5 n → ⊥
made_up_pairs n p q = let z : ◌≡◌ {A = ℕ} 0 1 = cc (six-refused, secondary-refused) in omega arith

pub made_up_removal : (n a b c a' b' c' : ℕ) → (left five).outcome ≡ delivered (a ∷ b ∷ n ∷ c ∷ []) → (left removed).outcome ≡ delivered (a' ∷ b' ∷ n ∷ c' ∷ [])
    → ⊥
made_up_removal n a b c a' b' c' p q = let z : ◌≡◌ {A = ℕ} 0 1 = cc (five-delivered, removed-delivered) in omega arith
