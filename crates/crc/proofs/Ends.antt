-- The last two bytes of a list, behind its body.
-- Assumes nothing.
use mathlib.Core.Path.{◌≡◌, sym, ap, ap₂, ◌∙◌}
use mathlib.Core.List.{List, [], ◌∷◌, ◌++◌}
use Prim.Native.Nat.{ℕ, suc, ◌+◌, ◌-◌, ◌≤◌}
use native.Mathlib.Numerals.{add-one}
use native.Mathlib.Omega.{arith}
use lib.ListN.{length, get_or, drop, take-append-drop, drop_of_length-le}
use lib.Seq.{drop-cons, length-take-le}
use Rattle.crc.specs.Sealed.{body}

module _ (f : List ℕ) (h : 2 ≤ length f) where
  abbrev n : ℕ
  n = length f - 2

  pub length-body : length (body f) ≡ n
  length-body = length-take-le n f (omega arith)

  pub body_then_last_two : f ≡ body f ++ (get_or f n 0 ∷ get_or f (n + 1) 0 ∷ [])
  body_then_last_two =
      let rest : drop (suc (suc n)) f ≡ [] = drop_of_length-le f {i = suc (suc n)} (omega arith) in
      sym (take-append-drop n f)
      ∙ ap (λ t. body f ++ t)
      (drop-cons f n 0 (omega arith)
      ∙ ap (λ t. get_or f n 0 ∷ t)
      (drop-cons f (suc n) 0 (omega arith) ∙ ap₂ (λ k t. get_or f k 0 ∷ t) (sym (add-one n)) rest))
