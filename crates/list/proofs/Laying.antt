-- What is laid over the front of a buffer, field after field. Assumes nothing.
use mathlib.Core.Path.{◌≡◌, refl, sym, ap, ◌∙◌}
use mathlib.Core.List.{List, [], ◌∷◌, ◌++◌, append_assoc, append-nil}
use Prim.Native.Nat.{ℕ, ◌+◌, ◌-◌, ◌*◌, ◌≤◌}
use native.Mathlib.Omega.{arith}
use lib.ListN.{length, take, drop, set, length-append, length-drop, drop_of_length-le}
use lib.Seq.{take_at, take_all, drop-drop, drop-append-add}
use Rattle.buffers.specs.Walk.{blocks}
use Rattle.numbers.specs.Numbers.{high_first, replaced}
use Rattle.rules.specs.Lent.{overwrite}
use Rattle.rules_files.specs.List.{entry_bytes, entry_numbers, entry_at, list_head, list_of, frames_in, entry_in, entries_of}
use Rattle.rules_files.specs.declared.list.Entry.{Entry}
use Rattle.rules_files.proofs.Entries.{entries-length}
use Rattle.rules_files.proofs.Lists.{list_length}

-- one field more
laid_next : (old front new : List ℕ) (at : ℕ) → length front ≡ at → replaced (overwrite front old) at new ≡ overwrite (front ++ new) old
unfolding replaced
laid_next old front new at e =
    let rest : drop (at + length new) (overwrite front old) ≡ drop (length (front ++ new)) old =
    ap (λ k. drop (k + length new) (overwrite front old)) (sym e) ∙ drop-append-add front (drop (length front) old) (length new)
    ∙ drop-drop (length new) (length front) old ∙ ap (λ k. drop k old) (sym (length-append front new)) in
    rw (take_at front (drop (length front) old) at e, rest) (sym (append_assoc front new (drop (length (front ++ new)) old)))

-- an entry's four fields
pub entry_laid : (e : Entry) (s b₁ b₂ b₃ b₄ : List ℕ) → length s ≡ 8 → b₁ ≡ replaced s 0 (high_first 2 e.level) → b₂
    ≡ replaced b₁ 2 (high_first 1 e.boundary)
    → b₃ ≡ replaced b₂ 3 (high_first 1 e.pairs) → b₄ ≡ replaced b₃ 4 (high_first 4 e.bits) → b₄ ≡ entry_bytes e
unfolding entry_bytes high_first
entry_laid e s b₁ b₂ b₃ b₄ l e₁ e₂ e₃ e₄ =
    let A = high_first 2 e.level in
    let B = high_first 1 e.boundary in
    let C = high_first 1 e.pairs in
    let D = high_first 4 e.bits in
    let h₁ : b₁ ≡ overwrite A s = e₁ ∙ laid_next s [] A 0 refl in
    let h₂ : b₂ ≡ overwrite (A ++ B) s = e₂ ∙ ap (λ b. replaced b 2 B) h₁ ∙ laid_next s A B 2 refl in
    let h₃ : b₃ ≡ overwrite ((A ++ B) ++ C) s = e₃ ∙ ap (λ b. replaced b 3 C) h₂ ∙ laid_next s (A ++ B) C 3 refl in
    let h₄ : b₄ ≡ entry_bytes e ++ drop 8 s = e₄ ∙ ap (λ b. replaced b 4 D) h₃ ∙ laid_next s ((A ++ B) ++ C) D 4 refl in
    let none : drop 8 s ≡ [] = drop_of_length-le s {i = 8} (omega arith) in
    h₄ ∙ ap (λ x. entry_bytes e ++ x) none ∙ append-nil (entry_bytes e)

-- the head's three
pub head_laid : (n : ℕ) (s b₁ b₂ b₃ : List ℕ) → b₁ ≡ replaced s 0 (high_first 3 0x564649) → b₂ ≡ replaced b₁ 3 (high_first 2 1)
    → b₃ ≡ replaced b₂ 5 (high_first 4 n) → b₃ ≡ overwrite (list_head n) s
unfolding list_head high_first
head_laid n s b₁ b₂ b₃ e₁ e₂ e₃ =
    let A = high_first 3 0x564649 in
    let B = high_first 2 1 in
    let C = high_first 4 n in
    let h₁ : b₁ ≡ overwrite A s = e₁ ∙ laid_next s [] A 0 refl in
    let h₂ : b₂ ≡ overwrite (A ++ B) s = e₂ ∙ ap (λ b. replaced b 3 B) h₁ ∙ laid_next s A B 3 refl in
    e₃ ∙ ap (λ b. replaced b 5 C) h₂ ∙ laid_next s (A ++ B) C 5 refl

behind-head : (n : ℕ) (entries s : List ℕ)
    → take 9 (overwrite (list_head n) s) ++ (blocks (λ i. entry_bytes (entry_at entries i)) n ++ drop (n * 8) (drop 9 (overwrite (list_head n) s)))
    ≡ overwrite (list_of n entries) s
unfolding list_of list_head high_first
behind-head n entries s =
    let B = blocks (λ i. entry_bytes (entry_at entries i)) n in
    let behind : drop (n * 8) (drop 9 s) ≡ drop (length (list_of n entries)) s = drop-drop (n * 8) 9 s ∙ ap (λ k. drop k s) (sym (list_length n entries)) in
    ap (λ x. list_head n ++ (B ++ x)) behind ∙ sym (append_assoc (list_head n) B (drop (length (list_of n entries)) s))

-- the entries behind the head, in the part that is lent for them
pub list_laid : (n : ℕ) (entries s b rest : List ℕ) → b ≡ overwrite (list_head n) s
    → rest ≡ blocks (λ i. entry_bytes (entry_at entries i)) n ++ drop (n * 8) (take (length b - 9) (drop 9 b))
    → take 9 b ++ (rest ++ drop (length b - 9) (drop 9 b)) ≡ overwrite (list_of n entries) s
list_laid n entries s b rest e f =
    let B = blocks (λ i. entry_bytes (entry_at entries i)) n in
    let long : length (drop 9 b) ≤ length b - 9 = omega (arith, length-drop 9 b) in
    let lent : rest ≡ B ++ drop (n * 8) (drop 9 b) = f ∙ ap (λ x. B ++ drop (n * 8) x) (take_all (length b - 9) (drop 9 b) long) in
    let none : drop (length b - 9) (drop 9 b) ≡ [] = drop_of_length-le (drop 9 b) {i = length b - 9} long in
    ap (λ x. take 9 b ++ (rest ++ x)) none ∙ ap (λ x. take 9 b ++ x) (append-nil rest ∙ lent) ∙ ap (λ x. take 9 x ++ (B ++ drop (n * 8) (drop 9 x))) e
    ∙ behind-head n entries s

-- a list's numbers
pub numbers_laid : (list : List ℕ) (n : ℕ) (old new : List ℕ) → n ≡ frames_in list
    → new ≡ blocks (λ i. entry_numbers (entry_in list i)) n ++ drop (n * 4) old → new ≡ overwrite (entries_of list) old
unfolding entries_of
numbers_laid list n old new k e =
    e ∙ ap (λ m. blocks (λ i. entry_numbers (entry_in list i)) m ++ drop (m * 4) old) k ∙ ap (λ m. entries_of list ++ drop m old) (sym (entries-length list))

-- the four numbers of an entry
pub four-stored : (e : Entry) (xs : List ℕ) → length xs ≡ 4 → set (set (set (set xs 0 e.level) 1 e.boundary) 2 e.pairs) 3 e.bits ≡ entry_numbers e
four-stored e [] l = absurd (omega arith)
four-stored e (a ∷ []) l = absurd (omega arith)
four-stored e (a ∷ b ∷ []) l = absurd (omega arith)
four-stored e (a ∷ b ∷ c ∷ []) l = absurd (omega arith)
four-stored e (a ∷ b ∷ c ∷ d ∷ []) l = refl
four-stored e (a ∷ b ∷ c ∷ d ∷ x ∷ xs) l = absurd (omega arith)
