-- What a loop keeps that emits block i in turn i; rows of words and lengths as blocks. Assumes nothing.
use mathlib.Core.Path.{◌≡◌, refl, sym, ap, ◌∙◌}
use mathlib.Core.List.{List, [], ◌∷◌, ◌++◌, append_assoc, append-nil}
use mathlib.Core.Bool.{Bool}
use Prim.Native.Nat.{ℕ, zero, suc, ◌+◌, ◌*◌, ◌≤◌}
use native.Mathlib.Nat.{mul-suc}
use native.Mathlib.Numerals.{add-one}
use native.Mathlib.Omega.{arith}
use lib.ListN.{length}
use Rattle.buffers.specs.Walk.{build, blocks}
use Rattle.buffers.proofs.Build.{length-build}
use Rattle.buffers.proofs.Blocks.{blocks-suc}
use Rattle.bits.specs.Bits.{bits}
use Rattle.emission.specs.Run.{Emits, field_bits}
use Rattle.emission.specs.declared.Run.{Run}
use Rattle.emission.proofs.Runs.{emits_none, emits_then}

-- blocks of at most m bits each
pub record Sent (g : ℕ → List Bool) (m : ℕ) (r₀ : Run) (s₀ : List ℕ) (i : ℕ) (r : Run) (s : List ℕ) : Type 0 where
  pub run : Emits r₀ s₀ (blocks g i) r s
  pub bound : 8 * r.at + r.n ≤ 8 * r₀.at + r₀.n + m * i

module _ (g : ℕ → List Bool) (m : ℕ) (r₀ : Run) (s₀ : List ℕ) where
  pub sent_none : r₀.n ≤ 7 → Sent g m r₀ s₀ 0 r₀ s₀
  unfolding blocks
  sent_none h = record { run = emits_none r₀ s₀ h; bound = omega arith }

  pub sent_more : {i : ℕ} {r : Run} {s : List ℕ} {r' : Run} {s' : List ℕ} → Sent g m r₀ s₀ i r s → Emits r s (g i) r' s'
      → 8 * r'.at + r'.n ≤ 8 * r.at + r.n + m
      → Sent g m r₀ s₀ (i + 1) r' s'
  sent_more {i} w h b = record {
    run = rw (add-one i, blocks-suc g i) (emits_then w.run h);
    bound =
        omega (arith, w.bound, mul-suc m i, ap (λ k. m * k) (add-one i));
  }

  pub sent_all : {n i : ℕ} {W : List Bool} {r : Run} {s : List ℕ} → W ≡ blocks g n → i ≡ n → Sent g m r₀ s₀ i r s → Emits r₀ s₀ W r s
  sent_all e h w = rw (e, ← h) w.run

-- one more word at the end
fields_snoc : (ls ws : List ℕ) (l w : ℕ) → length ls ≡ length ws → field_bits (ls ++ (l ∷ [])) (ws ++ (w ∷ [])) ≡ field_bits ls ws ++ bits l w
fields_snoc [] [] l w e = append-nil (bits l w)
fields_snoc [] (x ∷ ws) l w e = absurd (omega arith)
fields_snoc (x ∷ ls) [] l w e = absurd (omega arith)
fields_snoc (x ∷ ls) (y ∷ ws) l w e = ap (λ t. bits x y ++ t) (fields_snoc ls ws l w (omega arith)) ∙ sym (append_assoc (bits x y) (field_bits ls ws) (bits l w))

pub fields-blocks : (l w : ℕ → ℕ) (n : ℕ) → field_bits (build l n) (build w n) ≡ blocks (λ i. bits (l i) (w i)) n
unfolding build blocks
fields-blocks l w zero = refl
fields-blocks l w (suc n) =
    fields_snoc (build l n) (build w n) (l n) (w n) (length-build l n ∙ sym (length-build w n)) ∙ ap (λ t. t ++ bits (l n) (w n)) (fields-blocks l w n)
