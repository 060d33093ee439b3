-- The walk over the chunks, turn by turn, as a loop takes it. Assumes nothing.
use mathlib.Core.Path.{◌≡◌, refl, sym, ap, ◌∙◌}
use mathlib.Core.List.{List}
use mathlib.Core.Bool.{Bool, true, false, cond}
use Prim.Native.Nat.{ℕ, zero, suc, ◌+◌, ◌-◌, ◌%◌, ◌≤◌, ◌<◌}
use native.Mathlib.Omega.{arith}
use borrow.Author.Tests.{lt-ltb, le-ltb, ltb-false, eq-eqb, ne_eqb}
use lib.Dec.{eqb, ltb}
use lib.ListN.{length}
use Rattle.std.specs.Prelude.{Some, None}
use Rattle.buffers.proofs.Tests.{cond_same}
use Rattle.rules_files.specs.Wav.{chunk_name, chunk_size, next_chunk, format_after, data_name, walk_chunks, walked, default_format}
use Rattle.rules_files.specs.declared.wav.WavFormat.{WavFormat}

module _ (wav : List ℕ) where
  -- the format after the chunk at pos
  abbrev pub format_next : (pos : ℕ) (f : WavFormat) → WavFormat
  format_next pos f = format_after wav (chunk_name wav pos) (chunk_size wav pos) (pos + 8) f

  pub walk-short : (n pos : ℕ) (f : WavFormat) → length wav < pos + 8 → walk_chunks wav n pos f ≡ None
  unfolding walk_chunks
  walk-short zero pos f h = refl
  walk-short (suc n) pos f h = rw (lt-ltb _ _ h)

  -- ---- at a pos with 8 bytes or more to go

  module _ (pos : ℕ) (f : WavFormat) (h : pos + 8 ≤ length wav) where
    more : length wav - pos ≡ suc (length wav - pos - 1)
    more = omega arith

    pub walk-found : chunk_name wav pos ≡ data_name
        → walk_chunks wav (length wav - pos) pos f ≡ Some (record { format = f; body = pos + 8; size = chunk_size wav pos })
    unfolding walk_chunks
    walk-found e = rw (more, le-ltb _ _ h, eq-eqb _ _ e)

    module _ (other : chunk_name wav pos ≡ data_name → ⊥) where
      pub walk_cut : length wav - (pos + 8) < chunk_size wav pos → walk_chunks wav (length wav - pos) pos f ≡ None
      unfolding walk_chunks
      walk_cut k = rw (more, le-ltb _ _ h, ne_eqb _ _ other, lt-ltb _ _ k)

  -- as many turns as bytes are left are enough
  pub walk_enough : (n m pos : ℕ) (f : WavFormat) → length wav ≤ n + pos → length wav ≤ m + pos → walk_chunks wav n pos f ≡ walk_chunks wav m pos f
  unfolding walk_chunks
  walk_enough zero m pos f h k = sym (walk-short m pos f (omega arith))
  walk_enough (suc n) zero pos f h k = walk-short (suc n) pos f (omega arith)
  walk_enough (suc n) (suc m) pos f h k =
      cond_same (ltb (length wav) (pos + 8)) (λ _. refl)
      (λ e. cond_same (eqb (chunk_name wav pos) data_name) (λ _. refl)
      (λ _. cond_same (ltb (length wav - (pos + 8)) (chunk_size wav pos)) (λ _. refl)
      (λ _. walk_enough n m (next_chunk wav pos) (format_next pos f) (omega arith) (omega arith))))

  pub walk-next : (pos : ℕ) (f : WavFormat) → pos + 8 ≤ length wav → (chunk_name wav pos ≡ data_name → ⊥) → chunk_size wav pos ≤ length wav - (pos + 8)
      → walk_chunks wav (length wav - pos) pos f ≡ walk_chunks wav (length wav - next_chunk wav pos) (next_chunk wav pos) (format_next pos f)
  unfolding walk_chunks
  walk-next pos f h other k =
      ap (λ (n : ℕ). walk_chunks wav n pos f) (more pos f h)
      ∙ rw (le-ltb _ _ h, ne_eqb _ _ other, le-ltb _ _ k)
      (walk_enough (length wav - pos - 1) (length wav - next_chunk wav pos) (next_chunk wav pos) (format_next pos f) (omega arith) (omega arith))

  pub walk_start : walk_chunks wav (length wav - 12) 12 default_format ≡ walked wav
  walk_start = walk_enough (length wav - 12) (length wav) 12 default_format (omega arith) (omega arith)

  pub walk_end : (pos : ℕ) (f : WavFormat) → length wav < pos + 8 → walk_chunks wav (length wav - pos) pos f ≡ None
  walk_end pos f h = walk-short (length wav - pos) pos f h
