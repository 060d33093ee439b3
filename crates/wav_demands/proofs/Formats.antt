-- The defaults. Assumes nothing.
use mathlib.Core.Path.{◌≡◌, refl, sym, ap, ◌∙◌}
use mathlib.Core.List.{List}
use mathlib.Core.Bool.{Bool, true, false, cond}
use Prim.Native.Nat.{ℕ, zero, suc, ◌+◌, ◌-◌, ◌≤◌, ◌<◌}
use native.Mathlib.Omega.{arith}
use borrow.Author.Tests.{ltb-false, eqb-false}
use lib.Dec.{eqb, ltb}
use lib.ListN.{length}
use Rattle.std.specs.Prelude.{Option, Some, None}
use Rattle.rules_files.specs.Wav.{chunk_name, chunk_size, next_chunk, gives_format, format_after, data_name, walk_chunks, walked, default_format}
use Rattle.rules_files.specs.declared.wav.WavFormat.{WavFormat}
use Rattle.rules_files.specs.declared.wav.WavData.{WavData}

-- the chunks that the walk comes to
pub data Reached (wav : List ℕ) : ℕ → Type 0 where
  at_first : Reached wav 12
  passed : (pos : ℕ) → Reached wav pos → pos + 8 ≤ length wav → (chunk_name wav pos ≡ data_name → ⊥) → chunk_size wav pos ≤ length wav - (pos + 8)
      → Reached wav (next_chunk wav pos)

module _ (wav : List ℕ) (none : (pos : ℕ) → Reached wav pos → gives_format (chunk_name wav pos) (chunk_size wav pos) ≡ false) where
  same_format : (pos : ℕ) (f : WavFormat) → Reached wav pos → format_after wav (chunk_name wav pos) (chunk_size wav pos) (pos + 8) f ≡ f
  unfolding format_after
  same_format pos f r = rw (none pos r)

  kept : (n pos : ℕ) (f : WavFormat) (d : WavData) → Reached wav pos → walk_chunks wav n pos f ≡ Some d → d.format ≡ f
  unfolding walk_chunks
  kept zero pos f d r e = let z : ◌≡◌ {A = ℕ} 0 1 = cc in absurd (omega arith)
  kept (suc n) pos f d r e =
      go (ltb (length wav) (pos + 8)) (eqb (chunk_name wav pos) data_name) (ltb (length wav - (pos + 8)) (chunk_size wav pos))
      (ltb-false (length wav) (pos + 8)) (eqb-false (chunk_name wav pos) data_name) (ltb-false (length wav - (pos + 8)) (chunk_size wav pos))
      (λ g. kept n (next_chunk wav pos) f d g) e
    where
      further : Option WavData
      further = walk_chunks wav n (next_chunk wav pos) (format_after wav (chunk_name wav pos) (chunk_size wav pos) (pos + 8) f)

      go : (a b c : Bool) → (a ≡ false → pos + 8 ≤ length wav) → (b ≡ false → chunk_name wav pos ≡ data_name → ⊥)
          → (c ≡ false → chunk_size wav pos ≤ length wav - (pos + 8))
          → (Reached wav (next_chunk wav pos) → walk_chunks wav n (next_chunk wav pos) f ≡ Some d → d.format ≡ f)
          → cond a None (cond b (Some (record { format = f; body = pos + 8; size = chunk_size wav pos }))
          (cond c None (walk_chunks wav n (next_chunk wav pos) (format_after wav (chunk_name wav pos) (chunk_size wav pos) (pos + 8) f)))) ≡ Some d
          → d.format ≡ f
      go true b c p q s k e = let z : ◌≡◌ {A = ℕ} 0 1 = cc in absurd (omega arith)
      go false true c p q s k e = let z : record { format = f; body = pos + 8; size = chunk_size wav pos } ≡ d = cc in sym (ap (λ (x : WavData). x.format) z)
      go false false true p q s k e = let z : ◌≡◌ {A = ℕ} 0 1 = cc in absurd (omega arith)
      go false false false p q s k e =
          k (passed pos r (p refl) (q refl) (s refl)) (sym (ap (walk_chunks wav n (next_chunk wav pos)) (same_format pos f r)) ∙ e)

  -- With no fmt chunk of 16 bytes or more before data the format is 2 channels, 44,100 Hz, 16 bits.
  pub defaults : (d : WavData) → walked wav ≡ Some d → d.format ≡ default_format
  defaults d e = kept (length wav) 12 default_format d at_first e
