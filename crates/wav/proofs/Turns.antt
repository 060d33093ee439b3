-- What each place of the code says of the definitions: the file's two names, a format, a turn of the walk. Assumes nothing.
use mathlib.Core.Path.{◌≡◌, refl, sym, ap, ◌∙◌, subst}
use mathlib.Core.List.{List}
use mathlib.Core.Bool.{Bool, true, false, cond, ◌&&◌}
use Prim.Native.Nat.{ℕ, ◌+◌, ◌-◌, ◌%◌, ◌≤◌, ◌<◌}
use native.Mathlib.Omega.{arith}
use lib.Dec.{eqb, leb}
use borrow.Author.Tests.{leb-true}
use lib.ListN.{length, take, drop, length-drop}
use lib.Seq.{take-take, drop-drop, length-take-le}
use Rattle.std.proofs.lemmas.List.{drop-take}
use Rattle.std.specs.Prelude.{Some, None}
use Rattle.numbers.specs.Numbers.{of_low}
use Rattle.rules_files.specs.Wav.{low_at, riff_name, wave_name, fmt_name, data_name, is_wave, default_format, gives_format, format_in, format_after, chunk_name, chunk_size}
use Rattle.rules_files.specs.Wav.{walk_chunks, walked}
use Rattle.rules_files.specs.WavFits.{FormatFits, WalkFits}
use Rattle.rules_files.specs.declared.wav.WavFormat.{WavFormat}
use Rattle.rules_files.proofs.Chunks.{walk_start, walk_end, walk-found, walk_cut, walk-next}

-- ---- the names as the code has them

riff_is : riff_name ≡ 1179011410
unfolding of_low
riff_is = refl

wave_is : wave_name ≡ 1163280727
unfolding of_low
wave_is = refl

fmt-is : fmt_name ≡ 544501094
unfolding of_low
fmt-is = refl

data_is : data_name ≡ 1635017060
unfolding of_low
data_is = refl

-- ---- the file's front

module _ (wav : List ℕ) where
  pub wave_split : is_wave wav ≡ (leb 44 (length wav) && (eqb (low_at wav 0 4) 1179011410 && eqb (low_at wav 8 4) 1163280727))
  unfolding is_wave
  wave_split = rw (riff_is, wave_is)

-- ---- a format

pub default_fits : FormatFits default_format
unfolding default_format
default_fits = record { channels = omega arith; rate = omega arith; depth = omega arith }

pub format_split : (wav : List ℕ) (name size body : ℕ) (f : WavFormat)
    → format_after wav name size body f ≡ cond (eqb name 544501094 && leb 16 size) (format_in wav body) f
unfolding format_after gives_format
format_split wav name size body f = rw fmt-is

inside : (a n size : ℕ) (xs : List ℕ) → a + n ≤ size → take n (drop a (take size xs)) ≡ take n (drop a xs)
inside a n size xs h =
    let e : size ≡ a + (size - a) = omega arith in
    ap (λ m. take n (drop a (take m xs))) e ∙ ap (take n) (drop-take a (size - a) xs) ∙ take-take n (size - a) (drop a xs) (omega arith)

choose : (b c : Bool) (x y f : WavFormat) → (c ≡ true → x ≡ y) → cond (b && c) x f ≡ cond (b && c) y f
choose true true x y f h = h refl
choose true false x y f h = refl
choose false c x y f h = refl

-- the same from the chunk's own bytes
module _ (wav : List ℕ) (size body : ℕ) (h : body + size ≤ length wav) (chunk : List ℕ) (e : chunk ≡ take size (drop body wav)) where
  read : (a n : ℕ) → a + n ≤ size → low_at chunk a n ≡ low_at wav (body + a) n
  read a n l = ap of_low (ap (λ c. take n (drop a c)) e ∙ inside a n size (drop body wav) l ∙ ap (take n) (drop-drop a body wav))

  same : 16 ≤ size → format_in chunk 0 ≡ format_in wav body
  unfolding format_in
  same l = λ i. record { channels = read 2 2 (omega arith) i; rate = read 4 4 (omega arith) i; depth = read 14 2 (omega arith) i }

  pub format_of_chunk : (name : ℕ) (f : WavFormat) → format_after chunk name (length chunk) 0 f ≡ format_after wav name size body f
  unfolding format_after gives_format
  format_of_chunk name f =
      let long : length chunk ≡ size = ap length e ∙ length-take-le size (drop body wav) (omega (arith, length-drop body wav)) in
      ap (λ n. cond (eqb name fmt_name && leb 16 n) (format_in chunk 0) f) long
      ∙ choose (eqb name fmt_name) (leb 16 size) _ _ f (λ t. same (leb-true _ _ t))

-- ---- a turn

-- what the loop keeps: what is left of the walk is the whole walk
abbrev pub ToWalk : (wav : List ℕ) (at : ℕ) (f : WavFormat) → Type 0
ToWalk wav at f = (at ≤ length wav + 12) × FormatFits f × (walk_chunks wav (length wav - at) at f ≡ walked wav)

module _ (wav : List ℕ) where
  pub walk_none : (f : WavFormat) → f ≡ default_format → FormatFits f → ToWalk wav 12 f
  walk_none f e h = (omega arith, h, ap (walk_chunks wav (length wav - 12) 12) e ∙ walk_start wav)

  pub walk-over : (at : ℕ) (f : WavFormat) → length wav < at + 8 → ToWalk wav at f → (None ≡ walked wav) × WalkFits wav None
  unfolding WalkFits
  walk-over at f h t = (sym (walk_end wav at f h) ∙ t.2, tt)

  module _ (at : ℕ) (f : WavFormat) (name size : ℕ) (h : at + 8 ≤ length wav) (p : name ≡ chunk_name wav at) (q : size ≡ chunk_size wav at)
      (t : ToWalk wav at f) where
    pub walk_stops : name ≡ 1635017060 → size < 4294967296
        → (Some (record { format = f; body = at + 8; size = size }) ≡ walked wav)
        × WalkFits wav (Some (record { format = f; body = at + 8; size = size }))
    unfolding WalkFits
    walk_stops e k = (
      rw q (sym (walk-found wav at f h (sym p ∙ e ∙ sym data_is)) ∙ t.2),
      record { fields = t.1; body = h; size = k },
    )

    module _ (other : name ≡ 1635017060 → ⊥) where
      not_data : chunk_name wav at ≡ data_name → ⊥
      not_data e = other (p ∙ e ∙ data_is)

      pub walk-leaves : length wav - (at + 8) < size → (None ≡ walked wav) × WalkFits wav None
      unfolding WalkFits
      walk-leaves k = (sym (walk_cut wav at f h not_data (subst (λ (n : ℕ). length wav - (at + 8) < n) q k)) ∙ t.2, tt)

      pub walk_passes : size ≤ length wav - (at + 8) → (g : WavFormat) → g ≡ format_after wav name size (at + 8) f → FormatFits g
          → ToWalk wav (at + 8 + size + size % 2) g
      walk_passes k g e fits =
          (omega arith, fits, rw (e, p, q) (sym (walk-next wav at f h not_data (subst (λ (n : ℕ). n ≤ length wav - (at + 8)) q k)) ∙ t.2))
