-- When each refusal of the WAV reader comes, exactly: 22, 23, 24, 30, 2, 25 in this order. Assumes nothing.
use mathlib.Core.Path.{◌≡◌, refl, sym, ap, ◌∙◌}
use mathlib.Core.Logic.{◌↔◌, ◌⊎◌, inl, inr}
use mathlib.Core.List.{List}
use mathlib.Core.Bool.{Bool, true, false, cond, not, ◌&&◌}
use Prim.Native.Nat.{ℕ, zero, suc, ◌+◌, ◌-◌, ◌≤◌, ◌<◌}
use native.Mathlib.Omega.{arith}
use borrow.Author.Tests.{not-true, not-false, leb-true, ltb-true, ltb-false, eqb-true, eqb-false, le-leb, lt-ltb, le-ltb, eq-eqb, ne_eqb}
use lib.Dec.{leb, eqb, ltb}
use lib.Ieee.{Float}
use lib.ListN.{length}
use Rattle.std.specs.Prelude.{Option, Some, None}
use Rattle.buffers.proofs.Tests.{and_fst, and_snd, and-true, cond_both}
use Rattle.numbers.specs.Numbers.{of_low}
use Rattle.rules.specs.Refusals.{Outcome, refused}
use Rattle.rules.proofs.Answers.{never}
use Rattle.rules_files.specs.Wav.{low_at, is_wave, chunk_name, chunk_size, next_chunk, format_after, data_name, default_format, walk_chunks, walked}
use Rattle.rules_files.specs.Wav.{is_depth, whole_samples, all_finite}
use Rattle.rules_files.specs.Wav.{WavLeft, wav_refused, wav_taken, data_read, walk_read, read_wav}
use Rattle.rules_files.specs.declared.wav.WavFormat.{WavFormat}
use Rattle.rules_files.specs.declared.wav.WavData.{WavData}
use Rattle.rules_files.proofs.Chunks.{format_next, walk_start, walk-next, walk_end, walk_cut}
use Rattle.wav_demands.proofs.Formats.{Reached, at_first, passed}
use Rattle.wav_demands.proofs.Orders.{data_case}

-- ---- 22: what makes a WAV file

-- 44 bytes or more, `RIFF` at 0 and `WAVE` at 8, read as numbers with the low byte first
pub record IsWave (wav : List ℕ) : Type 0 where
  pub long : 44 ≤ length wav
  pub riff : low_at wav 0 4 ≡ 0x46464952
  pub wave : low_at wav 8 4 ≡ 0x45564157

pub wave_facts : (wav : List ℕ) → is_wave wav ≡ true → IsWave wav
unfolding is_wave of_low
wave_facts wav e =
    let names : (eqb (low_at wav 0 4) 0x46464952 && eqb (low_at wav 8 4) 0x45564157) ≡ true = and_snd (leb 44 (length wav)) _ e in
    record {
      long = leb-true 44 (length wav) (and_fst (leb 44 (length wav)) _ e);
      riff = eqb-true (low_at wav 0 4) 0x46464952 (and_fst (eqb (low_at wav 0 4) 0x46464952) _ names);
      wave = eqb-true (low_at wav 8 4) 0x45564157 (and_snd (eqb (low_at wav 0 4) 0x46464952) _ names);
    }

pub wave_true : (wav : List ℕ) → IsWave wav → is_wave wav ≡ true
unfolding is_wave of_low
wave_true wav w = and-true (le-leb _ _ w.long) (and-true (eq-eqb _ _ w.riff) (eq-eqb _ _ w.wave))

-- ---- the walk that ends

-- it comes to fewer than 8 bytes, or to a chunk other than data that runs past the file
pub record WalkEnds (wav : List ℕ) : Type 0 where
  pub place : ℕ
  pub reached : Reached wav place
  pub stops : (length wav < place + 8)
      ⊎ ((place + 8 ≤ length wav) × (chunk_name wav place ≡ data_name → ⊥) × (length wav - (place + 8) < chunk_size wav place))

module _ (wav : List ℕ) where
  abbrev next : (n pos : ℕ) (f : WavFormat) → Option WavData
  next n pos f = walk_chunks wav n (next_chunk wav pos) (format_after wav (chunk_name wav pos) (chunk_size wav pos) (pos + 8) f)

  abbrev turn : (n pos : ℕ) (f : WavFormat) (a b c : Bool) → Option WavData
  turn n pos f a b c =
      cond a None
      (cond b (Some (record { format = f; body = pos + 8; size = chunk_size wav pos }))
      (cond c None (next n pos f)))

  ends : (n pos : ℕ) (f : WavFormat) → length wav ≤ n + pos → Reached wav pos → walk_chunks wav n pos f ≡ None → WalkEnds wav
  unfolding walk_chunks
  ends zero pos f h r e = record { place = pos; reached = r; stops = inl (omega arith) }
  ends (suc n) pos f h r e =
      go (ltb (length wav) (pos + 8)) (eqb (chunk_name wav pos) data_name) (ltb (length wav - (pos + 8)) (chunk_size wav pos))
      (ltb-true (length wav) (pos + 8)) (ltb-false (length wav) (pos + 8)) (eqb-false (chunk_name wav pos) data_name)
      (ltb-true (length wav - (pos + 8)) (chunk_size wav pos)) (ltb-false (length wav - (pos + 8)) (chunk_size wav pos))
      (ends n (next_chunk wav pos) (format_after wav (chunk_name wav pos) (chunk_size wav pos) (pos + 8) f)) e
    where
      go : (a b c : Bool) → (a ≡ true → length wav < pos + 8) → (a ≡ false → pos + 8 ≤ length wav) → (b ≡ false → chunk_name wav pos ≡ data_name → ⊥)
          → (c ≡ true → length wav - (pos + 8) < chunk_size wav pos) → (c ≡ false → chunk_size wav pos ≤ length wav - (pos + 8))
          → (length wav ≤ n + next_chunk wav pos → Reached wav (next_chunk wav pos) → next n pos f ≡ None → WalkEnds wav)
          → turn n pos f a b c ≡ None → WalkEnds wav
      go true b c short long other past whole further e = record { place = pos; reached = r; stops = inl (short refl) }
      go false true c short long other past whole further e = let z : ◌≡◌ {A = ℕ} 0 1 = cc in absurd (omega arith)
      go false false true short long other past whole further e = record { place = pos; reached = r; stops = inr (long refl, other refl, past refl) }
      go false false false short long other past whole further e = further (omega arith) (passed pos r (long refl) (other refl) (whole refl)) e

  -- from a chunk that it comes to it goes on as from the first
  goes_on : (pos : ℕ) → Reached wav pos → (f : WavFormat) × (walked wav ≡ walk_chunks wav (length wav - pos) pos f)
  goes_on _ at_first = (default_format, sym (walk_start wav))
  goes_on _ (passed pos r h other k) = let x = goes_on pos r in (format_next wav pos x.0, x.1 ∙ walk-next wav pos x.0 h other k)

  stopped : (pos : ℕ) → Reached wav pos
      → (length wav < pos + 8) ⊎ ((pos + 8 ≤ length wav) × (chunk_name wav pos ≡ data_name → ⊥) × (length wav - (pos + 8) < chunk_size wav pos))
      → walked wav ≡ None
  stopped pos r (inl h) = let x = goes_on pos r in x.1 ∙ walk_end wav pos x.0 h
  stopped pos r (inr (h, other, k)) = let x = goes_on pos r in x.1 ∙ walk_cut wav pos x.0 h other k

  pub walk_ends_exactly : (walked wav ≡ None) ↔ WalkEnds wav
  walk_ends_exactly = (ends (length wav) 12 default_format (omega arith) at_first, (λ w. stopped w.place w.reached w.stops))

-- ---- the whole call

other : {A : Type 0} {a b n k : ℕ} → refused a b ≡ refused n k → eqb a n ≡ false → A
other {A} {a} {b} {n} {k} e d = let z : a ≡ n = cc e in absurd (eqb-false a n d z)

-- a WAV file whose walk stops at data; and at data that is not empty
pub record DataFound (wav : List ℕ) (d : WavData) : Type 0 where
  pub file : IsWave wav
  pub found : walked wav ≡ Some d

pub record SomeData (wav : List ℕ) (d : WavData) : Type 0 where
  pub at : DataFound wav d
  pub some : d.size ≡ 0 → ⊥

module _ (wav : List ℕ) (samples : List Float) where
  walk_case : (P : WavLeft → Type 0) (w : Option WavData) → (w ≡ None → P (wav_refused 23 samples))
      → ((d : WavData) → w ≡ Some d → P (data_read wav d samples)) → P (walk_read wav w samples)
  unfolding walk_read
  walk_case P None ended found = ended refl
  walk_case P (Some d) ended found = found d refl

  -- what each end has, every end has
  pub wav_case : (P : WavLeft → Type 0) → ((IsWave wav → ⊥) → P (wav_refused 22 samples)) → (IsWave wav → WalkEnds wav → P (wav_refused 23 samples))
      → ((d : WavData) → DataFound wav d → P (data_read wav d samples)) → P (read_wav wav samples)
  unfolding read_wav
  wav_case P none ended found =
      cond_both P (not (is_wave wav)) (λ a. none (λ w. clash (sym (not-true _ a) ∙ wave_true wav w)))
      (λ a. let w : IsWave wav = wave_facts wav (not-false _ a) in
      walk_case P (walked wav) (λ e. ended w ((walk_ends_exactly wav).0 e)) (λ d e. found d (record { file = w; found = e })))
    where
      clash : false ≡ true → ⊥
      clash q = let z : ◌≡◌ {A = ℕ} 0 1 = cc in omega arith

  -- and back
  to_data : (d : WavData) → DataFound wav d → read_wav wav samples ≡ data_read wav d samples
  unfolding read_wav walk_read
  to_data d x = rw (wave_true wav x.file, x.found)

  to_end : IsWave wav → WalkEnds wav → read_wav wav samples ≡ wav_refused 23 samples
  unfolding read_wav walk_read
  to_end w x = rw (wave_true wav w, (walk_ends_exactly wav).1 x)

  -- 22 exactly where it is no WAV file
  pub twenty_two_exactly : ((read_wav wav samples).outcome ≡ refused 22 0) ↔ (IsWave wav → ⊥)
  unfolding read_wav wav_taken
  twenty_two_exactly = (
    wav_case (λ x. x.outcome ≡ refused 22 0 → IsWave wav → ⊥) (λ a _. a) (λ _ _ e. other e refl)
        (λ d _. data_case wav d samples (λ x. x.outcome ≡ refused 22 0 → IsWave wav → ⊥) (λ _ e. other e refl) (λ _ _ e. other e refl)
        (λ _ _ _ e. other e refl) (λ _ _ _ _ e. other e refl) (λ _ _ _ _ _ e. other e refl) (λ _ _ _ _ _ e. never e)),
    (λ none. rw (no_wave none)),
  )
    where
      by : (b : Bool) → is_wave wav ≡ b → (IsWave wav → ⊥) → is_wave wav ≡ false
      by true e none = absurd (none (wave_facts wav e))
      by false e none = e

      no_wave : (IsWave wav → ⊥) → is_wave wav ≡ false
      no_wave = by (is_wave wav) refl

  -- 23 exactly where it is one and the walk ends, or data is empty
  pub twenty_three_exactly : ((read_wav wav samples).outcome ≡ refused 23 0)
      ↔ (IsWave wav × (WalkEnds wav ⊎ ((d : WavData) × (walked wav ≡ Some d) × (d.size ≡ 0))))
  unfolding data_read wav_taken
  twenty_three_exactly = (
    wav_case Claim (λ _ e. other e refl) (λ w x _. (w, inl x))
        (λ d x. data_case wav d samples Claim (λ none _. (x.file, inr (d, x.found, none))) (λ _ _ e. other e refl) (λ _ _ _ e. other e refl)
        (λ _ _ _ _ e. other e refl) (λ _ _ _ _ _ e. other e refl) (λ _ _ _ _ _ e. never e)),
    (λ x. back x.0 x.1),
  )
    where
      Claim : WavLeft → Type 0
      Claim x = x.outcome ≡ refused 23 0 → IsWave wav × (WalkEnds wav ⊎ ((d : WavData) × (walked wav ≡ Some d) × (d.size ≡ 0)))

      back : IsWave wav → WalkEnds wav ⊎ ((d : WavData) × (walked wav ≡ Some d) × (d.size ≡ 0)) → (read_wav wav samples).outcome ≡ refused 23 0
      back w (inl x) = ap (λ (x : WavLeft). x.outcome) (to_end w x)
      back w (inr (d, e, none)) = ap (λ (x : WavLeft). x.outcome) (to_data d (record { file = w; found = e })) ∙ rw (eq-eqb _ _ none)

  -- 24 exactly where there is data of another depth
  pub twenty_four_exactly : ((read_wav wav samples).outcome ≡ refused 24 0) ↔ ((d : WavData) × SomeData wav d × (is_depth d.format.depth ≡ false))
  unfolding data_read wav_taken
  twenty_four_exactly = (
    wav_case Claim (λ _ e. other e refl) (λ _ _ e. other e refl)
        (λ d x. data_case wav d samples Claim (λ _ e. other e refl) (λ some deep _. (d, record { at = x; some = some }, deep)) (λ _ _ _ e. other e refl)
        (λ _ _ _ _ e. other e refl) (λ _ _ _ _ _ e. other e refl) (λ _ _ _ _ _ e. never e)),
    (λ x. let (d, s, deep) = x in ap (λ (x : WavLeft). x.outcome) (to_data d s.at) ∙ rw (ne_eqb _ _ s.some, deep)),
  )
    where
      Claim : WavLeft → Type 0
      Claim x = x.outcome ≡ refused 24 0 → (d : WavData) × SomeData wav d × (is_depth d.format.depth ≡ false)

  -- 30 exactly where there are more than 16,777,216 whole samples of a known depth, whatever the buffer
  pub thirty_exactly : ((read_wav wav samples).outcome ≡ refused 30 0)
      ↔ ((d : WavData) × SomeData wav d × (is_depth d.format.depth ≡ true) × (16777216 < whole_samples wav d))
  unfolding data_read wav_taken
  thirty_exactly = (
    wav_case Claim (λ _ e. other e refl) (λ _ _ e. other e refl)
        (λ d x. data_case wav d samples Claim (λ _ e. other e refl) (λ _ _ e. other e refl)
        (λ some deep many _. (d, record { at = x; some = some }, deep, many))
        (λ _ _ _ _ e. other e refl) (λ _ _ _ _ _ e. other e refl) (λ _ _ _ _ _ e. never e)),
    (λ x. let (d, s, deep, many) = x in ap (λ (x : WavLeft). x.outcome) (to_data d s.at) ∙ rw (ne_eqb _ _ s.some, deep, lt-ltb _ _ many)),
  )
    where
      Claim : WavLeft → Type 0
      Claim x = x.outcome ≡ refused 30 0 → (d : WavData) × SomeData wav d × (is_depth d.format.depth ≡ true) × (16777216 < whole_samples wav d)

  -- 2 exactly where there are no more than that, and more than places
  pub wav_two_exactly : ((read_wav wav samples).outcome ≡ refused 2 0)
      ↔ ((d : WavData) × SomeData wav d × (is_depth d.format.depth ≡ true) × (whole_samples wav d ≤ 16777216) × (length samples < whole_samples wav d))
  unfolding data_read wav_taken
  wav_two_exactly = (
    wav_case Claim (λ _ e. other e refl) (λ _ _ e. other e refl)
        (λ d x. data_case wav d samples Claim (λ _ e. other e refl) (λ _ _ e. other e refl) (λ _ _ _ e. other e refl)
        (λ some deep few short _. (d, record { at = x; some = some }, deep, few, short)) (λ _ _ _ _ _ e. other e refl) (λ _ _ _ _ _ e. never e)),
    (λ x. let (d, s, deep, few, short) = x in
        ap (λ (x : WavLeft). x.outcome) (to_data d s.at) ∙ rw (ne_eqb _ _ s.some, deep, le-ltb _ _ few, lt-ltb _ _ short)),
  )
    where
      Claim : WavLeft → Type 0
      Claim x =
          x.outcome ≡ refused 2 0
          → (d : WavData) × SomeData wav d × (is_depth d.format.depth ≡ true) × (whole_samples wav d ≤ 16777216) × (length samples < whole_samples wav d)

  -- 25 exactly where all that is right and a sample is not finite
  pub twenty_five_exactly : ((read_wav wav samples).outcome ≡ refused 25 0)
      ↔ ((d : WavData) × SomeData wav d × (is_depth d.format.depth ≡ true) × (whole_samples wav d ≤ 16777216) × (whole_samples wav d ≤ length samples)
      × (all_finite wav d.format.depth d.body (whole_samples wav d) ≡ false))
  unfolding data_read wav_taken
  twenty_five_exactly = (
    wav_case Claim (λ _ e. other e refl) (λ _ _ e. other e refl)
        (λ d x. data_case wav d samples Claim (λ _ e. other e refl) (λ _ _ e. other e refl) (λ _ _ _ e. other e refl) (λ _ _ _ _ e. other e refl)
        (λ some deep few room endless _. (d, record { at = x; some = some }, deep, few, room, endless)) (λ _ _ _ _ _ e. never e)),
    (λ x. let (d, s, deep, few, room, endless) = x in
        ap (λ (x : WavLeft). x.outcome) (to_data d s.at) ∙ rw (ne_eqb _ _ s.some, deep, le-ltb _ _ few, le-ltb _ _ room, endless)),
  )
    where
      Claim : WavLeft → Type 0
      Claim x =
          x.outcome ≡ refused 25 0
          → (d : WavData) × SomeData wav d × (is_depth d.format.depth ≡ true) × (whole_samples wav d ≤ 16777216) × (whole_samples wav d ≤ length samples)
          × (all_finite wav d.format.depth d.body (whole_samples wav d) ≡ false)
