-- Request A5's sentences about a line, over any step: what each frame gives, where a line stops, what its buffers and the tally then hold. What they say of
-- `line_over step` and of `encode_stereo_line` stands in Lines.antt and StereoLines.antt. Assumes nothing.
use mathlib.Core.Path.{◌≡◌, refl, sym, ◌∙◌, ap, subst}
use mathlib.Core.List.{List, [], ◌∷◌, ◌++◌, append-nil}
use mathlib.Core.Bool.{true}
use mathlib.Core.Option.{Option, none, some}
use Prim.Native.Nat.{ℕ, zero, suc, ◌+◌, ◌*◌, ◌≤◌, ◌<◌}
use native.Mathlib.Numerals.{add-one}
use native.Mathlib.Nat.{mul-le-mul_right}
use native.Mathlib.Omega.{arith}
use types.Run.{OneOf}
use lib.IntN.{ℤ}
use lib.Ieee.{Float}
use lib.ListN.{length, get_or, take, drop, drop_of_length-le, length-replicate}
use lib.Seq.{take_all}
use Rattle.buffers.specs.Walk.{blocks}
use Rattle.buffers.proofs.Blocks.{blocks_at, blocks-rest}
use Rattle.rules.specs.Layout.{frame_size, spectrum_length, factor_length, side_length, part}
use Rattle.rules.specs.Lent.{overwrite, no_floats, no_codes, no_factors, no_side, no_frame}
use Rattle.rules.specs.Refusals.{Outcome, delivered, refused}
use Rattle.rules.specs.Stage.{StageLent, stage_lent}
use Rattle.rules.specs.Reader.{ReaderLent, reader_has_room, read_frame}
use Rattle.rules.specs.declared.Mode.TheVariants.{Held}
use Rattle.rules.specs.declared.Layout.{Layout}
use Rattle.rules.proofs.Answers.{never}
use Rattle.rules.proofs.Cuts.{length_part}
use Rattle.rules.proofs.Layouts.{legal_true}
use Rattle.rules_demands.proofs.Calls.{handed}
use Rattle.rules_demands.proofs.StageCalls.{held_read}
use Rattle.rules_stereo.specs.Stereo.{StereoLeft}
use Rattle.rules_line.specs.Line.{LineLent, LineLeft, line_room, line_gate, Step, frame_lent, step_at, line_turn, line_kept, turn_lent, line_after}
use Rattle.rules_line.specs.Line.{line_behind_gate, line_over}
use Rattle.rules_line.proofs.Gates.{Admitted, gate_open, gate_grants, gate_case}
use Rattle.rules_line.proofs.Turns.{turn_after, after_next, after_stays}
use Rattle.line_demands.proofs.Singles.{Roomy, StepFacts}
use Rattle.line_demands.proofs.Standing.{all_lent, single, spectra_at, intensities_at, bytes_at, answers_at, tally_over, Tried, Ran, Ended, Stands, ran, ended}
use Rattle.line_demands.proofs.Standing.{stands, spectra-long, intensities-long, bytes-long, answers-long, frame-granted}
use Rattle.line_demands.proofs.Standing.{lent_roomy, with_work, now-single}

-- ---- what the statements name

-- refusals 1, 18 and 2 are passed
abbrev pub Admits : (l : Layout) (count : ℕ) (t : LineLent) → Type 0
Admits l count t = line_gate l count (line_room t) (length t.answers) t.tally ≡ none

-- how many of count frames were delivered, and how many were tried, by the index of the one that was refused
abbrev pub done_of : (index : Option ℕ) (count : ℕ) → ℕ
done_of none count = count
done_of (some k) count = k

abbrev pub tried_of : (index : Option ℕ) (count : ℕ) → ℕ
tried_of none count = count
tried_of (some k) count = k + 1

abbrev pub done_over : (step : Step) (l : Layout) (count : ℕ) (t : LineLent) → ℕ
done_over step l count t = done_of (line_over step l count t).index count

-- frame k's own parts, with other work buffers
abbrev pub frame_with : (l : Layout) (t : LineLent) (k : ℕ) (scaled : List Float) (codes : List ℤ) (factors side : List ℕ) → StageLent
frame_with l t k scaled codes factors side =
    stage_lent (part (spectrum_length l) t.spectra k) (part (side_length l) t.intensities k) scaled codes factors side (part (frame_size l) t.frames k)

-- work buffers of at least one frame's length
pub record WorkRoom (l : Layout) (sc : List Float) (co : List ℤ) (fa si : List ℕ) : Type 0 where
  pub scaled : spectrum_length l ≤ length sc
  pub codes : spectrum_length l ≤ length co
  pub factors : factor_length l ≤ length fa
  pub side : side_length l ≤ length si

-- the four work buffers are these
pub record Works (x : LineLeft) (sc : List Float) (co : List ℤ) (fa si : List ℕ) : Type 0 where
  pub scaled : x.scaled ≡ sc
  pub codes : x.codes ≡ co
  pub factors : x.factors ≡ fa
  pub side : x.side ≡ si

-- ---- behind the gate

pub over-after : (step : Step) (l : Layout) (count : ℕ) (t : LineLent) → Admits l count t → line_over step l count t ≡ line_after step l t count
unfolding line_over line_behind_gate
over-after step l count t a = ap (λ o. line_behind_gate o t (line_after step l t count)) a

-- ---- how a line ended

-- all frames were delivered: what is behind them is as lent
pub record Whole (step : Step) (l : Layout) (count : ℕ) (t : LineLent) : Type 0 where
  pub outcome : (line_over step l count t).outcome ≡ delivered []
  pub spectra : drop (count * spectrum_length l) (line_over step l count t).spectra ≡ drop (count * spectrum_length l) t.spectra
  pub intensities : drop (count * side_length l) (line_over step l count t).intensities ≡ drop (count * side_length l) t.intensities
  pub frames : drop (count * frame_size l) (line_over step l count t).frames ≡ drop (count * frame_size l) t.frames
  pub answers : drop (count * 4) (line_over step l count t).answers ≡ drop (count * 4) t.answers

-- frame k was refused: by the single call, with one of the numbers that come late
pub record Stopped (step : Step) (numbers : List ℕ) (Keeps Clears : ℕ → Type 0) (l : Layout) (count : ℕ) (t : LineLent) (k : ℕ) : Type 0 where
  pub below : k < count
  pub number : ℕ
  pub beside : ℕ
  pub late : OneOf numbers number
  pub refusal : (single step l t k).outcome ≡ refused number beside
  pub outcome : (line_over step l count t).outcome ≡ refused number beside
  -- its area: as the single call leaves it, as lent or zero by the number
  pub area : part (frame_size l) (line_over step l count t).frames k ≡ (single step l t k).frame
  pub kept : Keeps number → part (frame_size l) (line_over step l count t).frames k ≡ part (frame_size l) t.frames k
  pub cleared : Clears number → part (frame_size l) (line_over step l count t).frames k ≡ no_frame l
  -- its spectra and intensities too
  pub spectra : part (spectrum_length l) (line_over step l count t).spectra k ≡ (single step l t k).spectra
  pub intensities : part (side_length l) (line_over step l count t).intensities k ≡ (single step l t k).intensities
  pub kept-spectra : Keeps number → part (spectrum_length l) (line_over step l count t).spectra k ≡ part (spectrum_length l) t.spectra k
  pub kept-intensities : Keeps number → part (side_length l) (line_over step l count t).intensities k ≡ part (side_length l) t.intensities k
  -- what is behind it
  pub later : drop ((k + 1) * frame_size l) (line_over step l count t).frames ≡ drop ((k + 1) * frame_size l) t.frames
  pub later-spectra : drop ((k + 1) * spectrum_length l) (line_over step l count t).spectra ≡ drop ((k + 1) * spectrum_length l) t.spectra
  pub later-intensities : drop ((k + 1) * side_length l) (line_over step l count t).intensities ≡ drop ((k + 1) * side_length l) t.intensities
  pub answers : drop (k * 4) (line_over step l count t).answers ≡ drop (k * 4) t.answers

module _ (step : Step) (late : List ℕ) (Keeps Clears : ℕ → Type 0) (facts : StepFacts step late Keeps Clears) (l : Layout) (count : ℕ) (t : LineLent)
    (a : Admits l count t) where
  pub granted : Admitted l count (line_room t) (length t.answers) t.tally
  granted = gate_open l count (line_room t) (length t.answers) t.tally a

  pub standing : Stands step l t count (line_over step l count t)
  standing = subst (Stands step l t count) (sym (over-after step l count t a)) (stands step late Keeps Clears facts l t count granted count (omega arith))

  -- a shorter line is let in too
  pub shorter : (k : ℕ) → k ≤ count → Admits l k t
  shorter k h =
      let g = granted in
      gate_grants l k (line_room t) (length t.answers) t.tally (record {
        layout = g.layout;
        batch = record { few = omega (arith, g.batch.few); frames = g.batch.frames; bits = g.batch.bits; pairs = g.batch.pairs };
        room = record {
          spectra = omega (arith, g.room.spectra, mul-le-mul_right (spectrum_length l) h);
          intensities = omega (arith, g.room.intensities, mul-le-mul_right (side_length l) h);
          scaled = g.room.scaled;
          factors = g.room.factors;
          side = g.room.side;
          codes = g.room.codes;
          frames = omega (arith, g.room.frames, mul-le-mul_right (frame_size l) h);
          answers = omega (arith, g.room.answers);
        };
      })

  -- ---- the frames

  -- frame k's parts are those that the single call leaves
  record TriedAt (x : LineLeft) (k : ℕ) : Type 0 where
    spectra : part (spectrum_length l) x.spectra k ≡ spectra_at step l t k
    intensities : part (side_length l) x.intensities k ≡ intensities_at step l t k
    bytes : part (frame_size l) x.frames k ≡ bytes_at step l t k

  record Given (x : LineLeft) (k : ℕ) : Type 0 where
    below : k < count
    outcome : (single step l t k).outcome ≡ delivered (answers_at step l t k)
    answers : part 4 x.answers k ≡ answers_at step l t k
    tried : TriedAt x k

  answers_at_lem : (n k : ℕ) (x y : LineLeft) → Ran step l t n y → x.answers ≡ y.answers → k < n → part 4 x.answers k ≡ answers_at step l t k
  answers_at_lem n k x y r e h =
      ap (λ ys. part 4 ys k) (e ∙ r.answers)
      ∙ blocks_at (answers_at step l t) 4 n (λ j g. answers-long step late Keeps Clears facts l t count granted j (r.each j g)) n k (drop (n * 4)
      t.answers) (omega arith) h

  tried_at : (n k : ℕ) (x : LineLeft) → n ≤ count → Tried step l t n x → k < n → TriedAt x k
  tried_at n k x g e h = record {
    spectra = ap (λ ys. part (spectrum_length l) ys k) e.spectra
        ∙ blocks_at (spectra_at step l t) (spectrum_length l) count (spectra-long step late Keeps Clears facts l t count granted) n k (drop
        (n * spectrum_length l) t.spectra) g h;
    intensities = ap (λ ys. part (side_length l) ys k) e.intensities
        ∙ blocks_at (intensities_at step l t) (side_length l) count (intensities-long step late Keeps Clears facts l t count granted) n k (drop
        (n * side_length l) t.intensities) g h;
    bytes = ap (λ ys. part (frame_size l) ys k) e.frames
        ∙ blocks_at (bytes_at step l t) (frame_size l) count (bytes-long step late Keeps Clears facts l t count granted) n k (drop (n * frame_size l)
        t.frames) g h;
  }

  given : (x : LineLeft) → Stands step l t count x → (k : ℕ) → k < done_of x.index count → Given x k
  given x (ran i r) k h =
      let z : k < count = rw i at h in
      record { below = z; outcome = r.each k z; answers = answers_at_lem count k x x r refl z; tried = tried_at count k x (omega arith) r.tried z }
  given x (ended n g i j e) k h =
      let z : k < n = rw i at h in
      record {
        below = omega arith;
        outcome = e.before.each k z;
        answers = answers_at_lem n k x (line_after step l t n) e.before e.answers z;
        tried = tried_at (n + 1) k x (omega arith) e.tried (omega arith);
      }

  -- A delivered frame's bytes and answers are those of the single call on that frame, with any work buffers that are long enough.
  pub over-frame : (k : ℕ) → k < done_over step l count t → (scaled : List Float) (codes : List ℤ) (factors side : List ℕ) → WorkRoom l scaled codes factors side
      → ((step l (frame_with l t k scaled codes factors side)).outcome ≡ delivered (part 4 (line_over step l count t).answers k))
      × ((step l (frame_with l t k scaled codes factors side)).frame ≡ part (frame_size l) (line_over step l count t).frames k)
  over-frame k h sc co fa si w =
      let g = given (line_over step l count t) standing k h in
      let r : Roomy l (frame_with l t k sc co fa si) = record {
        scaled = w.scaled;
        codes = w.codes;
        factors = w.factors;
        side = w.side;
        frame = omega (arith, length_part (frame_size l) count k t.frames granted.room.frames g.below);
      } in
      let s = with_work step late Keeps Clears facts l t count granted (frame_with l t k sc co fa si) k g.below refl refl refl r in
      (s.outcome ∙ g.outcome ∙ ap delivered (sym g.answers), s.frame ∙ sym g.tried.bytes)

  -- Its spectra and intensities are left as that single call leaves them.
  pub over-signal : (k : ℕ) → k < done_over step l count t
      → (part (spectrum_length l) (line_over step l count t).spectra k ≡ (single step l t k).spectra)
      × (part (side_length l) (line_over step l count t).intensities k ≡ (single step l t k).intensities)
  over-signal k h = let g = given (line_over step l count t) standing k h in (g.tried.spectra, g.tried.intensities)

  -- ---- in held mode a delivered frame is read back

  four : (ns : List ℕ) → length ns ≡ 4 → ns ≡ get_or ns 0 0 ∷ get_or ns 1 0 ∷ get_or ns 2 0 ∷ get_or ns 3 0 ∷ []
  four (x ∷ y ∷ z ∷ w ∷ []) e = refl
  four [] e = absurd (omega arith)
  four (x ∷ []) e = absurd (omega arith)
  four (x ∷ y ∷ []) e = absurd (omega arith)
  four (x ∷ y ∷ z ∷ []) e = absurd (omega arith)
  four (x ∷ y ∷ z ∷ w ∷ v ∷ ns) e = absurd (omega arith)

  -- what the single call on frame k delivered is the stage's
  pub said_of : (k : ℕ) → k < done_over step l count t → let said : List ℕ = part 4 (line_over step l count t).answers k in
      (single step l t k).outcome ≡ delivered (get_or said 0 0 ∷ get_or said 1 0 ∷ get_or said 2 0 ∷ get_or said 3 0 ∷ [])
  said_of k h =
      let said : List ℕ = part 4 (line_over step l count t).answers k in
      let g = given (line_over step l count t) standing k h in
      let n : length said ≡ 4 = ap length g.answers ∙ answers-long step late Keeps Clears facts l t count granted k g.outcome in
      g.outcome ∙ ap delivered (sym g.answers ∙ four said n)

  -- The strict reader, lent a delivered frame's bytes, hands back what the single call on that frame leaves, with the frame's level, boundary and bits.
  pub over_held_read : l.mode ≡ Held → (k : ℕ) → k < done_over step l count t
      → (u : ReaderLent) → reader_has_room l u ≡ true → take (frame_size l) u.frame ≡ part (frame_size l) (line_over step l count t).frames k
      → let said : List ℕ = part 4 (line_over step l count t).answers k in
      read_frame l u
      ≡ handed l u (get_or said 0 0 ∷ get_or said 1 0 ∷ get_or said 3 0 ∷ []) (single step l t k).factors (single step l t k).side (single step l t k).codes
  over_held_read mode k h u room q =
      let said : List ℕ = part 4 (line_over step l count t).answers k in
      let g = given (line_over step l count t) standing k h in
      let o = said_of k h in
      let (v, e) = facts.staged l (frame_lent l k (all_lent t)) (get_or said 0 0 ∷ get_or said 1 0 ∷ get_or said 2 0 ∷ get_or said 3 0 ∷ []) o in
      subst (λ (x : StereoLeft). take (frame_size l) u.frame ≡ take (frame_size l) x.frame
      → read_frame l u ≡ handed l u (get_or said 0 0 ∷ get_or said 1 0 ∷ get_or said 3 0 ∷ []) x.factors x.side x.codes) (sym e)
      (held_read l v (get_or said 0 0) (get_or said 1 0) (get_or said 2 0) (get_or said 3 0) (ap (λ (x : StereoLeft). x.outcome) (sym e) ∙ o) mode u room)
      (q ∙ g.tried.bytes ∙ sym (take_all (frame_size l) (single step l t k).frame (omega
      (arith, bytes-long step late Keeps Clears facts l t count granted k g.below))))

  -- ---- the tally

  tally_by : (x : LineLeft) → Stands step l t count x → x.tally ≡ tally_over step l t (done_of x.index count)
  tally_by x (ran i r) = rw i r.tally
  tally_by x (ended n g i j e) = rw i (e.tally ∙ e.before.tally)

  -- The tally gains the number of delivered frames, the sum of their bits and the sum of their pairs.
  pub over-tally : (line_over step l count t).tally ≡ tally_over step l t (done_over step l count t)
  over-tally = tally_by (line_over step l count t) standing

  -- ---- the end

  behind : {A : Type 0} (g : ℕ → List A) (k n : ℕ) (xs ys : List A) → ((j : ℕ) → j < n → length (g j) ≡ k) → xs ≡ blocks g n ++ drop (n * k) ys
      → drop (n * k) xs ≡ drop (n * k) ys
  behind g k n xs ys size e = ap (drop (n * k)) e ∙ blocks-rest g k n size n ys (omega arith)

  whole_by : Stands step l t count (line_over step l count t) → (line_over step l count t).index ≡ none → Whole step l count t
  whole_by (ran i r) h =
      let x = line_over step l count t in
      record {
        outcome = r.outcome;
        spectra = behind (spectra_at step l t) (spectrum_length l) count x.spectra t.spectra
            (spectra-long step late Keeps Clears facts l t count granted) r.tried.spectra;
        intensities = behind (intensities_at step l t) (side_length l) count x.intensities t.intensities
            (intensities-long step late Keeps Clears facts l t count granted) r.tried.intensities;
        frames = behind (bytes_at step l t) (frame_size l) count x.frames t.frames (bytes-long step late Keeps Clears facts l t count granted)
            r.tried.frames;
        answers = behind (answers_at step l t) 4 count x.answers t.answers (λ j g. answers-long step late Keeps Clears facts l t count granted j
            (r.each j g)) r.answers;
      }
  whole_by (ended n g i j e) h = let z : ◌≡◌ {A = ℕ} 0 1 = cc (sym i ∙ h) in absurd (omega arith)

  -- Where no frame is named the line was delivered, and the rest of frames and answers is as lent.
  pub over_delivers : (line_over step l count t).index ≡ none → Whole step l count t
  over_delivers h = whole_by standing h

  single_late : (k : ℕ) → k < count → (n b : ℕ) → (single step l t k).outcome ≡ refused n b → OneOf late n
  single_late k h n b e =
      facts.numbers l (frame_lent l k (all_lent t)) (legal_true l granted.layout)
      (frame-granted step late Keeps Clears facts l t count granted (frame_lent l k (all_lent t)) k h refl refl
      (lent_roomy step late Keeps Clears facts l t count granted k h)) n b e

  zeros : (k : ℕ) → k < count → overwrite (no_frame l) (part (frame_size l) t.frames k) ≡ no_frame l
  zeros k h =
      let e = length_part (frame_size l) count k t.frames granted.room.frames h in
      let n = length-replicate {A = ℕ} (frame_size l) 0 in
      ap (λ ys. no_frame l ++ ys) (drop_of_length-le (part (frame_size l) t.frames k) {i = length (no_frame l)} (omega (arith, e, n))) ∙ append-nil (no_frame l)

  stopped_by : (k : ℕ) → Stands step l t count (line_over step l count t) → (line_over step l count t).index ≡ some k → Stopped step late Keeps Clears l count t k
  stopped_by k (ran i r) h = let z : ◌≡◌ {A = ℕ} 0 1 = cc (sym i ∙ h) in absurd (omega arith)
  stopped_by k (ended n g i j e) h =
      let q : n ≡ k = cc (sym i ∙ h) in
      subst (Stopped step late Keeps Clears l count t) q (stop n g e)
    where
      stop : (n : ℕ) → n < count → Ended step l t n (line_over step l count t) → Stopped step late Keeps Clears l count t n
      stop n g e =
          let x = line_over step l count t in
          let u = frame_lent l n (all_lent t) in
          let w = tried_at (n + 1) n x (omega arith) e.tried (omega arith) in
          let keep = facts.keeps l u e.number e.beside e.refusal in
          let clear = facts.clears l u e.number e.beside e.refusal in
          record {
            below = g;
            number = e.number;
            beside = e.beside;
            late = single_late n g e.number e.beside e.refusal;
            refusal = e.refusal;
            outcome = e.outcome;
            area = w.bytes;
            kept = λ s. w.bytes ∙ (keep s).frame;
            cleared = λ s. w.bytes ∙ (clear s).frame ∙ zeros n g;
            spectra = w.spectra;
            intensities = w.intensities;
            kept-spectra = λ s. w.spectra ∙ (keep s).spectra;
            kept-intensities = λ s. w.intensities ∙ (keep s).intensities;
            later = behind (bytes_at step l t) (frame_size l) (n + 1) x.frames t.frames
                (λ m s. bytes-long step late Keeps Clears facts l t count granted m (omega arith)) e.tried.frames;
            later-spectra = behind (spectra_at step l t) (spectrum_length l) (n + 1) x.spectra t.spectra
                (λ m s. spectra-long step late Keeps Clears facts l t count granted m (omega arith))
                e.tried.spectra;
            later-intensities = behind (intensities_at step l t) (side_length l) (n + 1) x.intensities t.intensities
                (λ m s. intensities-long step late Keeps Clears facts l t count granted m (omega arith)) e.tried.intensities;
            answers = behind (answers_at step l t) 4 n x.answers t.answers (λ m s. answers-long step late Keeps Clears facts l t count granted m
                (e.before.each m s))
                (e.answers ∙ e.before.answers);
          }

  -- Where a frame is named, the single call refused it, with that number and the number beside it; the frames before it stand (line-frame), the later
  -- areas and all answers from there on are as lent.
  pub over_stops : (k : ℕ) → (line_over step l count t).index ≡ some k → Stopped step late Keeps Clears l count t k
  over_stops k h = stopped_by k standing h

  -- ---- the work buffers

  -- the single call on frame k with the work buffers as the k frames before it left them
  abbrev pub last_turn : (k : ℕ) → StereoLeft
  last_turn k = step l (frame_lent l k (turn_lent (line_over step l k t)))

  turn_works : (k : ℕ) → k ≤ count → (x : LineLeft) → x ≡ turn_after step l k (line_after step l t k)
      → Works x (last_turn k).scaled (last_turn k).codes (last_turn k).factors (last_turn k).side
  unfolding line_turn step_at
  turn_works k h x e =
      let y : turn_after step l k (line_after step l t k) ≡ turn_after step l k (line_over step l k t) = ap (turn_after step l k) (sym (over-after step l k t
      (shorter k h))) in
      record {
        scaled = ap (λ (z : LineLeft). z.scaled) (e ∙ y);
        codes = ap (λ (z : LineLeft). z.codes) (e ∙ y);
        factors = ap (λ (z : LineLeft). z.factors) (e ∙ y);
        side = ap (λ (z : LineLeft). z.side) (e ∙ y);
      }

  -- the frames before one that was tried were delivered
  open_before : (k : ℕ) → Stands step l t k (line_after step l t k) → k < count → (line_over step l count t).index ≡ none → (line_after step l t k).index ≡ none
  open_before k (ran i r) h n = i
  open_before k (ended m g i j e) h n =
      let z : (line_after step l t count).index ≡ some m = ap (λ (x : LineLeft). x.index) (after_stays step l t k m i count (omega arith)) ∙ i in
      let w : ◌≡◌ {A = ℕ} 0 1 = cc (sym z ∙ ap (λ (x : LineLeft). x.index) (sym (over-after step l count t a)) ∙ n) in
      absurd (omega arith)

  works_by : (k : ℕ) → Stands step l t count (line_over step l count t) → tried_of (line_over step l count t).index count ≡ k + 1
      → Works (line_over step l count t) (last_turn k).scaled (last_turn k).codes (last_turn k).factors (last_turn k).side
  works_by k (ran i r) h =
      let q : count ≡ suc k = (rw i at h) ∙ add-one k in
      let o = open_before k (stands step late Keeps Clears facts l t count granted k (omega arith)) (omega arith) i in
      turn_works k (omega arith) (line_over step l count t) (over-after step l count t a ∙ ap (line_after step l t) q
      ∙ after_next step l t k (line_after step l t k) refl o)
  works_by k (ended n g i j e) h =
      let z : n + 1 ≡ k + 1 = rw i at h in
      let q : n ≡ k = omega arith in
      turn_works k (omega arith) (line_over step l count t) (subst (λ m. line_over step l count t ≡ turn_after step l m (line_after step l t m)) q e.turn)

  -- The work buffers are those of the last frame tried.
  pub over_work : (k : ℕ) → tried_of (line_over step l count t).index count ≡ k + 1
      → Works (line_over step l count t) (last_turn k).scaled (last_turn k).codes (last_turn k).factors (last_turn k).side
  over_work k h = works_by k standing h

  last-refused : (k : ℕ) → Stands step l t count (line_over step l count t) → (line_over step l count t).index ≡ some k
      → (last_turn k).outcome ≡ (line_over step l count t).outcome
  last-refused k (ran i r) h = let z : ◌≡◌ {A = ℕ} 0 1 = cc (sym i ∙ h) in absurd (omega arith)
  last-refused k (ended n g i j e) h =
      let q : n ≡ k = cc (sym i ∙ h) in
      subst (λ m. (last_turn m).outcome ≡ (line_over step l count t).outcome) q
      (ap (λ x. (step l (frame_lent l n (turn_lent x))).outcome) (over-after step l n t (shorter n (omega arith)))
      ∙ (now-single step late Keeps Clears facts l t count granted n g (line_after step l t n) e.before).outcome ∙ e.refusal ∙ sym e.outcome)

  -- After a number that keeps they are as after frame k - 1, after one that clears they are zero over one frame's length.
  pub over_work_refused : (k number beside : ℕ) → (line_over step l count t).index ≡ some k → (line_over step l count t).outcome ≡ refused number beside
      → let x = line_over step l k t in
      (Keeps number → Works (line_over step l count t) x.scaled x.codes x.factors x.side)
      × (Clears number → Works (line_over step l count t) (overwrite (no_floats l) x.scaled) (overwrite (no_codes l) x.codes)
      (overwrite (no_factors l) x.factors) (overwrite (no_side l) x.side))
  over_work_refused k number beside i o =
      let w = over_work k (rw i refl) in
      let u = frame_lent l k (turn_lent (line_over step l k t)) in
      let e = last-refused k standing i ∙ o in (
        λ h. let q = facts.keeps l u number beside e h in
            record { scaled = w.scaled ∙ q.scaled; codes = w.codes ∙ q.codes; factors = w.factors ∙ q.factors; side = w.side ∙ q.side },
        λ h. let q = facts.clears l u number beside e h in
            record { scaled = w.scaled ∙ q.scaled; codes = w.codes ∙ q.codes; factors = w.factors ∙ q.factors; side = w.side ∙ q.side },
      )

-- ---- calls that change nothing

-- No frames: nothing changes, and the call succeeds.
pub over_none : (step : Step) (l : Layout) (t : LineLent) → Admits l 0 t → line_over step l 0 t ≡ line_kept t (delivered [])
unfolding line_after
over_none step l t a = over-after step l 0 t a

module _ (step : Step) (late : List ℕ) (Keeps Clears : ℕ → Type 0) (facts : StepFacts step late Keeps Clears) (l : Layout) (count : ℕ) (t : LineLent)
    (number beside : ℕ) (early : OneOf (1 ∷ 18 ∷ 2 ∷ []) number) where
  abbrev AllKept : LineLeft → Type 0
  AllKept x = x.outcome ≡ refused number beside → x ≡ line_kept t (refused number 0)

  shut_keeps : (n : ℕ) (x : LineLeft) → AllKept (line_behind_gate (some (refused n 0)) t x)
  unfolding line_behind_gate
  shut_keeps n x e = let q : n ≡ number = cc e in ap (λ m. line_kept t (refused m 0)) q

  open_keeps : (a : Admits l count t) → AllKept (line_after step l t count)
  open_keeps a e = by_standing (line_after step l t count) (over-after step l count t a) e
    where
      by_index : (i : Option ℕ) → (line_over step l count t).index ≡ i → (line_over step l count t).outcome ≡ refused number beside → ⊥
      by_index none i e = never (sym (over_delivers step late Keeps Clears facts l count t a i).outcome ∙ e)
      by_index (some k) i e =
          let s = over_stops step late Keeps Clears facts l count t a k i in
          let q : s.number ≡ number = cc (sym s.outcome ∙ e) in
          facts.not_early number (subst (OneOf late) q s.late) early

      by_standing : (x : LineLeft) → line_over step l count t ≡ x → x.outcome ≡ refused number beside → x ≡ line_kept t (refused number 0)
      by_standing x q e = absurd (by_index (line_over step l count t).index refl (ap (λ (y : LineLeft). y.outcome) q ∙ e))

  open_gate : Admits l count t → AllKept (line_behind_gate none t (line_after step l t count))
  unfolding line_behind_gate
  open_gate a = open_keeps a

  -- 1, 18 and 2 change nothing, the tally included; beside them stands 0, and no frame is named.
  pub over_keeps : (line_over step l count t).outcome ≡ refused number beside → line_over step l count t ≡ line_kept t (refused number 0)
  unfolding line_over
  over_keeps =
      let x = line_after step l t count in
      gate_case l count (line_room t) (length t.answers) t.tally (λ o. AllKept (line_behind_gate o t x)) (shut_keeps 1 x) (shut_keeps 18 x) (shut_keeps 2 x)
      open_gate
