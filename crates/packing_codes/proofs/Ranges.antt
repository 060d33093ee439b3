-- What callers show of their codes and resolutions: the quantiser's codes and a legal record's lie in their ranges, and past the coded count every
-- resolution is 0. Assumes nothing.
use mathlib.Core.Path.{◌≡◌}
use mathlib.Core.List.{List}
use mathlib.Core.Bool.{Bool, true, ◌&&◌}
use Prim.Native.Nat.{ℕ, zero, suc, ◌^◌, ◌≤◌, ◌<◌}
use native.Mathlib.Omega.{arith}
use borrow.Author.Tests.{lt-ltb, le-ltb, ne_eqb, ltb-false, leb-true}
use lib.Dec.{ltb}
use lib.Ieee.{Float}
use lib.IntN.{ℤ, pos, negsuc, nat_abs}
use lib.ListN.{length, get_or}
use Rattle.buffers.proofs.Blocks.{length-blocks}
use Rattle.buffers.proofs.Build.{length-build, build-at}
use Rattle.buffers.proofs.Every.{every-at}
use Rattle.buffers.proofs.Tests.{and_snd, cond_both}
use Rattle.rules.specs.Signed.{held_z}
use Rattle.rules.specs.Layout.{coded_count_at, side_count_at, side_width, kind_at, part}
use Rattle.rules.specs.Resolution.{all_resolutions}
use Rattle.rules.specs.Code.{code_limit, raw_code, limited_code, code_of, recorded_code, code_at, subframe_codes, channel_codes, all_codes}
use Rattle.rules.specs.Record.{code_range, legal_head, legal_row, legal_subframe, legal_codes, legal_channel, legal_channels, legal_record, legal_band}
use Rattle.rules.specs.declared.Mode.{Mode}
use Rattle.rules.specs.declared.Layout.{Layout}
use Rattle.rules.proofs.Bands.{resolutions-part, blank-band}
use Rattle.rules.proofs.Modes.{held-within}
use Rattle.rules.proofs.Cuts.{block_part}
use Rattle.packing_codes.specs.Columns.{Small, Ranged, Blank, AllRanged}

-- ---- one code

held_small : (z : ℤ) → Small (held_z (negsuc 7) (pos 7) z)
unfolding held_z
held_small (pos k) = cond_both Small (ltb 7 k) (λ _. omega arith) (λ e. ltb-false 7 k e)
held_small (negsuc k) = cond_both Small (ltb 7 k) (λ _. omega arith) (λ e. ltb-false 7 k e)

ranged_code : (m : Mode) (r : ℕ) (x : Float) → Ranged r (code_of m r x)
unfolding code_of
ranged_code m r x = record {
  small = λ l. rw (lt-ltb r 8 l) (held_small (limited_code m r (raw_code r x)));
  large = λ l. rw (le-ltb r 8 l) (held-within (code_limit r) (raw_code r x));
}

pub ranged_recorded : (m : Mode) (r : ℕ) (x : Float) → Ranged r (recorded_code m r x)
unfolding recorded_code
ranged_recorded m zero x = record { small = λ _. omega arith; large = λ l. absurd (omega arith) }
ranged_recorded m (suc r) x = rw (ne_eqb (suc r) 0 (λ e. omega arith)) (ranged_code m (suc r) x)

small_of : (z : ℤ) → nat_abs z ≤ 7 → Small z
small_of (pos k) h = h
small_of (negsuc k) h = omega arith

pub ranged-legal : (r : ℕ) (z : ℤ) → nat_abs z ≤ code_range r → Ranged r z
unfolding code_range
ranged-legal r z h = record {
  small = λ l. let g : nat_abs z ≤ r = rw (lt-ltb r 8 l) at h in small_of z (omega arith);
  large = λ l. rw (le-ltb r 8 l) at h;
}

-- ---- the buffers

module _ (l : Layout) (rs : List ℕ) (scaled : List Float) where
  abbrev codes_of : ℕ → List ℤ
  codes_of c = channel_codes l.mode (part 128 rs c) (part 1024 scaled c)

  codes-size : (c : ℕ) → c < l.channels → length (codes_of c) ≡ 1024
  unfolding channel_codes subframe_codes
  codes-size c _ = length-blocks (subframe_codes l.mode (part 128 rs c) (part 1024 scaled c)) 128 8 (λ s _. length-build _ 128) 8 (omega arith)

  pub made_ranged : AllRanged l rs (all_codes l rs scaled)
  unfolding all_codes channel_codes subframe_codes code_at
  made_ranged c s b hc hs hb =
      rw (
        block_part codes_of 1024 l.channels c codes-size hc,
        block_part (subframe_codes l.mode (part 128 rs c) (part 1024 scaled c)) 128 8 s (λ j _. length-build _ 128) hs,
        build-at (code_at l.mode (part 128 rs c) (part 1024 scaled c) s) 128 b (pos 0) hb,
      )
      (ranged_recorded l.mode (get_or (part 128 rs c) b 0) _)

module _ (l : Layout) (level boundary : ℕ) (F : List ℕ) where
  pub made_blank : Blank l (all_resolutions l level boundary F)
  made_blank c b hc h hb = rw (resolutions-part l level boundary F c hc) (blank-band l level boundary (part 128 F c) (coded_count_at l c) b hb h)

  pub legal-ranged : (S : List ℕ) (C : List ℤ) → legal_record l level boundary F S C ≡ true → AllRanged l (all_resolutions l level boundary F) C
  unfolding legal_record legal_channels legal_channel legal_codes legal_subframe
  legal-ranged S C e c s b hc hs hb =
      let rs : List ℕ = part 128 (all_resolutions l level boundary F) c in
      let cs : List ℤ = part 1024 C c in
      let all = and_snd (legal_head level boundary) (legal_channels l F S C (all_resolutions l level boundary F)) e in
      let one : legal_channel l c (part 128 F c) (part 8 S c) cs rs ≡ true =
      every-at (λ c. legal_channel l c (part 128 F c) (part 8 S c) (part 1024 C c) (part 128 (all_resolutions l level boundary F) c)) l.channels c all hc in
      let row : Bool = legal_row (coded_count_at l c) 64 128 (part 128 F c) in
      let sides : Bool = legal_row (side_count_at l c) (2 ^ side_width (kind_at l c)) 8 (part 8 S c) in
      let codes : legal_codes rs cs ≡ true = and_snd sides (legal_codes rs cs) (and_snd row (sides && legal_codes rs cs) one) in
      let sub : legal_subframe rs (part 128 cs s) ≡ true = every-at (λ s. legal_subframe rs (part 128 cs s)) 8 s codes hs in
      ranged-legal (get_or rs b 0) (get_or (part 128 cs s) b (pos 0)) (leb-true _ _ (every-at (legal_band rs (part 128 cs s)) 128 b sub hb))
