-- The loop over the eight subframes, and how the codes then lie in their buffer. Assumes nothing.
use mathlib.Core.Path.{◌≡◌, refl, sym, ◌∙◌, ap, ap₂}
use mathlib.Core.List.{List, [], ◌∷◌, ◌++◌}
use Prim.Native.Nat.{ℕ, ◌+◌, ◌*◌, ◌≤◌, ◌<◌}
use native.Mathlib.Omega.{arith}
use lib.IntN.{ℤ, pos}
use lib.ListN.{length, take, drop}
use Rattle.std.specs.Prelude.{Ok, Err}
use Rattle.bits.specs.Place.{left_at}
use Rattle.bits.specs.declared.Place.{Place}
use Rattle.buffers.specs.Walk.{build, blocks}
use Rattle.buffers.proofs.Build.{build-none, build_more}
use Rattle.rules.specs.Format.{ok, each, times}
use Rattle.rules.specs.Layout.{coded_count_at, part, spectrum_length}
use Rattle.rules.specs.Record.{codes_in, pad}
use Rattle.rules.specs.declared.Layout.{Layout}
use Rattle.rules.proofs.Cuts.{by_order, build-same, blocks-same, length_part, parts_all, subframe_cut}
use Rattle.rules_formats.proofs.Turns.{onto, onto-none, each_turn, each_stop, each_end}
use Rattle.reader_codes.specs.Rows.{Blank, read_subframe, read_subframes, row_of, subframe_in, Subframe, Subframes}
use Rattle.reader_channels.specs.Steps.{fault_number}
use Rattle.reader_channels.specs.declared.values.faults.Fault.{Fault}

times_long : length (times 8) ≡ 8
times_long = refl

-- a row by channel and subframe is a row of the buffer
row_in : (codes : List ℤ) (c s : ℕ) → s < 8 → part 128 (part 1024 codes c) s ≡ row_of codes c s
row_in codes c s h =
    let e : c * 1024 + s * 128 ≡ (c * 8 + s) * 128 = omega arith in
    subframe_cut codes c s h ∙ ap (λ n. take 128 (drop n codes)) e

module _ (l : Layout) (codes : List ℤ) where
  frame-codes : build (subframe_in l codes) 8 ≡ build (λ s. build (codes_in l codes s) l.channels) 8
  frame-codes =
      build-same (subframe_in l codes) (λ s. build (codes_in l codes s) l.channels) 8
      (λ s h. build-same (λ c. take (coded_count_at l c) (row_of codes c s)) (codes_in l codes s) l.channels
      (λ c _. ap (take (coded_count_at l c)) (sym (row_in codes c s h))))

  frame-blank : length codes ≡ spectrum_length l → ((c t : ℕ) → c < l.channels → t < 8 → Blank (coded_count_at l c) (row_of codes c t))
      → codes ≡ blocks (λ c. blocks (λ s. pad (pos 0) 128 (codes_in l codes s c)) 8) l.channels
  frame-blank e b =
      sym (parts_all 1024 l.channels codes e)
      ∙ blocks-same (part 1024 codes) _ l.channels
      (λ c h. sym (parts_all 128 8 (part 1024 codes c) (length_part 1024 l.channels c codes (omega arith) h))
      ∙ blocks-same (part 128 (part 1024 codes c)) _ 8
      (λ s k. row_in codes c s k ∙ b c s h k ∙ ap (λ row. pad (pos 0) 128 (take (coded_count_at l c) row)) (sym (row_in codes c s k))))

pub record Eight (l : Layout) (frame rs : List ℕ) (codes₀ : List ℤ) (at₀ : ℕ) (codes : List ℤ) (at n : ℕ) : Type 0 where
  pub below : n ≤ 8
  pub within : at ≤ 8 * length frame
  pub same : length codes ≡ length codes₀
  pub is : read_subframes l rs (left_at frame at₀) ≡ onto (build (subframe_in l codes) n) (each (λ _. read_subframe l rs) (drop n (times 8)) (left_at frame at))
  pub blank : (c t : ℕ) → c < l.channels → t < n → Blank (coded_count_at l c) (row_of codes c t)

module _ (l : Layout) (frame rs : List ℕ) (codes₀ : List ℤ) (at₀ : ℕ) where
  pub eight_none : at₀ ≤ 8 * length frame → Eight l frame rs codes₀ at₀ codes₀ at₀ 0
  eight_none h = record {
    below = omega arith;
    within = h;
    same = refl;
    is = onto-none _ ∙ ap (λ d. onto d (read_subframes l rs (left_at frame at₀))) (sym (build-none (subframe_in l codes₀)));
    blank = λ c t _ lt. absurd (omega arith);
  }

  module _ (codes : List ℤ) (at n : ℕ) (w : Eight l frame rs codes₀ at₀ codes at n) where
    pub eight_all : (q : Place) → q.at ≡ at → length codes₀ ≡ spectrum_length l → 8 ≤ n
        → Subframes l frame (read_subframes l rs (left_at frame at₀)) codes (Ok q)
    eight_all q z size h =
        let e : n ≡ 8 = omega (arith, w.below) in
        record {
          done = record {
            is = w.is ∙ each_end (λ _. read_subframe l rs) (times 8) tt (build (subframe_in l codes) n) n (left_at frame at) (omega (arith, times_long))
                ∙ ap₂ (λ xs p. ok xs (left_at frame p)) (ap (build (subframe_in l codes)) e ∙ frame-codes l codes) (sym z);
            within = omega (arith, w.within);
          };
          blank = frame-blank l codes (w.same ∙ size) (λ c t h k. w.blank c t h (omega arith));
        }

    module _ (h : n < 8) (after : List ℤ) where
      pub eight_stop : (f : Fault) → Subframe l frame (read_subframe l rs (left_at frame at)) n codes after (Err f)
          → Subframes l frame (read_subframes l rs (left_at frame at₀)) after (Err f)
      eight_stop f t = record {
        done = record {
          is = w.is ∙ each_stop (λ _. read_subframe l rs) (times 8) tt (build (subframe_in l codes) n) n (left_at frame at) (fault_number f) _
              (omega (arith, times_long)) t.done.is;
          within = t.done.within;
        };
        blank = tt;
      }

      module _ (same : length after ≡ length codes) (q : Place) (t : Subframe l frame (read_subframe l rs (left_at frame at)) n codes after (Ok q)) where
        longer : build (subframe_in l after) (n + 1) ≡ build (subframe_in l codes) n ++ (subframe_in l after n ∷ [])
        longer =
            build_more (subframe_in l after) n
            ∙ ap (λ xs. xs ++ (subframe_in l after n ∷ []))
            (build-same (subframe_in l after) (subframe_in l codes) n
            (λ u lt. build-same (λ c. take (coded_count_at l c) (row_of after c u)) (λ c. take (coded_count_at l c) (row_of codes c u)) l.channels
            (λ c k. ap (take (coded_count_at l c)) (t.kept c u k (omega arith) (λ z. omega arith)))))

        pub eight_more : Eight l frame rs codes₀ at₀ after q.at (n + 1)
        eight_more = record {
          below = omega arith;
          within = t.done.within;
          same = same ∙ w.same;
          is = w.is
              ∙ each_turn (λ _. read_subframe l rs) (times 8) tt (build (subframe_in l codes) n) n (left_at frame at) (subframe_in l after n) (left_at frame q.at)
              (omega (arith, times_long)) t.done.is
              ∙ ap (λ d. onto d (each (λ _. read_subframe l rs) (drop (n + 1) (times 8)) (left_at frame q.at))) (sym longer);
          blank = λ c u k lt. by_order u n
              (λ j. t.kept c u k (omega arith) (λ z. omega arith) ∙ w.blank c u k j
              ∙ ap (λ row. pad (pos 0) 128 (take (coded_count_at l c) row)) (sym (t.kept c u k (omega arith) (λ z. omega arith))))
              (λ j. let z : u ≡ n = omega arith in rw z (t.blank c k));
        }
