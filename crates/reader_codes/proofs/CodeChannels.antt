-- The loop over the channels of a subframe: what it keeps from turn to turn. Assumes nothing.
use mathlib.Core.Path.{◌≡◌, refl, sym, ◌∙◌, ap, ap₂, subst}
use mathlib.Core.List.{List, [], ◌∷◌, ◌++◌}
use Prim.Native.Nat.{ℕ, ◌+◌, ◌*◌, ◌≤◌, ◌<◌}
use native.Mathlib.Omega.{arith}
use lib.IntN.{ℤ}
use lib.ListN.{length, get_or, take, drop}
use Rattle.std.specs.Prelude.{Ok, Err}
use Rattle.bits.specs.Place.{left_at}
use Rattle.bits.specs.declared.Place.{Place}
use Rattle.buffers.specs.Walk.{build}
use Rattle.buffers.proofs.Build.{build-none, build_more, length-build, build-at}
use Rattle.rules.specs.Format.{ok, each}
use Rattle.rules.specs.Layout.{coded_count_at, spectrum_length}
use Rattle.resolutions.specs.Coded.{coded_resolutions}
use Rattle.rules.specs.Reading.{read_code}
use Rattle.rules.specs.declared.Layout.{Layout}
use Rattle.rules.proofs.Cuts.{by_order, build-same, renewed, renewed-length, row_new, row_old}
use Rattle.rules_formats.proofs.Turns.{onto, onto-none, each_turn, each_stop, each_end}
use Rattle.reader_codes.specs.Rows.{Blank, StoredCodes, coded_rows, read_subframe, row_of, Subframe}
use Rattle.reader_channels.specs.Steps.{Step, fault_number}
use Rattle.reader_channels.specs.declared.values.faults.Fault.{Fault}

-- the rows of the first n channels
abbrev up_to : (l : Layout) (s : ℕ) (codes : List ℤ) (n : ℕ) → List (List ℤ)
up_to l s codes n = build (λ c. take (coded_count_at l c) (row_of codes c s)) n

pub record Upto (l : Layout) (s : ℕ) (frame rs : List ℕ) (codes₀ : List ℤ) (at₀ : ℕ) (codes : List ℤ) (at n : ℕ) : Type 0 where
  pub below : n ≤ l.channels
  pub within : at ≤ 8 * length frame
  pub same : length codes ≡ length codes₀
  pub is : read_subframe l rs (left_at frame at₀) ≡ onto (up_to l s codes n) (each (each read_code) (drop n (coded_rows l rs)) (left_at frame at))
  pub blank : (c : ℕ) → c < n → Blank (coded_count_at l c) (row_of codes c s)
  pub kept : (c t : ℕ) → c < l.channels → t < 8 → (t ≡ s → ⊥) → row_of codes c t ≡ row_of codes₀ c t

length-coded : (l : Layout) (rs : List ℕ) → length (coded_rows l rs) ≡ l.channels
unfolding coded_rows
length-coded l rs = length-build _ l.channels

coded-at : (l : Layout) (rs : List ℕ) (c : ℕ) → c < l.channels → get_or (coded_rows l rs) c [] ≡ coded_resolutions l rs c
unfolding coded_rows
coded-at l rs c h = build-at _ l.channels c [] h

module _ (l : Layout) (s : ℕ) (frame rs : List ℕ) (codes₀ : List ℤ) (at₀ : ℕ) where
  pub upto_none : at₀ ≤ 8 * length frame → Upto l s frame rs codes₀ at₀ codes₀ at₀ 0
  upto_none h = record {
    below = omega arith;
    within = h;
    same = refl;
    is = onto-none _ ∙ ap (λ d. onto d (read_subframe l rs (left_at frame at₀))) (sym (build-none _));
    blank = λ c lt. absurd (omega arith);
    kept = λ c t _ _ _. refl;
  }

  module _ (codes : List ℤ) (at n : ℕ) (w : Upto l s frame rs codes₀ at₀ codes at n) where
    -- all channels
    pub upto_all : (q : Place) → q.at ≡ at → l.channels ≤ n → Subframe l frame (read_subframe l rs (left_at frame at₀)) s codes₀ codes (Ok q)
    upto_all q z h =
        let e : n ≡ l.channels = omega (arith, w.below) in
        record {
          done = record {
            is = w.is ∙ each_end (each read_code) (coded_rows l rs) [] (up_to l s codes n) n (left_at frame at) (omega (arith, length-coded l rs))
                ∙ ap₂ (λ m p. ok (up_to l s codes m) (left_at frame p)) e (sym z);
            within = omega (arith, w.within);
          };
          blank = λ c lt. w.blank c (omega arith);
          kept = w.kept;
        }

    module _ (h : n < l.channels) where
      abbrev pub RowRead : List ℤ → Step → Type 0
      RowRead ys r = StoredCodes frame (each read_code (coded_resolutions l rs n) (left_at frame at)) (coded_count_at l n) ys r

      -- a row that is cut
      pub upto_stop : {ys after : List ℤ} {r : Step} {f : Fault} → r ≡ Err f → RowRead ys r
          → Subframe l frame (read_subframe l rs (left_at frame at₀)) s codes₀ after (Err f)
      upto_stop {ys} {after} {r} {f} z agrees =
          let t = subst (RowRead ys) z agrees in
          record {
            done = record {
              is = w.is ∙ each_stop (each read_code) (coded_rows l rs) [] (up_to l s codes n) n (left_at frame at) (fault_number f) _
                  (omega (arith, length-coded l rs)) (rw (coded-at l rs n h) t.done.is);
              within = t.done.within;
            };
            blank = tt;
            kept = tt;
          }

      -- a row more
      module _ (hs : s < 8) (size : length codes₀ ≡ spectrum_length l) (ys : List ℤ) (e : length ys ≡ 128) {q : Place} {r : Step} (z : r ≡ Ok q)
          (agrees : RowRead ys r) where
        t : RowRead ys (Ok q)
        t = subst (RowRead ys) z agrees

        fits : (n * 8 + s) * 128 + 128 ≤ length codes
        fits = omega (arith, w.same)

        abbrev pub with_row : List ℤ
        with_row = renewed 128 (n * 8 + s) codes ys

        new : row_of with_row n s ≡ ys
        new = row_new 128 (n * 8 + s) codes ys fits e

        old : (c u : ℕ) → (c * 8 + u ≡ n * 8 + s → ⊥) → row_of with_row c u ≡ row_of codes c u
        old c u = row_old 128 (n * 8 + s) codes ys fits e (c * 8 + u)

        longer : up_to l s with_row (n + 1) ≡ up_to l s codes n ++ (take (coded_count_at l n) ys ∷ [])
        longer =
            build_more (λ c. take (coded_count_at l c) (row_of with_row c s)) n
            ∙ ap₂ (λ xs x. xs ++ (x ∷ []))
            (build-same (λ c. take (coded_count_at l c) (row_of with_row c s)) (λ c. take (coded_count_at l c) (row_of codes c s)) n
            (λ c lt. ap (take (coded_count_at l c)) (old c s (λ z. omega arith))))
            (ap (take (coded_count_at l n)) new)

        pub upto_more : Upto l s frame rs codes₀ at₀ with_row q.at (n + 1)
        upto_more = record {
          below = omega arith;
          within = t.done.within;
          same = renewed-length 128 (n * 8 + s) codes ys fits e ∙ w.same;
          is = w.is
              ∙ each_turn (each read_code) (coded_rows l rs) [] (up_to l s codes n) n (left_at frame at) (take (coded_count_at l n) ys) (left_at frame q.at)
              (omega (arith, length-coded l rs)) (rw (coded-at l rs n h) t.done.is)
              ∙ ap (λ d. onto d (each (each read_code) (drop (n + 1) (coded_rows l rs)) (left_at frame q.at))) (sym longer);
          blank = λ c lt. by_order c n
              (λ k. subst (Blank (coded_count_at l c)) (sym (old c s (λ z. omega arith))) (w.blank c k))
              (λ k. let z : n ≡ c = omega arith in subst (λ i. Blank (coded_count_at l i) (row_of with_row i s)) z
              (subst (Blank (coded_count_at l n)) (sym new) t.blank));
          kept = λ c u hc hu ne. old c u (λ z. ne (omega arith)) ∙ w.kept c u hc hu ne;
        }
