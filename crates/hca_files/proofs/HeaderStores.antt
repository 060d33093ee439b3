-- What a call tells of its outcome, by the place where it left. Assumes nothing.
use mathlib.Core.Path.{◌≡◌, ap, ◌∙◌}
use mathlib.Core.List.{List}
use mathlib.Core.Bool.{true, false}
use Prim.Native.Nat.{ℕ, ◌≤◌, ◌<◌}
use native.Mathlib.Omega.{arith}
use borrow.Author.Tests.{lt-ltb, le-ltb, eq-eqb, ne_eqb}
use lib.ListN.{length}
use Rattle.std.specs.Prelude.{Ok, Err}
use Rattle.rules.specs.declared.Layout.{Layout}
use Rattle.rules_files.specs.FileHeader.{header_outcome, HeaderLeft, header_left, write_header}
use Rattle.rules_files.specs.declared.header.HeaderRefusal.{HeaderRefusal}
use Rattle.rules_files.specs.declared.header.HeaderRefusal.TheVariants.{BadLayout, ShortBuffer, BadHeader}
use Rattle.rules_files.specs.declared.header.Stream.{Stream}
use Rattle.refusals.specs.Refusals.{refusal_of}
use Rattle.refusals.specs.declared.Refusal.{Refusal}
use Rattle.hca_layout.specs.Layouts.{layout_of, is_layout}
use Rattle.hca_files.specs.WriteHeader.{CHeaderLeft, c_header_left, stream_of, c_header_from, c_write_header}

pub number_small : (e : HeaderRefusal) → (refusal_of (header_outcome (Err e))).number ≤ 16
unfolding refusal_of header_outcome
number_small BadLayout = omega arith
number_small ShortBuffer = omega arith
number_small BadHeader = omega arith

pub header_written : (h : List ℕ) (x : HeaderLeft) → header_left (Ok tt) h ≡ x → c_header_left 0 h ≡ c_header_from x
unfolding c_header_from refusal_of header_outcome
header_written h x q = ap c_header_from q

module _ (e : HeaderRefusal) (r : Refusal) (is : r ≡ refusal_of (header_outcome (Err e))) where
  same_number : r.number ≡ (refusal_of (header_outcome (Err e))).number
  same_number = ap (λ (x : Refusal). x.number) is

  pub refusal-small : r.number ≤ 16
  refusal-small = rw same_number (number_small e)

  pub header_refused : (h : List ℕ) (x : HeaderLeft) → header_left (Err e) h ≡ x → c_header_left r.number h ≡ c_header_from x
  unfolding c_header_from
  header_refused h x q = ap (λ (n : ℕ). c_header_left n h) same_number ∙ ap c_header_from q

module _ (numbers kinds stream points h : List ℕ) where
  pub header_unnamed : is_layout numbers kinds ≡ false → c_header_left 1 h ≡ c_write_header numbers kinds stream points h
  unfolding c_write_header c_header_from refusal_of
  header_unnamed e = rw e

  module _ (e : is_layout numbers kinds ≡ true) where
    pub header_streamless : length stream < 3 → c_header_left 2 h ≡ c_write_header numbers kinds stream points h
    unfolding c_write_header c_header_from refusal_of
    header_streamless s = rw (e, lt-ltb _ _ s)

    module _ (s : 3 ≤ length stream) where
      pub header_one_point : length points ≡ 1 → c_header_left 2 h ≡ c_write_header numbers kinds stream points h
      unfolding c_write_header c_header_from refusal_of
      header_one_point p = rw (e, le-ltb _ _ s, eq-eqb _ _ p)

      pub header-called : (length points ≡ 1 → ⊥) → (l : Layout) (st : Stream) (x : CHeaderLeft) → l ≡ layout_of numbers kinds → st ≡ stream_of stream points
          → x ≡ c_header_from (write_header l st h) → x ≡ c_write_header numbers kinds stream points h
      unfolding c_write_header
      header-called p l st x q t d = d ∙ rw (e, le-ltb _ _ s, ne_eqb _ _ p, q, t)
