-- How the writer of the file header comes to each of its answers. Assumes nothing.
use mathlib.Core.Path.{◌≡◌, refl, ap, ◌∙◌}
use mathlib.Core.List.{List, ◌++◌}
use mathlib.Core.Bool.{true, false}
use Prim.Native.Nat.{ℕ, ◌-◌, ◌≤◌, ◌<◌}
use native.Mathlib.Omega.{arith}
use borrow.Author.Tests.{lt-ltb, le-ltb}
use lib.ListN.{length, take, drop, replicate}
use Rattle.std.specs.Prelude.{Ok, Err}
use Rattle.crc.specs.Sealed.{body, sealed}
use Rattle.rules.specs.Layout.{legal_layout}
use Rattle.rules.specs.declared.Layout.{Layout}
use Rattle.rules_files.specs.declared.header.Stream.{Stream}
use Rattle.rules_files.specs.declared.header.HeaderRefusal.TheVariants.{BadLayout, ShortBuffer, BadHeader}
use Rattle.rules_files.specs.FileHeader.{pieces, stamped, header_of, fits_header, header_outcome, header_left, write_header}
use Rattle.rules_files.proofs.Pieces.{stamped-length, header-within, header-body}
use Rattle.rules_files.proofs.HeaderTheorems.{header-bytes}

module _ (l : Layout) (st : Stream) where
  -- zeros, the pieces over them, the check behind
  pub header-sealed : (s t u v : List ℕ) → length s ≡ 96 → t ≡ replicate (length s) 0 → u ≡ stamped (pieces l st) t → v ≡ sealed (body u) → v ≡ header_of l st
  unfolding header_of
  header-sealed s t u v n zeros put closed =
      let z : t ≡ replicate 96 0 = zeros ∙ ap (λ (k : ℕ). replicate k 0) n in
      let e : u ≡ stamped (pieces l st) (replicate 96 0) = put ∙ ap (stamped (pieces l st)) z in
      let m : length u ≡ 96 = ap length e ∙ stamped-length 96 (pieces l st) (replicate 96 0) (header-within l st) refl in
      let k : length u - 2 ≡ 94 = omega arith in
      closed ∙ ap sealed (ap (λ (n : ℕ). take n u) k ∙ ap (take 94) e ∙ header-body l st)

module _ (l : Layout) (st : Stream) (h : List ℕ) where
  pub gate-layout : legal_layout l ≡ false → header_left (Err BadLayout) h ≡ write_header l st h
  unfolding write_header header_outcome
  gate-layout e = rw e

  module _ (e : legal_layout l ≡ true) where
    pub gate-short : length h < 96 → header_left (Err ShortBuffer) h ≡ write_header l st h
    unfolding write_header header_outcome
    gate-short g = rw (e, lt-ltb _ _ g)

    module _ (g : 96 ≤ length h) where
      pub gate_unfit : fits_header l st ≡ false → header_left (Err BadHeader) h ≡ write_header l st h
      unfolding write_header header_outcome
      gate_unfit f = rw (e, le-ltb _ _ g, f)

      -- a longer buffer's rest stays
      pub header-done : fits_header l st ≡ true → (new : List ℕ) → new ≡ header_of l st → header_left (Ok tt) (new ++ drop 96 h) ≡ write_header l st h
      unfolding write_header header_outcome
      header-done f new q = rw (e, le-ltb _ _ g, f, (header-bytes l st).0, q)
