-- `quantizer::counts::marks_of` meets its contract: in held mode low is the row's high, and neither high nor drop is left. Assumes nothing.
use mathlib.Core.Path.{◌≡◌, refl, ap, ◌∙◌}
use Prim.Native.Nat.{ℕ, ◌-◌, ◌<◌}
use Rattle.buffers.specs.Walk.{build}
use Rattle.rules.specs.Tables.{spectrum_bits}
use Rattle.rules.specs.Signed.{held_z}
use Rattle.rules.specs.Code.{code_place}
use Rattle.rules.specs.declared.Mode.TheVariants.{Rust, Held}
use Rattle.quantizer.specs.Marks.{marks_of, marks_at, high_at, low_at, drop_at}
use Rattle.quantizer.specs.declared.counts.Marks.{Marks}
use Rattle.quantizer.proofs.Entries.{build_agrees}
use Rattle.quantizer.proofs.counts.marks_of.Goals as goal

-- low, high and drop, each at all eight resolutions
module _ (r : ℕ) (h : r < 8) where
  low_held : high_at r - low_at Rust r ≡ low_at Held r
  unfolding build high_at low_at spectrum_bits code_place held_z
  low_held = build_agrees (λ i. high_at i - low_at Rust i) (low_at Held) 8 refl r h

  high_held : 0 ≡ high_at r - low_at Held r
  unfolding build high_at low_at spectrum_bits code_place held_z
  high_held = build_agrees (λ i. 0) (λ i. high_at i - low_at Held i) 8 refl r h

  drop-held : 0 ≡ drop_at Held r
  unfolding build high_at drop_at spectrum_bits code_place held_z
  drop-held = build_agrees (λ i. 0) (drop_at Held) 8 refl r h

held_marks : (r : ℕ) (m : Marks) → r < 8 → m ≡ marks_at Rust r → marks_of m.step m.near m.far m.past m.high 0 0 ≡ marks_at Held r
unfolding marks_at
held_marks r m h e =
    ap (λ (n : Marks). marks_of n.step n.near n.far n.past n.high 0 0) e
    ∙ ap₃ (low_held r h) (high_held r h) (drop-held r h)
  where
    ap₃ : {a a' b b' c c' : ℕ} → a ≡ a' → b ≡ b' → c ≡ c'
        → marks_of (marks_at Rust r).step (marks_at Rust r).near (marks_at Rust r).far (marks_at Rust r).past a b c
        ≡ marks_of (marks_at Rust r).step (marks_at Rust r).near (marks_at Rust r).far (marks_at Rust r).past a' b' c'
    ap₃ p q s = cc

pub returns-in-Rust : goal.returns-in-Rust
returns-in-Rust c = rw c.in-Rust.is c.rust_marks-m.ensures

pub returns-in-Held : goal.returns-in-Held
returns-in-Held c =
    rw c.in-Held.is (held_marks c.args.r c.rust_marks-m.result c.requires c.rust_marks-m.ensures)
