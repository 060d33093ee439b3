-- A run that was written, as bytes. Assumes nothing.
use mathlib.Core.Path.{◌≡◌, sym, ap, ◌∙◌}
use mathlib.Core.Bool.{Bool}
use mathlib.Core.List.{List, ◌++◌}
use Prim.Native.Nat.{ℕ, ◌-◌, ◌*◌, ◌≤◌}
use lib.ListN.{length}
use Rattle.bits.specs.Bits.{pack, Bytes, zeros}
use Rattle.bits.specs.Place.{Written}
use Rattle.bits.proofs.Numbers.{pack-bits}

-- the bytes that hold a run, zeros after it
pub written-pack : {s : List ℕ} {p : ℕ} {bs : List Bool} → Bytes s → Written s p bs → length bs ≤ 8 * length s
    → s ≡ pack (length s) (bs ++ zeros (8 * length s - length bs))
written-pack {s} hb w h = sym (pack-bits s hb) ∙ ap (pack (length s)) (w.held h)
