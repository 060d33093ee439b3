-- What an answer says once its variant is known. Assumes nothing.
use mathlib.Core.Path.{◌≡◌, subst}
use mathlib.Core.List.{List}
use Prim.Native.Nat.{ℕ, ◌*◌, ◌^◌, ◌≤◌}
use lib.ListN.{length}
use Rattle.std.specs.Prelude.{Ok, Err}
use Rattle.bits.specs.Place.{left_at, field_at}
use Rattle.bits.specs.declared.Place.{Place}
use Rattle.bits.specs.declared.PastEnd.{PastEnd}
use Rattle.bits.proofs.Fields.{got}
use Rattle.rules.specs.Format.{Read, number}
use Rattle.rules_formats.proofs.Numbers.{number_got, number_past}
use Rattle.reader_channels.specs.declared.values.faults.Fault.TheVariants as fault
use Rattle.reader_channels.specs.Values.{Value, ValueAgrees}

-- A FIELD that was read, or that passes the end
module _ (s : List ℕ) (p n : ℕ) where
  pub number_read : {v : ℕ} {q : Place} → field_at s p n ≡ Ok (v, q) → ValueAgrees s (number n (left_at s p)) (2 ^ n) (Ok (v, q))
  number_read e = let g = got s p n e in record { is = number_got s p n e; within = g.fits; small = g.small }

  pub number_cut : {b : PastEnd} → p ≤ 8 * length s → field_at s p n ≡ Err b → ValueAgrees s (number n (left_at s p)) (2 ^ n) (Err (fault.PastEnd p))
  number_cut h e = record { is = number_past s p n h e; within = h; small = tt }

-- an answer of a known variant
pub agrees_of : {s : List ℕ} {x : Read ℕ} {m : ℕ} {r r' : Value} → r ≡ r' → ValueAgrees s x m r → ValueAgrees s x m r'
agrees_of {s} {x} {m} e t = subst (λ z. ValueAgrees s x m z) e t
