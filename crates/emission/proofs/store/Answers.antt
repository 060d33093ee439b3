-- `emission::store` meets its contract: all eight bytes are put over the payload's, or as many as there is room for. Assumes nothing.
use mathlib.Core.Path.{◌≡◌, ap, ◌∙◌}
use mathlib.Core.List.{List}
use Prim.Native.Nat.{ℕ, ◌+◌, ◌-◌}
use native.Mathlib.Omega.{arith}
use lib.ListN.{length, get_or, take}
use lib.Seq.{length-take-le, get_or-take}
use Rattle.std.specs.Int.{to_be_bytes, w64}
use Rattle.emission.proofs.Stores.{be_byte, stored_part}
use Rattle.emission.proofs.store.Goals as goal

pub returns-then-at-payload : goal.returns-then-at-payload
returns-then-at-payload c =
    let a = c.args in
    let eight : a.at + 8 - a.at ≡ 8 = omega arith in
    let bytes : c.copy_from_slice.new.self ≡ to_be_bytes w64 a.w = c.copy_from_slice.ensures.after ∙ c.to_be_bytes-bytes.ensures in
    let long : length c.copy_from_slice.new.self ≡ 8 = ap length bytes in
    stored_part (a.at + 8 - a.at) c.copy_from_slice.new.self (omega arith) (omega (arith, long, eight))
    (λ j g i. (omega (arith, eight), ap (λ (l : List ℕ). get_or l j 0) bytes ∙ be_byte a.w j g))

pub returns-then-at-payload-2 : goal.returns-then-at-payload-2
returns-then-at-payload-2 c =
    let a = c.args in
    let room : ℕ = length a.payload.now - a.at in
    let put : List ℕ = c.copy_from_slice-then-at-payload-2.new.self in
    let bytes : put ≡ take room (to_be_bytes w64 a.w) = c.copy_from_slice-then-at-payload-2.ensures.after ∙ ap (take room) c.to_be_bytes-bytes.ensures in
    let long : length put ≡ room = ap length bytes ∙ length-take-le room (to_be_bytes w64 a.w) (omega arith) in
    stored_part room put (omega arith) long
    (λ j g i. (
      omega arith,
      ap (λ (l : List ℕ). get_or l j 0) bytes ∙ get_or-take room (to_be_bytes w64 a.w) j 0 (omega arith) ∙ be_byte a.w j g,
    ))
