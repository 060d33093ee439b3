-- `file_header::numbers_at::stands` meets its contract. Assumes nothing.
use mathlib.Core.Path.{ap}
use Prim.Native.Nat.{ℕ}
use lib.Dec.{eqb}
use Rattle.rules_files.specs.HeaderReading.{number_at}
use Rattle.file_header.proofs.numbers_at.stands.Goals as goal

pub returns : goal.returns
unfolding number_at
returns c = ap (λ (n : ℕ). eqb n c.args.value) c.number_at.ensures.0
