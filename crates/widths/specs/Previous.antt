-- What stands before factor i of a channel, as writer and reader of deltas meet it: none before the first.
use Rattle.std.proofs.Math.Option.{Option, none, some}
use Rattle.std.specs.Prelude.{ℕ, zero, suc}

abbrev pub factor_before : (i previous : ℕ) → Option ℕ
factor_before zero previous = none
factor_before (suc i) previous = some previous
