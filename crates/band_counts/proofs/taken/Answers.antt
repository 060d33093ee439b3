-- `band_counts::taken` meets its contract, by `shifted`. Assumes nothing.
use mathlib.Core.Path.{◌≡◌, sym, subst, ◌∙◌}
use native.Mathlib.Omega.{arith}
use lib.Dec.{T}
use lib.IntN.{pos, nat_abs}
use lib.Signed.{non_neg}
use mir.Syntax.{w32}
use mir.Val.{SFits, Fits, to_z, of_z}
use mir.ValLaws.{to_z-of_z}
use Rattle.rules.proofs.Signs.{magnitude_le}
use Rattle.band_counts.specs.Counts.{count_in}
use Rattle.band_counts.proofs.Entries.{shifted}
use Rattle.band_counts.proofs.taken.Lts as lts
use Rattle.band_counts.proofs.taken.Reads as reads
use Rattle.band_counts.proofs.taken.Goals as goal

fit : (c : lts.Start reads.Pre reads.Post) → SFits w32 c.args.entry
fit c = record { sfits = c.well_formed.0 }

plain : (c : lts.Start reads.Pre reads.Post) → to_z w32 (of_z w32 c.args.entry) ≡ pos (nat_abs c.args.entry)
plain c = to_z-of_z w32 c.args.entry (fit c) ∙ c.requires.0

pub overflow_cast-result : goal.overflow_cast-result
overflow_cast-result c = subst (λ z. T (non_neg z) × Fits w32 (nat_abs z)) (sym (plain c)) (tt, record { fits = omega (arith, magnitude_le c.args.entry (fit c)) })

pub returns : goal.returns
unfolding count_in
returns c = rw (plain c) (shifted (nat_abs c.args.entry) c.args.r c.requires.1)
