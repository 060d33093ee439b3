-- `codes::band::top_of` meets its contract. Assumes nothing.
use borrow.Author.Tests.{eq-eqb, ne_eqb}
use lib.Ieee.{of_bits}
use Rattle.codes.proofs.band.top_of.Goals as goal

pub returns-then-resolution-eq0 : goal.returns-then-resolution-eq0
unfolding of_bits
returns-then-resolution-eq0 c = rw (c.in-Rust.is, eq-eqb _ _ c.if-resolution-eq0.true)

pub returns-else-resolution-eq0 : goal.returns-else-resolution-eq0
unfolding of_bits
returns-else-resolution-eq0 c = rw (c.in-Rust.is, ne_eqb _ _ c.if-resolution-eq0.false)

pub returns-in-Held : goal.returns-in-Held
returns-in-Held c = rw c.in-Held.is
