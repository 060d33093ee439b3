-- `quantizer::counts::rust_marks` meets its contract, the Rust's mode: each arm has its resolution's marks. Assumes nothing.
use mathlib.Core.Path.{◌≡◌, ◌∙◌}
use native.Mathlib.Nat.{le_of_suc-le-suc}
use lib.Ieee.{of_bits, of_int}
use Rattle.rules.specs.Tables.{step_table, spectrum_bits}
use Rattle.rules.specs.Signed.{held_z}
use Rattle.rules.specs.Code.{step_of, code_place}
use Rattle.quantizer.specs.Marks.{marks_at, near_at, far_at, past_at, high_at, low_at, drop_at}
use Rattle.quantizer.proofs.Entries.{last_arm}
use Rattle.quantizer.proofs.counts.rust_marks.Goals as goal

pub returns-in-0 : goal.returns-in-0
unfolding marks_at near_at far_at past_at high_at low_at drop_at step_of step_table spectrum_bits code_place held_z of_bits of_int
returns-in-0 c = c.marked.ensures ∙ rw c.in-0.is

pub returns-in-1 : goal.returns-in-1
unfolding marks_at near_at far_at past_at high_at low_at drop_at step_of step_table spectrum_bits code_place held_z of_bits of_int
returns-in-1 c = c.marked-in-1.ensures ∙ rw c.in-1.is

pub returns-in-2 : goal.returns-in-2
unfolding marks_at near_at far_at past_at high_at low_at drop_at step_of step_table spectrum_bits code_place held_z of_bits of_int
returns-in-2 c = c.marked-in-2.ensures ∙ rw c.in-2.is

pub returns-in-3 : goal.returns-in-3
unfolding marks_at near_at far_at past_at high_at low_at drop_at step_of step_table spectrum_bits code_place held_z of_bits of_int
returns-in-3 c = c.marked-in-3.ensures ∙ rw c.in-3.is

pub returns-in-4 : goal.returns-in-4
unfolding marks_at near_at far_at past_at high_at low_at drop_at step_of step_table spectrum_bits code_place held_z of_bits of_int
returns-in-4 c = c.marked-in-4.ensures ∙ rw c.in-4.is

pub returns-in-5 : goal.returns-in-5
unfolding marks_at near_at far_at past_at high_at low_at drop_at step_of step_table spectrum_bits code_place held_z of_bits of_int
returns-in-5 c = c.marked-in-5.ensures ∙ rw c.in-5.is

pub returns-in-6 : goal.returns-in-6
unfolding marks_at near_at far_at past_at high_at low_at drop_at step_of step_table spectrum_bits code_place held_z of_bits of_int
returns-in-6 c = c.marked-in-6.ensures ∙ rw c.in-6.is

pub returns-in_default : goal.returns-in_default
unfolding marks_at near_at far_at past_at high_at low_at drop_at step_of step_table spectrum_bits code_place held_z of_bits of_int
returns-in_default c =
    let e : c.args.r ≡ 7 = last_arm 7 _ (le_of_suc-le-suc c.requires) c.in_default.in_default-own.rest in
    c.marked-in_default.ensures ∙ rw e
