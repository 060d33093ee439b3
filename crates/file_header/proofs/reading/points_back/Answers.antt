use Rattle.std.proofs.Common.{rules}
use Rattle.rules_files.specs.HeaderReading.{start_and_end, points_back}
use native.Mathlib.Omega.{arith}
use Rattle.rules_files.proofs.HeaderJudging.{LoopIs, loop_facts}
use Rattle.file_header.proofs.reading.points_back.Goals as goal

pub returns-in_err-fields : goal.returns-in_err-fields
unfolding points_back
returns-in_err-fields c = search rules

pub returns-then-not-loop_right : goal.returns-then-not-loop_right
unfolding points_back
returns-then-not-loop_right c = search rules

pub overflow_mul-result : goal.overflow_mul-result
overflow_mul-result c =
    let k : LoopIs c.in_ok-fields.fields = loop_facts _ (search rules) in
    record { fits = omega arith }

pub overflow_add-result : goal.overflow_add-result
overflow_add-result c =
    let k : LoopIs c.in_ok-fields.fields = loop_facts _ (search rules) in
    record { fits = omega arith }

pub overflow_sub-result : goal.overflow_sub-result
overflow_sub-result c =
    let k : LoopIs c.in_ok-fields.fields = loop_facts _ (search rules) in
    omega arith

pub overflow_add-result-2 : goal.overflow_add-result-2
overflow_add-result-2 c =
    let k : LoopIs c.in_ok-fields.fields = loop_facts _ (search rules) in
    record { fits = omega arith }

pub overflow_mul-result-2 : goal.overflow_mul-result-2
overflow_mul-result-2 c =
    let k : LoopIs c.in_ok-fields.fields = loop_facts _ (search rules) in
    record { fits = omega arith }

pub overflow_sub-result-2 : goal.overflow_sub-result-2
overflow_sub-result-2 c =
    let k : LoopIs c.in_ok-fields.fields = loop_facts _ (search rules) in
    omega arith

pub overflow_sub-result-3 : goal.overflow_sub-result-3
overflow_sub-result-3 c =
    let k : LoopIs c.in_ok-fields.fields = loop_facts _ (search rules) in
    omega arith

pub returns : goal.returns
unfolding points_back start_and_end
returns c = search rules
