-- `emission::Run::put_wide` meets its contract. Assumes nothing.
use mathlib.Core.Path.{◌∙◌}
use mathlib.Core.List.{◌++◌}
use native.Mathlib.Omega.{arith}
use Rattle.bits.specs.Bits.{bits}
use Rattle.bits.proofs.Numbers.{length-bits}
use Rattle.emission.proofs.Joins.{or_more}
use Rattle.emission.proofs.Runs.{field_waits}
use Rattle.emission.proofs.Run.put_wide.Goals as goal

pub returns : goal.returns
returns c =
    let a = c.args in
    let d = c.flush.ensures in
    let more = or_more a.self.n a.count a.self.bits a.value (omega arith) c.requires.1 in
    record {
      next = rw (length-bits a.count a.value) (d.next ∙ omega arith);
      few = d.few;
      same = d.same;
      runs = λ w e. d.runs (w ++ bits a.count a.value) (field_waits e a.count a.value _ more);
    }
