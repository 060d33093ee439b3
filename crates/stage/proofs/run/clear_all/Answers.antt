-- `stage::run::clear_all` meets its contract. Assumes nothing.
use Rattle.stage.proofs.run.clear_all.Goals as goal

pub returns : goal.returns
returns c =
    record { scaled_after = c.clear.ensures; codes_after = c.clear-2.ensures; factors_after = c.clear-3.ensures; side_after = c.clear-4.ensures; frame_after = c.clear-5.ensures }
