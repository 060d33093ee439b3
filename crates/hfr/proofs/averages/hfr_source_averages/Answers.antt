-- `hfr::averages::hfr_source_averages` meets its contract. Assumes nothing.
use Rattle.std.proofs.Common.{rules}
use Rattle.hfr.proofs.Taken.{four_sources}
use Rattle.hfr.proofs.averages.hfr_source_averages.Goals as goal

pub returns : goal.returns
returns c =
    let a = c.args in record {
      are_four = four_sources a.layout a.scaled.now _ _ _ _ _ _ _ c.start-n.ensures.0 c.bands_per_group-g.ensures.0 _ c.min-limit.ensures (search rules);
      count_bound = search rules;
    }
