-- `hfr::averages::hfr_spectra_averages` meets its contract. Assumes nothing.
use Rattle.std.proofs.Common.{rules}
use Rattle.hfr.proofs.Taken.{four_spectra}
use Rattle.hfr.proofs.averages.hfr_spectra_averages.Goals as goal

pub returns : goal.returns
returns c =
    let a = c.args in record {
      are_four = four_spectra a.layout a.spectra.now _ _ _ _ _ _ _ c.start-n.ensures.0 c.bands_per_group-g.ensures.0 (search rules);
      count_bound = search rules;
    }
