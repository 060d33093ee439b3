-- `band_counts::band_counts` meets its contract. Assumes nothing.
use mathlib.Core.Path.{sym, ◌∙◌}
use Rattle.band_counts.proofs.Zones.{each_within}
use Rattle.band_counts.proofs.band_counts.Goals as goal

pub zone_counts-requires : goal.zone_counts-requires
zone_counts-requires c =
    record { each_within = each_within c.args.e (sym c.all_within.ensures ∙ c.if-all_within.true); counts_len = c.requires }
