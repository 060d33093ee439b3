-- What the search of the level and that of the boundary know of all that their probes read.
use Rattle.std.specs.Prelude.{◌≡◌, length}
use Rattle.buffers.specs.Walk.{AtMost}
use Rattle.rules.specs.Layout.{LegalLayout, spectrum_length, factor_length}
use Rattle.resolutions.specs.Stretched.{IsStretched}
use Rattle.band_counts.specs.Counts.{Counted}
use Rattle.estimate.specs.declared.Probe.{Probe}

-- a legal layout and its curve, the counts of the scaled values, factors of at most 63, and the layout's lengths
pub record ProbeFits (p : Probe) : Type 0 where
  pub legal : LegalLayout p.layout
  pub stretched : IsStretched p.layout p.curve.now
  pub counted : Counted p.layout p.scaled.now p.counts.now
  pub small : AtMost 63 p.factors.now
  pub scaled_len : length p.scaled.now ≡ spectrum_length p.layout
  pub factors_len : length p.factors.now ≡ factor_length p.layout
