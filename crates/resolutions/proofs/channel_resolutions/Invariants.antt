-- `resolutions::channel_resolutions` meets its contract. The invariant: the first b are stored. Assumes nothing.
use Rattle.buffers.proofs.Build.{Filled}
use Rattle.rules.specs.Resolution.{band_resolution}
use Rattle.resolutions.proofs.channel_resolutions.Given as goal

abbrev pub invariant-loop-b : goal.invariant-loop-b
invariant-loop-b l = Filled (band_resolution l.layout l.level l.boundary l.factors l.coded) l.initial.resolutions l.b l.resolutions
