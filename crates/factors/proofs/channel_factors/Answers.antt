-- `factors::channel_factors` meets its contract. Assumes nothing.
use mathlib.Core.Path.{refl}
use Rattle.factors.proofs.Channel.{channel_laid}
use Rattle.factors.proofs.channel_factors.Goals as goal

pub returns : goal.returns
returns c =
    channel_laid _ _ c.requires.spectra_len.2 _ _ refl c.fill_tops.ensures _ _ _ c.requires.spectra_len.1 c.factors_of.ensures
    c.clear.ensures
