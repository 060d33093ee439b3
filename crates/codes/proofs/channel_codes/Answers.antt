-- `codes::channel_codes` meets its contract. Assumes nothing.
use mathlib.Core.Path.{ap, ◌∙◌}
use Prim.Native.Nat.{◌-◌}
use lib.IntN.{pos}
use Rattle.codes.specs.Bands.{bands_laid}
use Rattle.codes.proofs.Bands.{channel_laid}
use Rattle.codes.proofs.channel_codes.Goals as goal

pub returns : goal.returns
returns c =
    let u = c.used_bands-n in
    let n = u.result in
    c.clear_from.ensures
    ∙ ap (bands_laid (λ b i. pos 0) n (128 - n)) c.lay_codes.ensures
    ∙ channel_laid _ _ _ n c.args.codes.now c.requires.resolutions_len.2 u.ensures.0 u.ensures.1
