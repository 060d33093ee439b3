-- `layouts::is_secondary` meets its contract. Assumes nothing.
use mathlib.Core.Path.{◌≡◌, refl}
use mathlib.Core.Bool.{false}
use Rattle.rules.specs.Layout.{secondary_at, kind_at, is_secondary}
use Rattle.rules.specs.declared.ChannelType.{ChannelType}
use Rattle.layouts.proofs.is_secondary.Goals as goal

another_kind : (k : ChannelType) → (k ≡ ChannelType.StereoSecondary → ⊥) → false ≡ is_secondary k
another_kind ChannelType.Discrete h = refl
another_kind ChannelType.StereoPrimary h = refl
another_kind ChannelType.StereoSecondary h = absurd (h refl)

pub returns-in-StereoSecondary : goal.returns-in-StereoSecondary
unfolding secondary_at kind_at
returns-in-StereoSecondary c = rw c.in-StereoSecondary.is

pub returns-in_default : goal.returns-in_default
unfolding secondary_at kind_at
returns-in_default c = another_kind _ c.in_default.not-StereoSecondary
