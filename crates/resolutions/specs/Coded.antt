-- The resolutions of a channel's coded bands, out of those of all channels' C x 128 bands.
use Rattle.std.specs.Prelude.{List, ℕ, take}
use Rattle.rules.specs.Layout.{coded_count_at, part}
use Rattle.rules.specs.declared.Layout.{Layout}

abbrev pub coded_resolutions : (l : Layout) (resolutions : List ℕ) (channel : ℕ) → List ℕ
coded_resolutions l resolutions channel = take (coded_count_at l channel) (part 128 resolutions channel)
