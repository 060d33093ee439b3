-- The channels after level and boundary. Assumes nothing.
use mathlib.Core.Path.{refl, ◌∙◌}
use mathlib.Core.List.{List}
use Prim.Native.Nat.{ℕ}
use Rattle.std.specs.Prelude.{Ok, Err}
use Rattle.bits.specs.Place.{left_at}
use Rattle.bits.specs.declared.Place.{Place}
use Rattle.rules.specs.Format.{each}
use Rattle.rules.specs.Layout.{kinds_of}
use Rattle.rules.specs.Reading.{read_channel}
use Rattle.rules.specs.declared.Layout.{Layout}
use Rattle.reader_channels.specs.declared.values.faults.Fault.{Fault}
use Rattle.reader_channels.specs.Started.{Started}
use Rattle.reader_channels.specs.declared.level_and_boundary.Head.{Head}
use Rattle.reader_channels.specs.Answers.{StoredChannels}
use Rattle.reader_channels.specs.Headed.{Headed}

module _ (l : Layout) (s F S : List ℕ) {h : Head} (t : Started l s (Ok h)) where
  pub headed_after : {q : Place} → StoredChannels l s (each (read_channel l) (kinds_of l) (left_at s h.next.at)) F S (Ok q)
      → Headed l s F S (Ok (record h { next = q }))
  headed_after u = record { is = t.is ∙ rw u.done.is refl; within = u.done.within; holds = (t.holds, u.rows) }

  pub headed_cut : {f : Fault} → StoredChannels l s (each (read_channel l) (kinds_of l) (left_at s h.next.at)) F S (Err f) → Headed l s F S (Err f)
  headed_cut u = record { is = t.is ∙ rw u.done.is refl; within = u.done.within; holds = tt }
