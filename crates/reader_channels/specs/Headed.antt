-- LEVEL, BOUNDARY AND CHANNELS were read. `s` is the part of a frame between its sync and its check; F and S are the factors' and the side's buffers.
use Rattle.std.specs.Prelude.{List, ℕ, ◌≤◌}
use Rattle.buffers.specs.Walk.{build}
use Rattle.rules.specs.Record.{chan_of}
use Rattle.rules.specs.declared.Layout.{Layout}
use Rattle.reader_channels.specs.Started.{Opened, HeadAgrees, codes_then}
use Rattle.reader_channels.specs.Answers.{Rows}

-- factors and side values lie in their buffers
abbrev pub Headed : (l : Layout) (s F S : List ℕ) (r : Opened) → Type 0
Headed l s F S r =
    HeadAgrees l s (λ level boundary. codes_then l level boundary (build (chan_of l F S) l.channels))
    (λ level _. (level ≤ 511) × Rows l F S l.channels) r
