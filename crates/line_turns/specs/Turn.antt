-- What frame k's turn asks of the lent buffers, and what the single call left.
use Rattle.std.specs.Prelude.{ℕ, ◌+◌, ◌*◌, ◌≤◌, ◌<◌, ℤ, Float, List, Result, Ok, Err}
use Rattle.rules.specs.Layout.{frame_size, spectrum_length, side_length}
use Rattle.rules.specs.Refusals.{Outcome}
use Rattle.rules.specs.declared.Layout.{Layout}
use Rattle.rules.specs.declared.Delivery.{Delivery}
use Rattle.rules_stereo.specs.Mixed.{signal}
use Rattle.rules_stereo.specs.Stereo.{StereoLeft, with_signal}
use Rattle.rules_line.specs.Asked.{delivered_outcome}

-- its parts are within n spectra, m intensities and f bytes
pub record Turn (l : Layout) (k n m f : ℕ) : Type 0 where
  pub below : k < 65535
  pub spectra : k * spectrum_length l + spectrum_length l ≤ n
  pub intensities : k * side_length l + side_length l ≤ m
  pub frames : k * frame_size l + frame_size l ≤ f

-- what a single call answered, by what its refusals mean
unfoldable pub call_outcome : {R : Type 0} (refusal : R → Outcome) (answer : Result Delivery R) → Outcome
call_outcome refusal (Ok d) = delivered_outcome d
call_outcome refusal (Err r) = refusal r

-- what a single call left, by its outcome
abbrev pub left_by : (o : Outcome) (xs : List Float) (is : List ℕ) (sc : List Float) (co : List ℤ) (fa si fr : List ℕ) → StereoLeft
left_by o xs is sc co fa si fr = with_signal (signal xs is) (record { outcome = o; scaled = sc; codes = co; factors = fa; side = si; frame = fr })
