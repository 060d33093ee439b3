-- What the contract of `hca_version` cites: a version as one number.
use Rattle.std.specs.Prelude.{ℕ, ◌+◌, ◌*◌}

-- three numbers below 100, but for the first
abbrev pub version_number : (major minor patch : ℕ) → ℕ
version_number major minor patch = (10000 * major + 100 * minor) + patch

-- THE VERSION of this library: 0.2.0
unfoldable pub version : ℕ
version = version_number 0 2 0
