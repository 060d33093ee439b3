-- Document 01, **Level**: the factors after each stage of the removal. Definitions only.
use Rattle.std.specs.Prelude.{List, ℕ, zero, suc, ◌-◌, ◌*◌}
use Rattle.rules.specs.Layout.{start_band}
use Rattle.rules.specs.Level.{clear_pair}
use Rattle.rules.specs.declared.Layout.{Layout}

-- the factors after k stages; stage k clears the pair at N - 2k, in every channel
unfoldable pub after_pairs : (l : Layout) (factors : List ℕ) (stages : ℕ) → List ℕ
after_pairs l factors zero = factors
after_pairs l factors (suc k) = clear_pair l (after_pairs l factors k) (start_band l - 2 * suc k)
