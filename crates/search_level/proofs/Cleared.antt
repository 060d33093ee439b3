-- Factors stay small where bands are removed. Assumes nothing.
use mathlib.Core.List.{List}
use Prim.Native.Nat.{ℕ, ◌+◌, ◌*◌, ◌≤◌, zero-le}
use lib.ListN.{set}
use Rattle.buffers.specs.Walk.{AtMost}
use Rattle.buffers.proofs.Most.{part-most, blocks-most}
use Rattle.rules.specs.Layout.{part}
use Rattle.rules.specs.Level.{clear_two, clear_pair}
use Rattle.rules.specs.declared.Layout.{Layout}
use Rattle.rules.proofs.Cuts.{set_keeps}

pub clear-most : (m : ℕ) (l : Layout) (fs : List ℕ) (b : ℕ) → AtMost m fs → AtMost m (clear_pair l fs b)
unfolding clear_pair clear_two
clear-most m l fs b h =
    blocks-most m (λ c. clear_two (part 128 fs c) b)
    (λ c i. set_keeps (λ n. n ≤ m) 0 zero-le (set (part 128 fs c) b 0) (b + 1) i
    (set_keeps (λ n. n ≤ m) 0 zero-le (part 128 fs c) b i (part-most m (c * 128) 128 fs h i))) l.channels
