-- Held at the upper end first, then at the lower: the same for every float, as the lower end is below the upper. Assumes nothing.
use mathlib.Core.Path.{◌≡◌, refl, sym, subst}
use mathlib.Core.Bool.{Bool, true, false, cond}
use lib.Dec.{T}
use lib.IntN.{negsuc}
use lib.Ieee.{Float, nan, inf, fin, lt, neg, of_bits}
use Rattle.floats.specs.Single.{held_f, max_f, min_f}
use Rattle.rules.specs.Scaling.{clip}

abbrev high : Float
high = fin false 8388607 (negsuc 22)

abbrev low : Float
low = fin true 8388607 (negsuc 22)

clip-is : (clip ≡ high) × (neg high ≡ low)
unfolding of_bits neg
clip-is = (refl, refl)

-- no float is above the one and below the other
apart : (x : Float) → lt high x ≡ true → lt x low ≡ false
unfolding lt
apart nan h = refl
apart (inf true) h = absurd (subst T (sym h) tt)
apart (inf false) h = refl
apart (fin true m e) h = absurd (subst T (sym h) tt)
apart (fin false m e) h = refl

ends : lt high low ≡ false
unfolding lt
ends = refl

pub held-is : (x : Float) → max_f (min_f x clip) (neg clip) ≡ held_f (neg clip) clip x
unfolding max_f min_f held_f
held-is x = rw (clip-is.0, clip-is.1) (go (lt high x) refl)
  where
    go : (u : Bool) → lt high x ≡ u → cond (lt (cond u high x) low) low (cond u high x) ≡ cond (lt x low) low (cond u high x)
    go true h = rw (ends, apart x h)
    go false h = refl
