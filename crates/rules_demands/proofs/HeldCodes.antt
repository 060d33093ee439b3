-- In held mode (request A9) each code that the stage makes is in its range. Assumes nothing.
use mathlib.Core.Path.{◌≡◌, sym, ap, ap₂, subst, ◌∙◌}
use mathlib.Core.List.{List}
use Prim.Native.Nat.{ℕ, ◌+◌, ◌*◌, ◌≤◌, ◌<◌}
use native.Mathlib.Omega.{arith}
use lib.IntN.{nat_abs}
use lib.Ieee.{Float, nan}
use lib.ListN.{get_or}
use Rattle.rules.specs.Layout.{LegalLayout, coded_count_at, part}
use Rattle.rules.specs.Resolution.{resolution_at, all_resolutions}
use Rattle.rules.specs.Code.{recorded_code, code_at, all_codes}
use Rattle.rules.specs.Record.{code_range, CodesInRange}
use Rattle.rules.specs.Stage.{analysis_from, analysis}
use Rattle.rules.specs.declared.Mode.TheVariants.{Held}
use Rattle.rules.specs.declared.Layout.{Layout}
use Rattle.rules.proofs.Layouts.{coded-few}
use Rattle.rules.proofs.Bands.{coded-band, resolutions-part}
use Rattle.rules.proofs.Modes.{held_recorded}
use Rattle.rules_demands.proofs.MadeRecord.{code_at_lem}

-- a coded band's codes, at its resolution
codes-held : (l : Layout) (level boundary : ℕ) (scaled : List Float) (F : List ℕ) → LegalLayout l → l.mode ≡ Held
    → CodesInRange l level boundary F (all_codes l (all_resolutions l level boundary F) scaled)
unfolding code_at
codes-held l level boundary scaled F z e c s b h g k =
    let few : b < 128 = omega (arith, coded-few l z c) in
    let x : Float = get_or (part 1024 scaled c) (b * 8 + s) nan in
    let r : ℕ = resolution_at l level boundary (part 128 F c) b in
    let q = ap (λ rs. get_or rs b 0) (resolutions-part l level boundary F c h) ∙ coded-band l level boundary (part 128 F c) (coded_count_at l c) b few k in
    subst (λ n. nat_abs n ≤ code_range r)
    (sym (code_at_lem l (all_resolutions l level boundary F) scaled c s b h g few ∙ ap₂ (λ m n. recorded_code m n x) e q)) (held_recorded r x)

pub made_in_range : (l : Layout) (spectra : List Float) (is : List ℕ) → LegalLayout l → l.mode ≡ Held
    → CodesInRange l (analysis l spectra is).found.level (analysis l spectra is).boundary (analysis l spectra is).found.factors
    (analysis l spectra is).codes
unfolding analysis analysis_from
made_in_range l spectra is z e = codes-held l _ _ _ _ z e
