-- Refusal 7 can follow a found level, as document 01 says: an input at which it does. Assumes nothing.
use mathlib.Core.Path.{◌≡◌, ◌∙◌, ap}
use Prim.Native.Nat.{◌≤◌, ◌<◌}
use native.Mathlib.Omega.{arith}
use borrow.Author.Tests.{lt-ltb, le-ltb}
use lib.ListN.{length}
use Rattle.rules.specs.Fields.{fields}
use Rattle.rules.specs.Frame.{field_end}
use Rattle.rules.specs.Refusals.{refused}
use Rattle.rules.specs.Lent.{no_side}
use Rattle.rules.specs.Stage.{Analysis, cleared, stage_overwrite, analysis, stage_record, after_packing, after_level}
use Rattle.rules.specs.declared.Layout.{Layout}
use Rattle.rules_worked.proofs.Runs.{lent, run_made, run}
use Rattle.rules_worked.proofs.Inputs.{edged, right}
use Rattle.rules_worked.proofs.Worked.{left}

settled_long : (l : Layout) (m : Analysis) → m.found.level ≤ 254 → field_end l < length (fields l (stage_record l m)) → after_level l m
    ≡ cleared l (refused 7 (length (fields l (stage_record l m))))
unfolding after_level after_packing
settled_long l m h n = rw (le-ltb 254 m.found.level h, lt-ltb (field_end l) (length (fields l (stage_record l m))) n)

-- the level found is 0,
pub edged-level : (analysis edged.layout edged.spectra (no_side edged.layout)).found.level ≡ 0
edged-level = ap (λ (m : Analysis). m.found.level) (run_made edged right.8)

-- the fields take a bit more than there are,
pub edged-bits : length (fields edged.layout (stage_record edged.layout (analysis edged.layout edged.spectra (no_side edged.layout)))) ≡ 137
edged-bits = ap (λ (m : Analysis). length (fields edged.layout (stage_record edged.layout m))) (run_made edged right.8) ∙ ap (λ w. w.bits) right.8

-- and the call is refused with 7 and the bits that they take, all buffers zero.
pub edged-refused : left edged ≡ stage_overwrite (lent edged.layout edged.spectra) (cleared edged.layout (refused 7 137))
edged-refused =
    run edged right.8
    ∙ ap (stage_overwrite (lent edged.layout edged.spectra))
    (settled_long edged.layout edged.analysis (omega arith) (omega (arith, ap (λ w. w.bits) right.8))
    ∙ ap (λ n. cleared edged.layout (refused 7 n)) (ap (λ w. w.bits) right.8))
