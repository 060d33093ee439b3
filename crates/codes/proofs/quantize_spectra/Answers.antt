use mathlib.Core.Path.{sym, subst, ◌∙◌}
use mathlib.Core.List.{List}
use Prim.Native.Nat.{ℕ, ◌+◌, ◌-◌, ◌*◌}
use native.Mathlib.Omega.{arith}
use lib.Ieee.{Float, nan}
use lib.ListN.{take, drop, length-take, length-drop}
use lib.Seq.{get_or-take, get_or-drop}
use borrow.Author.Rules.{rules}
use Rattle.buffers.proofs.Build.{back-width}
use Rattle.buffers.proofs.Most.{part-most}
use Rattle.rules.specs.Code.{all_codes}
use Rattle.rules.proofs.LentRows.{next-ends, lent-long}
use Rattle.buffers.proofs.Blocks.{blocked_none, blocked_more, blocked_exact}
use Rattle.within.specs.Within.{Within, AllWithin}
use Rattle.codes.proofs.Bands.{codes_at, codes-size}
use Rattle.codes.proofs.quantize_spectra.Goals as goal

-- of a part
part-within : (n k : ℕ) (xs : List Float) → AllWithin xs → AllWithin (take k (drop n xs))
unfolding AllWithin
part-within n k xs w i h =
    let l = length-take k (drop n xs) in
    let m = length-drop n xs in
    let e = get_or-take k (drop n xs) i nan (omega arith) ∙ get_or-drop n xs i nan in
    subst Within (sym e) (w (n + i) (omega arith))

pub loop-c-init : goal.loop-c-init
loop-c-init c = blocked_none _ 1024 _

pub channel_codes-requires : goal.channel_codes-requires
channel_codes-requires c =
    let a = c.args in
    let h = c.loop-c-test.true in record {
      at_most = (
        part-most 15 (c.loop-c.c * 128) (c.loop-c.c * 128 + 128 - c.loop-c.c * 128) a.resolutions.now c.requires.at_most.0,
        part-within (c.loop-c.c * 1024) (c.loop-c.c * 1024 + 1024 - c.loop-c.c * 1024) a.scaled.now c.requires.at_most.1,
      );
      resolutions_len = (
        lent-long 128 _ _ _ h c.requires.resolutions_len.0,
        lent-long 1024 _ _ _ h c.requires.resolutions_len.1,
        lent-long 1024 _ _ _ h (c.loop-c.invariant.0 ∙ c.requires.resolutions_len.2),
      );
    }

pub loop-c-preserved : goal.loop-c-preserved
loop-c-preserved c =
    let a = c.args in
    let h = c.loop-c-test.true in
    blocked_more (codes_at a.layout.mode a.resolutions.now a.scaled.now) 1024 a.layout.channels a.codes.now (λ i h. codes-size _ _ _)
    c.loop-c.c c.loop-c.codes h c.loop-c.invariant c.channel_codes.new.codes (next-ends 1024 _ _ _ h c.requires.resolutions_len.2)
    (c.channel_codes.ensures ∙ rw (back-width (c.loop-c.c * 1024) 1024, back-width (c.loop-c.c * 128) 128))

pub shape_of-codes : goal.shape_of-codes
shape_of-codes c = c.loop-c.invariant.0

pub returns : goal.returns
unfolding all_codes
returns c =
    let a = c.args in
    blocked_exact _ 1024 a.codes.now c.loop-c.c a.layout.channels _ (search rules) (search rules) (search rules) c.loop-c.invariant
