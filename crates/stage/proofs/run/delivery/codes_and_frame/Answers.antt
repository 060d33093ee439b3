-- `stage::run::delivery::codes_and_frame` meets its contract. Assumes nothing.
use mathlib.Core.Path.{◌≡◌, ap, ◌∙◌}
use Prim.Native.Nat.{ℕ, ◌≤◌}
use native.Mathlib.Omega.{arith}
use lib.ListN.{length, take, replicate, length-replicate}
use lib.Seq.{length-take-le}
use Rattle.rules.specs.Code.{all_codes}
use Rattle.resolutions.proofs.Bands.{resolutions-most}
use Rattle.packing_codes.proofs.Ranges.{made_ranged}
use Rattle.stage.proofs.run.delivery.codes_and_frame.Goals as goal

-- the array has room for the part that is lent
front : (m n v : ℕ) → n ≤ m → length (take n (replicate m v)) ≡ n
front m n v h = length-take-le n (replicate m v) (rw (length-replicate m v) h)

pub quantize_spectra-requires : goal.quantize_spectra-requires
quantize_spectra-requires c =
    let r = c.calculate_frame_resolutions in record {
      legal_layout = c.requires.legal_layout;
      at_most = (rw r.ensures (resolutions-most _ _ _ _ c.requires.legal_layout), c.requires.codes_len.2);
      resolutions_len = (r.auto.resolutions ∙ front 2048 _ 0 (omega (arith, c.requires.legal_layout)), c.requires.scaled_len.0, c.requires.codes_len.0);
    }

pub pack_frame-requires : goal.pack_frame-requires
pack_frame-requires c =
    let q = c.quantize_spectra in record {
      legal_layout = c.requires.legal_layout;
      level_bound = c.requires.level_bound;
      factors_len = (c.requires.scaled_len.1, c.requires.scaled_len.2, q.auto.codes ∙ c.requires.codes_len.0);
      resolutions_value = (c.calculate_frame_resolutions.ensures, c.requires.codes_len.1);
      all_ranged = rw q.ensures (made_ranged _ _ _);
    }

pub returns : goal.returns
returns c =
    let p = c.pack_frame in
    let r = c.calculate_frame_resolutions in
    record {
      coded = c.quantize_spectra.ensures
          ∙ ap (λ rs. all_codes c.args.layout rs c.args.scaled.now) r.ensures;
      bits = p.ensures.bits;
      stored = p.ensures.stored;
    }
