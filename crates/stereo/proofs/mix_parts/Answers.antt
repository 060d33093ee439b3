-- `stereo::mix_parts` meets its contract. Assumes nothing.
use mathlib.Core.Path.{sym, ◌∙◌}
use lib.Seq.{length-take-le}
use Rattle.stereo.proofs.Fronts.{parts_back, parts_front}
use Rattle.stereo.proofs.mix_parts.Goals as goal

pub slice_bounds-encode_intensity_stereo-end-2 : goal.slice_bounds-encode_intensity_stereo-end-2
slice_bounds-encode_intensity_stereo-end-2 c = sym (length-take-le _ _ c.requires.layout_in_bounds.0)

pub slice_bounds-encode_intensity_stereo-end-4 : goal.slice_bounds-encode_intensity_stereo-end-4
slice_bounds-encode_intensity_stereo-end-4 c = sym (length-take-le _ _ c.requires.layout_in_bounds.1)

pub encode_intensity_stereo-requires : goal.encode_intensity_stereo-requires
encode_intensity_stereo-requires c =
    record { legal_layout = c.requires.legal_layout; spectra_len = (length-take-le _ _ c.requires.layout_in_bounds.0, length-take-le _ _ c.requires.layout_in_bounds.1) }

pub returns : goal.returns
returns c =
    let m = c.encode_intensity_stereo in
    let p = m.auto.spectra ∙ length-take-le _ _ c.requires.layout_in_bounds.0 in
    let q = m.auto.intensities ∙ length-take-le _ _ c.requires.layout_in_bounds.1 in
    record { whole = parts_back _ _ _ _ _ p q m.ensures; front = parts_front _ _ _ _ _ p q m.ensures }
