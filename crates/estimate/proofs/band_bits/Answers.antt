-- `estimate::band_bits` meets its contract. Assumes nothing.
use Rattle.estimate.proofs.band_bits.Goals as goal

pub band_bits_at-requires : goal.band_bits_at-requires
band_bits_at-requires c =
    let p = c.requires in
    record { stretched = p.stretched; counts_len = (p.counts_len.0, p.counts_len.1, p.counts_len.2, c.place_of.ensures.0, p.counts_len.3) }
