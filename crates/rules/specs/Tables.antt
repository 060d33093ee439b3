-- The tables of source document 000, each once, by the patterns or numbers that stand there.
use Rattle.std.specs.Prelude.{List, [], ◌∷◌, map, ℕ, Float}
use Rattle.std.specs.Float.{binary32}
use Rattle.std.specs.Float.Ieee.{of_bits}

-- DEQUANTIZER_SCALING_TABLE
unfoldable pub scaling_table : List Float
scaling_table =
    map (of_bits binary32)
    (0x342A8D26 ∷ 0x34633F89 ∷ 0x3497657D ∷ 0x34C9B9BE ∷ 0x35066491 ∷ 0x353311C4 ∷ 0x356E9910 ∷ 0x359EF532 ∷
    0x35D3CCF1 ∷ 0x360D1ADF ∷ 0x363C034A ∷ 0x367A83B3 ∷ 0x36A6E595 ∷ 0x36DE60F5 ∷ 0x371426FF ∷ 0x3745672A ∷
    0x37838359 ∷ 0x37AF3B79 ∷ 0x37E97C38 ∷ 0x381B8D3A ∷ 0x384F4319 ∷ 0x388A14D5 ∷ 0x38B7FBF0 ∷ 0x38F5257D ∷
    0x3923520F ∷ 0x39599D16 ∷ 0x3990FA4D ∷ 0x39C12C4D ∷ 0x3A00B1ED ∷ 0x3A2B7A3A ∷ 0x3A647B6D ∷ 0x3A9837F0 ∷
    0x3ACAD226 ∷ 0x3B071F62 ∷ 0x3B340AAF ∷ 0x3B6FE4BA ∷ 0x3B9FD228 ∷ 0x3BD4F35B ∷ 0x3C0DDF04 ∷ 0x3C3D08A4 ∷
    0x3C7BDFED ∷ 0x3CA7CD94 ∷ 0x3CDF9613 ∷ 0x3D14F4F0 ∷ 0x3D467991 ∷ 0x3D843A29 ∷ 0x3DB02F0E ∷ 0x3DEAC0C7 ∷
    0x3E1C6573 ∷ 0x3E506334 ∷ 0x3E8AD4C6 ∷ 0x3EB8FBAF ∷ 0x3EF67A41 ∷ 0x3F243516 ∷ 0x3F5ACB94 ∷ 0x3F91C3D3 ∷
    0x3FC238D2 ∷ 0x400164D2 ∷ 0x402C6897 ∷ 0x4065B907 ∷ 0x40990B88 ∷ 0x40CBEC15 ∷ 0x4107DB35 ∷ 0x413504F3 ∷ [])

-- SCALE_TO_RESOLUTION_CURVE
unfoldable pub resolution_curve : List ℕ
resolution_curve =
    15 ∷ 14 ∷ 14 ∷ 14 ∷ 14 ∷ 14 ∷ 14 ∷ 13 ∷ 13 ∷ 13 ∷ 13 ∷ 13 ∷ 13 ∷ 12 ∷ 12 ∷ 12 ∷
    12 ∷ 12 ∷ 12 ∷ 11 ∷ 11 ∷ 11 ∷ 11 ∷ 11 ∷ 11 ∷ 10 ∷ 10 ∷ 10 ∷ 10 ∷ 10 ∷ 10 ∷ 10 ∷
    9 ∷ 9 ∷ 9 ∷ 9 ∷ 9 ∷ 9 ∷ 8 ∷ 8 ∷ 8 ∷ 8 ∷ 8 ∷ 8 ∷ 7 ∷ 6 ∷ 6 ∷ 5 ∷
    4 ∷ 4 ∷ 4 ∷ 3 ∷ 3 ∷ 3 ∷ 2 ∷ 2 ∷ 2 ∷ 2 ∷ 1 ∷ []

-- QUANTIZER_INVERSE_STEP_SIZE: 0.5, 1.5, .., 7.5, 15.5, .., 2047.5
unfoldable pub step_table : List Float
step_table =
    map (of_bits binary32)
    (0x3F000000 ∷ 0x3FC00000 ∷ 0x40200000 ∷ 0x40600000 ∷ 0x40900000 ∷ 0x40B00000 ∷ 0x40D00000 ∷ 0x40F00000 ∷
    0x41780000 ∷ 0x41FC0000 ∷ 0x427E0000 ∷ 0x42FF0000 ∷ 0x437F8000 ∷ 0x43FFC000 ∷ 0x447FE000 ∷ 0x44FFF000 ∷ [])

-- QUANTIZER_DEAD_ZONE
unfoldable pub dead_zone_table : List Float
dead_zone_table =
    map (of_bits binary32)
    (0x00000000 ∷ 0x3EAAAAAB ∷ 0x3E4CCCCD ∷ 0x3E124925 ∷ 0x3DE38E39 ∷ 0x3DBA2E8C ∷ 0x3D9D89D9 ∷ 0x3D888889 ∷
    0x3D042108 ∷ 0x3C820821 ∷ 0x3C010204 ∷ 0x3B808081 ∷ 0x3B004020 ∷ 0x3A802008 ∷ 0x3A001002 ∷ 0x39800801 ∷ [])

-- MAX_BIT_TABLE
unfoldable pub max_bit_table : List ℕ
max_bit_table = 0 ∷ 2 ∷ 3 ∷ 3 ∷ 4 ∷ 4 ∷ 4 ∷ 4 ∷ 5 ∷ 6 ∷ 7 ∷ 8 ∷ 9 ∷ 10 ∷ 11 ∷ 12 ∷ []

-- QUANTIZE_SPECTRUM_BITS, a row a resolution; a code stands at 8 + code
unfoldable pub spectrum_bits : List (List ℕ)
spectrum_bits =
    (0 ∷ 0 ∷ 0 ∷ 0 ∷ 0 ∷ 0 ∷ 0 ∷ 0 ∷ 0 ∷ 0 ∷ 0 ∷ 0 ∷ 0 ∷ 0 ∷ 0 ∷ 0 ∷ [])
    ∷ (0 ∷ 0 ∷ 0 ∷ 0 ∷ 0 ∷ 0 ∷ 0 ∷ 2 ∷ 1 ∷ 2 ∷ 0 ∷ 0 ∷ 0 ∷ 0 ∷ 0 ∷ 0 ∷ [])
    ∷ (0 ∷ 0 ∷ 0 ∷ 0 ∷ 0 ∷ 0 ∷ 3 ∷ 2 ∷ 2 ∷ 2 ∷ 3 ∷ 0 ∷ 0 ∷ 0 ∷ 0 ∷ 0 ∷ [])
    ∷ (0 ∷ 0 ∷ 0 ∷ 0 ∷ 0 ∷ 3 ∷ 3 ∷ 3 ∷ 2 ∷ 3 ∷ 3 ∷ 3 ∷ 0 ∷ 0 ∷ 0 ∷ 0 ∷ [])
    ∷ (0 ∷ 0 ∷ 0 ∷ 0 ∷ 4 ∷ 3 ∷ 3 ∷ 3 ∷ 3 ∷ 3 ∷ 3 ∷ 3 ∷ 4 ∷ 0 ∷ 0 ∷ 0 ∷ [])
    ∷ (0 ∷ 0 ∷ 0 ∷ 4 ∷ 4 ∷ 4 ∷ 3 ∷ 3 ∷ 3 ∷ 3 ∷ 3 ∷ 4 ∷ 4 ∷ 4 ∷ 0 ∷ 0 ∷ [])
    ∷ (0 ∷ 0 ∷ 4 ∷ 4 ∷ 4 ∷ 4 ∷ 4 ∷ 3 ∷ 3 ∷ 3 ∷ 4 ∷ 4 ∷ 4 ∷ 4 ∷ 4 ∷ 0 ∷ [])
    ∷ (0 ∷ 4 ∷ 4 ∷ 4 ∷ 4 ∷ 4 ∷ 4 ∷ 4 ∷ 3 ∷ 4 ∷ 4 ∷ 4 ∷ 4 ∷ 4 ∷ 4 ∷ 4 ∷ [])
    ∷ []

-- QUANTIZE_SPECTRUM_VALUE
unfoldable pub spectrum_value : List (List ℕ)
spectrum_value =
    (0 ∷ 0 ∷ 0 ∷ 0 ∷ 0 ∷ 0 ∷ 0 ∷ 0 ∷ 0 ∷ 0 ∷ 0 ∷ 0 ∷ 0 ∷ 0 ∷ 0 ∷ 0 ∷ [])
    ∷ (0 ∷ 0 ∷ 0 ∷ 0 ∷ 0 ∷ 0 ∷ 0 ∷ 3 ∷ 0 ∷ 2 ∷ 0 ∷ 0 ∷ 0 ∷ 0 ∷ 0 ∷ 0 ∷ [])
    ∷ (0 ∷ 0 ∷ 0 ∷ 0 ∷ 0 ∷ 0 ∷ 7 ∷ 2 ∷ 0 ∷ 1 ∷ 6 ∷ 0 ∷ 0 ∷ 0 ∷ 0 ∷ 0 ∷ [])
    ∷ (0 ∷ 0 ∷ 0 ∷ 0 ∷ 0 ∷ 7 ∷ 5 ∷ 3 ∷ 0 ∷ 2 ∷ 4 ∷ 6 ∷ 0 ∷ 0 ∷ 0 ∷ 0 ∷ [])
    ∷ (0 ∷ 0 ∷ 0 ∷ 0 ∷ 15 ∷ 6 ∷ 4 ∷ 2 ∷ 0 ∷ 1 ∷ 3 ∷ 5 ∷ 14 ∷ 0 ∷ 0 ∷ 0 ∷ [])
    ∷ (0 ∷ 0 ∷ 0 ∷ 15 ∷ 13 ∷ 11 ∷ 4 ∷ 2 ∷ 0 ∷ 1 ∷ 3 ∷ 10 ∷ 12 ∷ 14 ∷ 0 ∷ 0 ∷ [])
    ∷ (0 ∷ 0 ∷ 15 ∷ 13 ∷ 11 ∷ 9 ∷ 7 ∷ 2 ∷ 0 ∷ 1 ∷ 6 ∷ 8 ∷ 10 ∷ 12 ∷ 14 ∷ 0 ∷ [])
    ∷ (0 ∷ 15 ∷ 13 ∷ 11 ∷ 9 ∷ 7 ∷ 5 ∷ 3 ∷ 0 ∷ 2 ∷ 4 ∷ 6 ∷ 8 ∷ 10 ∷ 12 ∷ 14 ∷ [])
    ∷ []
