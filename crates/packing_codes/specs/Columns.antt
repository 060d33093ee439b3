-- A code's field by one rule for all resolutions. A resolution's codes are numbered 0, 1, -1, 2, -2, ..; of its n words the first u have L - 1 bits, the
-- others L.
use Rattle.std.specs.Prelude.{◌≡◌, List, [], ◌∷◌, Bool, cond, ℕ, zero, suc, ◌+◌, ◌-◌, ◌*◌, ◌/◌, ◌%◌, ◌≤◌, ◌<◌, ltb, ℤ, pos, negsuc, nat_abs, get_or, take}
use Rattle.bits.specs.Bits.{bits}
use Rattle.rules.specs.Code.{code_limit}
use Rattle.rules.specs.Layout.{coded_count_at, part}
use Rattle.rules.specs.declared.Layout.{Layout}

-- a code's number
abbrev pub ordinal : (code : ℤ) → ℕ
ordinal (pos zero) = 0
ordinal (pos (suc k)) = 2 * k + 1
ordinal (negsuc k) = 2 * k + 2

-- L + 16 u + 256 n, by resolution
unfoldable pub rules : List ℕ
rules =
    0 ∷ 786 ∷ 1331 ∷ 1811 ∷ 2420 ∷ 2900 ∷ 3380 ∷ 3860 ∷
    7957 ∷ 16150 ∷ 32535 ∷ 65304 ∷ 130841 ∷ 261914 ∷ 524059 ∷ 1048348 ∷ []

abbrev pub rule_of : (resolution : ℕ) → ℕ
rule_of resolution = get_or rules resolution 0

-- the field of number o by a rule
unfoldable pub length_of : (rule number : ℕ) → ℕ
length_of rule number = cond (ltb number (rule / 256)) (cond (ltb number (rule / 16 % 16)) (rule % 16 - 1) (rule % 16)) 0

unfoldable pub word_of : (rule number : ℕ) → ℕ
word_of rule number = cond (ltb number (rule / 256)) (cond (ltb number (rule / 16 % 16)) number (number + rule / 16 % 16)) 0

unfoldable pub rule_bits : (rule : ℕ) (code : ℤ) → List Bool
rule_bits rule code = bits (length_of rule (ordinal code)) (word_of rule (ordinal code))

-- -8..7
abbrev pub Small : (code : ℤ) → Type 0
Small (pos k) = k ≤ 7
Small (negsuc k) = k ≤ 7

-- what the codes of a resolution are held to
pub record Ranged (resolution : ℕ) (code : ℤ) : Type 0 where
  pub small : resolution < 8 → Small code
  pub large : 8 ≤ resolution → nat_abs code ≤ code_limit resolution

-- a rule of some resolution, and a code within its range
pub record Ruled (rule : ℕ) (code : ℤ) : Type 0 where
  pub resolution : ℕ
  pub known : resolution ≤ 15
  pub same : rule ≡ rule_of resolution
  pub ranged : Ranged resolution code

-- ---- columns

abbrev pub length_at : (rows : List ℕ) (codes : List ℤ) (band : ℕ) → ℕ
length_at rows codes band = length_of (get_or rows band 0) (ordinal (get_or codes band (pos 0)))

abbrev pub word_at : (rows : List ℕ) (codes : List ℤ) (band : ℕ) → ℕ
word_at rows codes band = word_of (get_or rows band 0) (ordinal (get_or codes band (pos 0)))

-- of the first n bands of a subframe
abbrev pub AllRuled : (n : ℕ) (rows : List ℕ) (codes : List ℤ) → Type 0
AllRuled n rows codes = (b : ℕ) → b < n → Ruled (get_or rows b 0) (get_or codes b (pos 0))

-- ---- buffers

-- the coded bands, up to a multiple of eight
abbrev pub padded : (l : Layout) (channel : ℕ) → ℕ
padded l channel = (coded_count_at l channel + 7) / 8 * 8

abbrev pub padded_rows : (l : Layout) (rows : List ℕ) (channel : ℕ) → List ℕ
padded_rows l rows channel = take (padded l channel) (part 128 rows channel)

abbrev pub padded_codes : (l : Layout) (codes : List ℤ) (subframe channel : ℕ) → List ℤ
padded_codes l codes subframe channel = take (padded l channel) (part 128 (part 1024 codes channel) subframe)

abbrev pub RowsRuled : (l : Layout) (rows : List ℕ) (codes : List ℤ) → Type 0
RowsRuled l rows codes = (c s : ℕ) → c < l.channels → s < 8 → AllRuled 128 (part 128 rows c) (part 128 (part 1024 codes c) s)

-- past the coded count the resolutions are 0
abbrev pub Blank : (l : Layout) (resolutions : List ℕ) → Type 0
Blank l resolutions = (c b : ℕ) → c < l.channels → coded_count_at l c ≤ b → b < 128 → get_or (part 128 resolutions c) b 0 ≡ 0

-- THE PREMISE: each code within its resolution's range
abbrev pub AllRanged : (l : Layout) (resolutions : List ℕ) (codes : List ℤ) → Type 0
AllRanged l resolutions codes =
    (c s b : ℕ) → c < l.channels → s < 8 → b < 128 → Ranged (get_or (part 128 resolutions c) b 0) (get_or (part 128 (part 1024 codes c) s) b (pos 0))
