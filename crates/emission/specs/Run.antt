-- What a run of fields has left in a frame, and what its methods add to it.
use Rattle.std.specs.Prelude.{ℕ, ◌+◌, ◌-◌, ◌*◌, ◌/◌, ◌%◌, ◌^◌, ◌≤◌, ◌<◌, ◌≡◌, List, [], ◌∷◌, ◌++◌, Bool, length, get_or, take, drop}
use Rattle.bits.specs.Bits.{bits, bits_of, zeros}
use Rattle.emission.specs.declared.Run.{Run}
use Rattle.emission.specs.declared.Piece.{Piece}

-- the eight bits of byte k of a frame that holds w, zeros standing after it
abbrev pub byte_bits : (w : List Bool) (k : ℕ) → List Bool
byte_bits w k = take 8 (drop (8 * k) w ++ zeros 8)

-- all bits so far are w: of the bytes of s those that hold bits of w hold these and zeros after the last, as far as s reaches; the run's place is behind
-- w's last bit, and the bits of w in an unfinished byte are the low ones of `bits`
pub record Emitted (w : List Bool) (run : Run) (s : List ℕ) : Type 0 where
  pub place : length w ≡ 8 * run.at + run.n
  pub few : run.n ≤ 7
  pub waiting : bits run.n run.bits ≡ drop (8 * run.at) w
  pub stands : (k : ℕ) → k < length s → 8 * k < length w → bits 8 (get_or s k 0) ≡ byte_bits w k

-- from s and a run to s' and the next run the bits f were added: they are appended to whatever bits stood there
pub record Emits (run : Run) (s : List ℕ) (f : List Bool) (run' : Run) (s' : List ℕ) : Type 0 where
  pub next : 8 * run'.at + run'.n ≡ 8 * run.at + run.n + length f
  pub few : run'.n ≤ 7
  pub same : length s' ≡ length s
  pub runs : (w : List Bool) → Emitted w run s → Emitted (w ++ f) run' s'

-- ---- within one method

-- the first m of the eight bytes of w, the highest first, stand in s' from byte `at` on, as far as it reaches; those before are as in s
pub record Stored (m : ℕ) (s : List ℕ) (at w : ℕ) (s' : List ℕ) : Type 0 where
  pub same : length s' ≡ length s
  pub before : (k : ℕ) → k < at → get_or s' k 0 ≡ get_or s k 0
  pub bytes : (j : ℕ) → j < m → at + j < length s → get_or s' (at + j) 0 ≡ w / 2 ^ (56 - 8 * j) % 2 ^ 8

-- all bits so far are w, of which n are not stored yet
pub record Waits (w : List Bool) (run : Run) (s : List ℕ) : Type 0 where
  pub place : length w ≡ 8 * run.at + run.n
  pub waiting : bits run.n run.bits ≡ drop (8 * run.at) w
  pub stands : (k : ℕ) → k < length s → k < run.at → bits 8 (get_or s k 0) ≡ byte_bits w k

pub record Flushes (run : Run) (s : List ℕ) (run' : Run) (s' : List ℕ) : Type 0 where
  pub next : 8 * run'.at + run'.n ≡ 8 * run.at + run.n
  pub few : run'.n ≤ 7
  pub same : length s' ≡ length s
  pub runs : (w : List Bool) → Waits w run s → Emitted w run' s'

-- ---- fields

-- a word of no more bits than its length, which is at most m
pub record Fits (m : ℕ) (p : Piece) : Type 0 where
  pub narrow : p.length ≤ m
  pub fits : p.word < 2 ^ p.length

pub record Joined (a b r : Piece) : Type 0 where
  pub long : r.length ≡ a.length + b.length
  pub fits : r.word < 2 ^ r.length
  pub both : bits r.length r.word ≡ bits a.length a.word ++ bits b.length b.word

-- words in as many bits as their lengths say
abbrev pub field_bits : (lengths words : List ℕ) → List Bool
field_bits [] words = []
field_bits (length ∷ lengths) [] = []
field_bits (length ∷ lengths) (word ∷ words) = bits length word ++ field_bits lengths words

-- the first n of them fit
abbrev pub AllFit : (m : ℕ) (lengths words : List ℕ) (n : ℕ) → Type 0
AllFit m lengths words n = (i : ℕ) → i < n → (get_or lengths i 0 ≤ m) × (get_or words i 0 < 2 ^ get_or lengths i 0)

-- ---- the end

-- the bytes after the last bit's are cleared: s' is what was emitted, zeros after it, cut at its length; `count` bits were
pub record Closes (run : Run) (s : List ℕ) (count : ℕ) (s' : List ℕ) : Type 0 where
  pub total : count ≡ 8 * run.at + run.n
  pub same : length s' ≡ length s
  pub holds : (w : List Bool) → Emitted w run s → bits_of s' ≡ take (8 * length s') (w ++ zeros (8 * length s'))
