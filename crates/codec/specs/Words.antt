-- Numbers that a byte or 32 bits hold. Assumes nothing.
use Rattle.std.specs.Prelude.{List, ℕ, ◌-◌, ◌<◌, ℤ, pos, negsuc, get_or}
use Rattle.std.specs.Int.{w32}
use Rattle.std.proofs.Common.{SFits}
use Rattle.lists.specs.Bytes.{le}
use Rattle.paper.specs.File.{bits32}

-- a signed 16-bit number as bits, and its two bytes
unfoldable pub bits16 : ℤ → ℕ
bits16 (pos n) = n
bits16 (negsuc n) = 65535 - n

abbrev pub half_bytes : ℤ → List ℕ
half_bytes w = le 2 (bits16 w)

-- the four bytes of a signed number
abbrev pub word_bytes : ℤ → List ℕ
word_bytes w = le 4 (bits32 w)

-- each is a byte
abbrev pub Bytes : List ℕ → Type 0
Bytes bs = (i : ℕ) → get_or bs i 0 < 256

-- each is a signed 32-bit number
abbrev pub Words : List ℤ → Type 0
Words ws = (i : ℕ) → SFits w32 (get_or ws i (pos 0))
