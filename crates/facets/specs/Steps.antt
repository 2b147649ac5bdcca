-- Document 02 (i): coordinates as f32 in sample steps, and which floats are coordinates'. Assumes nothing.
use Rattle.std.specs.Prelude.{◌≡◌, Bool, false, not, ◌&&◌, ℕ, ◌*◌, ◌/◌, ◌<◌, ◌≤◌, leb, eqb, ℤ, pos, negsuc, Float}
use Rattle.std.specs.Float.{nan, inf, fin, binary32}
use Rattle.std.specs.Float.Ieee.{up, down, round, to_bits, is_nan}

-- "Corners are f32 in sample steps, each coordinate divided by 65,536, and nothing may be rounded.": the f32 nearest to
-- n / 65,536; of a coordinate it is n / 65,536 itself (`stands_for`, stl/proofs/Promises)
unfoldable pub float_of : ℕ → Float
float_of n = round binary32 false n 65536

-- "a coordinate outside 0 to 4,128,768": a sheet's number is within, and which coordinate it then is
unfoldable pub in_bounds : ℤ → Bool
in_bounds (pos n) = leb n 4128768
in_bounds (negsuc n) = false

unfoldable pub nat_of : ℤ → ℕ
nat_of (pos n) = n
nat_of (negsuc n) = 0

-- 65,536 times a float's size, cut to a whole number; 0 where it is no number or infinite
unfoldable pub scaled : Float → ℕ
scaled nan = 0
scaled (inf s) = 0
scaled (fin s m e) = m * up e * 65536 / down e

-- "a float that no such coordinate gives (minus zero too)": x is the float of a coordinate, bit by bit
unfoldable pub is_image : Float → Bool
is_image x = leb (scaled x) 4128768 && not (is_nan x) && eqb (to_bits binary32 (float_of (scaled x))) (to_bits binary32 x)

-- the coordinate that a float stands for, as a sheet's number
unfoldable pub word_of : Float → ℤ
word_of x = pos (scaled x)

-- n is the only coordinate whose float x can be
pub record Candidate (x : Float) (n : ℕ) : Type 0 where
  pub only : (m : ℕ) → m ≤ 4128768 → x ≡ float_of m → n ≡ m
  pub small : n < 8388608
