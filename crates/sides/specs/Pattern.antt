-- The sides of a cube's eight corners as one number, and digits of words. Assumes nothing.
use Rattle.std.specs.Prelude.{Bool, List, [], ◌∷◌, map, ℕ, ◌+◌, ◌*◌, ◌/◌, ◌%◌, ◌^◌}
use Rattle.lists.specs.Lists.{range}
use Rattle.paper.specs.declared.Place.{Place}
use Rattle.paper.specs.Lattice.{Lattice, air_at, corner}
use Rattle.paper.specs.Sheet.{weight}

-- sides as the bits of a number, the first lowest
abbrev pub bits : List Bool → ℕ
bits [] = 0
bits (b ∷ bs) = weight b 1 + 2 * bits bs

-- the pattern of the cube at p: bit c is 1 where corner c is air
unfoldable pub pattern_at : Lattice → Place → ℕ
pattern_at L p = bits (map (λ c. air_at L (corner p c)) (range 0 8))

-- the side of corner c in a pattern
unfoldable pub bit_of : ℕ → ℕ → ℕ
bit_of m c = m / 2 ^ c % 2

-- digit i, from the right, of a word of octal digits: three bits each
unfoldable pub digit_of : ℕ → ℕ → ℕ
digit_of w i = w / 2 ^ (3 * i) % 8
