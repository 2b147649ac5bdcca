-- The word of a cube: its pattern and 256 where it is visited, and 0 elsewhere. Assumes nothing.
use Rattle.std.specs.Prelude.{cond, List, map, ℕ, ◌+◌, ◌*◌, get_or}
use Rattle.lists.specs.Lists.{range}
use Rattle.paper.specs.declared.Sizes.{Sizes}
use Rattle.paper.specs.declared.Place.{Place}
use Rattle.paper.specs.Lattice.{Lattice, sample_no, cubes, cube_at}
use Rattle.sides.specs.Pattern.{pattern_at}
use Rattle.bits.specs.Words.{bit}
use Rattle.rows.specs.Rows.{row_no, quad_at, pattern_in}

-- 7 × the number of the lowest sample of cube k
unfoldable pub base_of : Sizes → ℕ → ℕ
base_of z k = 7 * sample_no z (cube_at z k)

-- the word of a visited cube
unfoldable pub word_of : Lattice → ℕ → ℕ
word_of L k = 256 + pattern_at L (cube_at L.size k)

-- the word of the cube at p by rows of sides and of visited cubes, and the words of all cubes
unfoldable pub word_by : Sizes → List ℕ → List ℕ → Place → ℕ
word_by z rows vis p = let r = row_no z p in cond (bit (get_or vis r 0) p.x) (256 + pattern_in (quad_at rows z.ny r) p.x) 0

unfoldable pub words_by : Sizes → List ℕ → List ℕ → List ℕ
words_by z rows vis = map (λ k. word_by z rows vis (cube_at z k)) (range 0 (cubes z))
