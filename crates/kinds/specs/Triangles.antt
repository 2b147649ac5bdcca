-- How many triangles a row of cubes has. Assumes nothing.
use Rattle.std.specs.Prelude.{Bool, List, [], ◌∷◌, ℕ, ◌+◌, length, get_or}
use Rattle.paper.specs.Tables.{Tet, tets, rows}
use Rattle.paper.specs.Sheet.{weight, row_of}
use Rattle.bits.specs.Words.{bit, total}
use Rattle.rows.specs.declared.Quad.{Quad}
use Rattle.rows.specs.Rows.{corner_bit}

-- those of a tetrahedron, by the sides of its corners
unfoldable pub tet_count : Bool → Bool → Bool → Bool → ℕ
tet_count a b c d = length (get_or rows (row_of a b c d) [])

-- those of a tetrahedron of each cube of a row, by the words of its corners and of the cubes
unfoldable pub tet_total : ℕ → ℕ → ℕ → ℕ → ℕ → ℕ
tet_total p q r u v = total (λ x. weight (bit v x) (tet_count (bit p x) (bit q x) (bit r x) (bit u x))) 64

-- those of tetrahedron t of cube x of a row
unfoldable pub tet_in : Quad → ℕ → Tet → ℕ
tet_in f x t = tet_count (corner_bit f x t.a) (corner_bit f x t.b) (corner_bit f x t.c) (corner_bit f x t.d)

abbrev pub sum_of : (Tet → ℕ) → List Tet → ℕ
sum_of f [] = 0
sum_of f (t ∷ ts) = f t + sum_of f ts

-- those of the cubes v of a row
unfoldable pub row_total : Quad → ℕ → ℕ
row_total f v = total (λ x. weight (bit v x) (sum_of (tet_in f x) tets)) 64
