-- How many vertices and triangles there are, by rows of sides and rows of cubes. Assumes nothing.
use Rattle.std.specs.Prelude.{◌≡◌, ◌&&◌, List, ℕ, ◌+◌, ◌*◌, ◌≤◌, ltb, ℤ, length}
use Rattle.lists.specs.Lists.{range, count}
use Rattle.paper.specs.declared.Sizes.{Sizes}
use Rattle.paper.specs.declared.Rule.{Rule}
use Rattle.paper.specs.Lattice.{lattice, visited}
use Rattle.paper.specs.Sheet.{weight, sheet_of}
use Rattle.bits.specs.Words.{total}
use Rattle.rows.specs.Rows.{HasRows, HasCubes, quad_at}
use Rattle.kinds.specs.Kinds.{is_edge, cubes_around, kinds_by}
use Rattle.kinds.specs.Triangles.{row_total}
use Rattle.tally.specs.declared.Counts.{Counts}

-- the vertices of the row of anchors at z and y
unfoldable pub vertices_by : Sizes → List ℕ → List ℕ → ℕ → ℕ → ℕ
vertices_by n rows vis z y = count (is_edge (kinds_by n rows vis y z)) (range 0 448)

-- the triangles of the cubes v of the row at z and y: none where no row of cubes stands
unfoldable pub triangles_of : Sizes → List ℕ → ℕ → ℕ → ℕ → ℕ
triangles_of n rows v z y = weight (ltb (y + 1) n.ny && ltb (z + 1) n.nz) (row_total (quad_at rows n.ny (y + n.ny * z)) v)

-- those of the visited cubes of that row
unfoldable pub triangles_by : Sizes → List ℕ → List ℕ → ℕ → ℕ → ℕ
triangles_by n rows vis z y = triangles_of n rows (cubes_around n vis y z).a z y

-- the vertices and the triangles of the rows at z
unfoldable pub layer_vertices : Sizes → List ℕ → List ℕ → ℕ → ℕ
layer_vertices n rows vis z = total (vertices_by n rows vis z) n.ny

unfoldable pub layer_triangles : Sizes → List ℕ → List ℕ → ℕ → ℕ
layer_triangles n rows vis z = total (triangles_by n rows vis z) n.ny

-- the first k of some parts have v vertices and t triangles, of which part i has f i and g i, at most a and b
pub record Summed (f g : ℕ → ℕ) (a b k v t : ℕ) : Type 0 where
  pub vertices : v ≡ total f k
  pub triangles : t ≡ total g k
  pub few_vertices : v ≤ a * k
  pub few_triangles : t ≤ b * k

-- c has the numbers of vertices and triangles of document 01's sheet, by either rule, of any lattice that has these rows of sides, and
-- of any start from which these are the visited cubes
pub record Counted (n : Sizes) (rows vis : List ℕ) (c : Counts) : Type 0 where
  pub vertices : (rule : Rule) (s : List ℤ) (start : ℕ) → let L = lattice n s in
      HasRows L rows → HasCubes n (visited L start) vis → c.vertices ≡ length (sheet_of rule L start).edges
  pub triangles : (rule : Rule) (s : List ℤ) (start : ℕ) → let L = lattice n s in
      HasRows L rows → HasCubes n (visited L start) vis → c.triangles ≡ length (sheet_of rule L start).triangles
