-- The numbers of the cubes' triangles, row by row, from the table of patterns and the edges' slots. Assumes nothing.
use Rattle.std.specs.Prelude.{cond, List, [], map, ℕ, ◌+◌, ◌-◌, ◌*◌, ◌≤◌, ◌<◌, T, get_or}
use Rattle.lists.specs.Lists.{range, each}
use Rattle.paper.specs.declared.Sizes.{Sizes}
use Rattle.bits.specs.Words.{bit}
use Rattle.rows.specs.declared.Quad.{Quad}
use Rattle.rows.specs.Rows.{quad_at, pattern_in}

-- a table of patterns, how many entries each has, and the slots of edges
pub record Source : Type 0 where
  pub table : List ℕ
  pub counts : List ℕ
  pub slots : List ℕ

abbrev pub source : List ℕ → List ℕ → List ℕ → Source
source t c s = record { table = t; counts = c; slots = s }

-- how many numbers a cube with pattern m has, and the i-th: that in the slot of its edge, base being 7 × the number of its lowest sample
abbrev pub size_of : Source → ℕ → ℕ
size_of S m = get_or S.counts m 0

abbrev pub edge_in : Source → ℕ → ℕ → ℕ → ℕ
edge_in S m base i = base + get_or S.table (36 * m + i) 0

unfoldable pub tile_of : Source → ℕ → ℕ → List ℕ
tile_of S m base = map (λ i. get_or S.slots (edge_in S m base i) 0) (range 0 (size_of S m))

-- those of cube x of a row, where v has it, and of the first n cubes
unfoldable pub tile_at : Source → Quad → ℕ → ℕ → ℕ → List ℕ
tile_at S q v base x = cond (bit v x) (tile_of S (pattern_in q x) (base + 7 * x)) []

unfoldable pub row_tiles : Source → Quad → ℕ → ℕ → ℕ → List ℕ
row_tiles S q v base n = each (tile_at S q v base) (range 0 n)

-- those of the row of cubes at y and z, by all rows of sides and of visited cubes; of layer z, and of all
unfoldable pub row_tiles_at : Source → Sizes → List ℕ → List ℕ → ℕ → ℕ → List ℕ
row_tiles_at S n rows vis y z =
    row_tiles S (quad_at rows n.ny (y + n.ny * z)) (get_or vis (y + n.ny * z) 0) (7 * (n.nx * (y + n.ny * z))) (n.nx - 1)

unfoldable pub layer_tiles : Source → Sizes → List ℕ → List ℕ → ℕ → List ℕ
layer_tiles S n rows vis z = each (λ y. row_tiles_at S n rows vis y z) (range 0 (n.ny - 1))

unfoldable pub tiles_by : Source → Sizes → List ℕ → List ℕ → List ℕ
tiles_by S n rows vis = each (layer_tiles S n rows vis) (range 0 (n.nz - 1))

-- a cube with pattern m has at most 36 numbers, and its edges have slots
pub record Reaching (S : Source) (long m base : ℕ) : Type 0 where
  pub few : size_of S m ≤ 36
  pub below : (i : ℕ) → i < size_of S m → edge_in S m base i < long

-- and so have the cubes v of a row
pub record RowReaching (S : Source) (q : Quad) (v base n long : ℕ) : Type 0 where
  pub cube : (x : ℕ) → x < n → T (bit v x) → Reaching S long (pattern_in q x) (base + 7 * x)
