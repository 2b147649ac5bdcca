-- The table of the 256 patterns: the steps of the edges of a cube's triangles. Assumes nothing.
use Rattle.std.specs.Prelude.{◌≡◌, List, map, ℕ, ◌+◌, ◌*◌, ◌≤◌, ◌<◌, length, get_or}
use Rattle.lists.specs.Lists.{range, each}
use Rattle.paper.specs.declared.Sizes.{Sizes}
use Rattle.paper.specs.Sheet.{corners3}
use Rattle.tetra.specs.Cut.{row_by, row_count, triangles_by}

-- by the steps of all rows' edges: those of row r of tetrahedron t, three to a triangle
unfoldable pub steps_from : List ℕ → ℕ → ℕ → List ℕ
steps_from steps t r = map (λ i. get_or steps (96 * t + (6 * r + i)) 0) (range 0 (3 * row_count r))

-- and those of a cube with pattern m
unfoldable pub pattern_from : List ℕ → ℕ → List ℕ
pattern_from steps m = each (λ t. steps_from steps t (row_by m t)) (range 0 6)

-- of a cube with pattern m: how far the edges of its triangles are from 7 × the number of its lowest sample, three to a triangle
unfoldable pub steps_by : Sizes → ℕ → List ℕ
steps_by z m = each corners3 (triangles_by z 0 m)

-- steps that a table of u16 can hold
pub record Small (steps : List ℕ) : Type 0 where
  pub below : (i : ℕ) → i < 576 → get_or steps i 0 < 65536

-- 36 entries to a pattern: the first of them are its steps, and counts says how many; of the first n patterns
pub record Tabled (steps : ℕ → List ℕ) (n : ℕ) (table counts : List ℕ) : Type 0 where
  pub table_fit : 9216 ≤ length table
  pub counts_fit : 256 ≤ length counts
  pub count : (m : ℕ) → m < n → get_or counts m 0 ≡ length (steps m)
  pub at : (m i : ℕ) → m < n → i < length (steps m) → get_or table (36 * m + i) 0 ≡ get_or (steps m) i 0
