-- The tables of the code are the definitions', by a test at every entry; what they hold is small. Assumes nothing.
use mathlib.Core.Path.{◌≡◌}
use mathlib.Core.Bool.{Bool}
use mathlib.Core.List.{List, []}
use Prim.Native.Nat.{ℕ, ◌≤◌, ◌<◌}
use native.Mathlib.Omega.{arith}
use lib.Dec.{T, eqb, eqb→eq, ltb, ltb→lt}
use lib.ListN.{length, get_or, length-map}
use Rattle.lists.specs.Lists.{each}
use Rattle.lists.proofs.Computed.{upto_at, grid, grid_at}
use Rattle.paper.specs.declared.Sizes.{Sizes}
use Rattle.paper.specs.Tables.{tets, rows, tet_edges, low, joins, kinds, kind_of}
use Rattle.paper.specs.Sheet.{corners3}
use Rattle.paper.proofs.Tables.{row_short}
use Rattle.tetra.specs.declared.TheConstants.{TETS, ROWS, COUNTS, LOWS, KINDS}
use Rattle.tetra.specs.Cut.{tet_at, tet_corner, tet_ends, row_count, row_edge, row_triangles}

-- the entries of a table are f's
unfoldable pub tabled : (ℕ → ℕ → ℕ) → ℕ → ℕ → List (List ℕ) → Bool
tabled f m n l = grid m n (λ i j. eqb (get_or (get_or l i []) j 0) (f i j))

pub tabled_at : (f : ℕ → ℕ → ℕ) (m n : ℕ) (l : List (List ℕ)) → T (tabled f m n l)
    → (i j : ℕ) → i < m → j < n → get_or (get_or l i []) j 0 ≡ f i j
unfolding tabled
tabled_at f m n l t i j hi hj = eqb→eq _ _ (grid_at m n (λ i j. eqb (get_or (get_or l i []) j 0) (f i j)) t i j hi hj)

-- the corners of tetrahedra
pub corner_is : (t j : ℕ) → t < 6 → j < 4 → get_or (get_or TETS t []) j 0 ≡ tet_corner t j
unfolding tabled tet_corner tet_at tets
corner_is t j ht hj = tabled_at tet_corner 6 4 TETS tt t j ht hj

pub tet_corner_lt : (t j : ℕ) → t < 6 → j < 4 → tet_corner t j < 8
unfolding tet_corner tet_at tets
tet_corner_lt t j ht hj = ltb→lt (tet_corner t j) 8 (grid_at 6 4 (λ t j. ltb (tet_corner t j) 8) tt t j ht hj)

-- the corner at the anchor of a tetrahedron's edge
pub low_lt : (t j : ℕ) → t < 6 → j < 6 → low (tet_ends t j) < 8
unfolding tet_ends tet_at tets tet_edges low
low_lt t j ht hj = ltb→lt (low (tet_ends t j)) 8 (grid_at 6 6 (λ t j. ltb (low (tet_ends t j)) 8) tt t j ht hj)

-- the anchors' corners and the kinds of their edges
pub low_is : (t j : ℕ) → t < 6 → j < 6 → get_or (get_or LOWS t []) j 0 ≡ low (tet_ends t j)
unfolding tabled tet_ends tet_at tets tet_edges low
low_is t j ht hj = tabled_at (λ t j. low (tet_ends t j)) 6 6 LOWS tt t j ht hj

pub kind_is : (t j : ℕ) → t < 6 → j < 6 → get_or (get_or KINDS t []) j 0 ≡ kind_of (tet_ends t j)
unfolding tabled tet_ends tet_at tets tet_edges low joins kinds kind_of
kind_is t j ht hj = tabled_at (λ t j. kind_of (tet_ends t j)) 6 6 KINDS tt t j ht hj

-- counts and edges of rows
pub count_is : (r : ℕ) → r < 16 → get_or COUNTS r 0 ≡ row_count r
unfolding row_count rows
count_is r h = eqb→eq _ _ (upto_at 16 (λ r. eqb (get_or COUNTS r 0) (row_count r)) tt r h)

pub count_le : (r : ℕ) → row_count r ≤ 2
unfolding row_count
count_le r = row_short r

pub row_length : (z : Sizes) (base t r : ℕ) → length (row_triangles z base t r) ≡ row_count r
unfolding row_triangles row_count
row_length z base t r = length-map (get_or rows r []) _

-- e1 to e6 of a row's triangles as numbers from 1, three to a triangle, and 0 past the last
unfoldable pub row_number : ℕ → ℕ → ℕ
row_number r j = get_or (each corners3 (get_or rows r [])) j 0

pub number_is : (r j : ℕ) → r < 16 → j < 6 → get_or (get_or ROWS r []) j 0 ≡ row_number r j
unfolding tabled row_number rows
number_is r j hr hj = tabled_at row_number 16 6 ROWS tt r j hr hj

pub number_lt : (r j : ℕ) → r < 16 → j < 6 → row_number r j < 7
unfolding row_number rows
number_lt r j hr hj = ltb→lt (row_number r j) 7 (grid_at 16 6 (λ r j. ltb (row_number r j) 7) tt r j hr hj)

pub edge_six : (r j : ℕ) → r < 16 → j < 6 → row_edge r j < 6
unfolding row_edge row_number
edge_six r j hr hj = omega (arith, number_lt r j hr hj)
