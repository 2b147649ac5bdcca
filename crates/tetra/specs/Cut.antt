-- A cube's edges and triangles, by its pattern and its lowest sample. Assumes nothing.
use Rattle.std.specs.Prelude.{List, [], ◌∷◌, map, ℕ, ◌+◌, ◌-◌, ◌*◌, ◌/◌, ◌%◌, length, get_or}
use Rattle.lists.specs.Lists.{range, each}
use Rattle.paper.specs.declared.Sizes.{Sizes}
use Rattle.paper.specs.Tables.{Ends, Tet, Tri, ends, tet, tri, tets, rows, tet_edges, low, kind_of}
use Rattle.paper.specs.Sheet.{corners3}
use Rattle.lattice.specs.Steps.{corner_step}
use Rattle.sides.specs.Pattern.{bit_of}
use Rattle.tetra.specs.declared.Triangle.{Triangle}

-- a triangle as the definitions have it
abbrev pub tri_of : Triangle → Tri
tri_of g = tri g.a g.b g.c

-- tetrahedron t, from 0, its corners a to d, and its edge j, 0 for e1
unfoldable pub tet_at : ℕ → Tet
tet_at t = get_or tets t (tet 0 0 0 0)

unfoldable pub tet_corner : ℕ → ℕ → ℕ
tet_corner t j = get_or ((tet_at t).a ∷ (tet_at t).b ∷ (tet_at t).c ∷ (tet_at t).d ∷ []) j 0

-- the corners of all, four to a tetrahedron
unfoldable pub tet_corners : List ℕ
tet_corners = map (λ i. tet_corner (i / 4) (i % 4)) (range 0 24)

unfoldable pub tet_ends : ℕ → ℕ → Ends
tet_ends t j = get_or (tet_edges (tet_at t)) j (ends 0 0)

-- the row of tetrahedron t in a cube with pattern m
unfoldable pub row_by : ℕ → ℕ → ℕ
row_by m t = 8 * bit_of m (tet_corner t 0) + 4 * bit_of m (tet_corner t 1) + 2 * bit_of m (tet_corner t 2) + bit_of m (tet_corner t 3)

-- how far an edge's number is from 7 × the number of the cube's lowest sample
unfoldable pub edge_step : Sizes → Ends → ℕ
edge_step z e = 7 * corner_step z (low e) + kind_of e

unfoldable pub tet_step : Sizes → ℕ → ℕ → ℕ
tet_step z t j = edge_step z (tet_ends t j)

unfoldable pub tet_steps : Sizes → List ℕ
tet_steps z = map (λ i. tet_step z (i / 6) (i % 6)) (range 0 36)

-- how many triangles a row has, and their edges, three to a triangle: 0 for e1
unfoldable pub row_count : ℕ → ℕ
row_count r = length (get_or rows r [])

unfoldable pub row_edge : ℕ → ℕ → ℕ
row_edge r j = get_or (each corners3 (get_or rows r [])) j 0 - 1

-- the steps of the edges of all rows' triangles: three to a triangle, six to a row, 96 to a tetrahedron; past a row's last, that of e1
unfoldable pub row_steps : Sizes → List ℕ
row_steps z = map (λ i. tet_step z (i / 96) (row_edge (i % 96 / 6) (i % 96 % 6))) (range 0 576)

-- the triangles of row r of tetrahedron t, by lattice edges, in a cube of whose lowest sample 7 × the number is base
unfoldable pub row_triangles : Sizes → ℕ → ℕ → ℕ → List Tri
row_triangles z base t r =
    map (λ g. tri (base + tet_step z t (g.a - 1)) (base + tet_step z t (g.b - 1)) (base + tet_step z t (g.c - 1))) (get_or rows r [])

-- the triangles of a cube with pattern m
unfoldable pub triangles_by : Sizes → ℕ → ℕ → List Tri
triangles_by z base m = each (λ t. row_triangles z base t (row_by m t)) (range 0 6)
