-- Document 01, "Edges, vertices, order", with document 02 (vi): the sheet of a rule of rounding, a lattice and a start. Assumes
-- nothing.
use Rattle.std.specs.Prelude.{Bool, true, false, cond, List, [], ◌∷◌, map, ℕ, ◌+◌, ◌-◌, ◌*◌, ◌/◌, ◌%◌, ℤ, pos, neg_ℤ, ◌-ℤ◌, nat_abs, eqb, ltb, length, get_or}
use Rattle.std.specs.Bool.{xor}
use Rattle.lists.specs.Lists.{range, keep, each, is_in, rank}
use Rattle.paper.specs.declared.Sizes.{Sizes}
use Rattle.paper.specs.declared.Place.{Place}
use Rattle.paper.specs.declared.Rule.{Rule}
use Rattle.paper.specs.declared.Rule.TheVariants.{Down, Nearest}
use Rattle.paper.specs.Lattice.{Lattice, samples, sample_no, sample_at, value_at, air_at, corner, cube_at, visited}
use Rattle.paper.specs.Tables.{Ends, Tet, Tri, ends, tri, tets, rows, tet_edges, kinds, low, kind_of}

-- ── edges ──

-- "The edge's number is 7 × anchor's number + kind."
abbrev pub edge_from : ℕ → ℕ → ℕ
edge_from anchor kind = 7 * anchor + kind

-- of the edge between two corners of the cube at p
unfoldable pub edge_no : Sizes → Place → Ends → ℕ
edge_no z p e = edge_from (sample_no z (corner p (low e))) (kind_of e)

-- how many edge numbers a lattice has
abbrev pub edge_numbers : Sizes → ℕ
edge_numbers z = 7 * samples z

-- the anchor of the edge with a number, its kind, and the ends of a kind as corners from the anchor
unfoldable pub anchor_of : Sizes → ℕ → Place
anchor_of z e = sample_at z (e / 7)

abbrev pub kind_in : ℕ → ℕ
kind_in e = e % 7

unfoldable pub ends_of : ℕ → Ends
ends_of k = get_or kinds k (ends 0 0)

-- the samples at its ends
unfoldable pub first_end : Sizes → ℕ → Place
first_end z e = corner (anchor_of z e) (ends_of (kind_in e)).a

unfoldable pub second_end : Sizes → ℕ → Place
second_end z e = corner (anchor_of z e) (ends_of (kind_in e)).b

-- ── vertices ──

-- n / d in whole units. Document 01: "rounded down". Document 02 (vi): "Round t to the nearest unit, ties towards the solid end.",
-- from which t is measured: one more where more than half a unit is left
unfoldable pub rounded : Rule → ℕ → ℕ → ℕ
rounded Down n d = n / d
rounded Nearest n d = cond (ltb d (2 * (n % d))) (n / d + 1) (n / d)

-- "t is 65,536 × (−p) divided by (q − p)", rounded by a rule, p of the solid end and q of the air end
unfoldable pub crossing : Rule → ℤ → ℤ → ℕ
crossing rule p q = rounded rule (65536 * nat_abs (neg_ℤ p)) (nat_abs (q -ℤ p))

-- "65,536 × the solid end's coordinate, plus or minus t on the axes where the ends differ": from s towards a
unfoldable pub coordinate : ℕ → ℕ → ℕ → ℕ
coordinate s a t = cond (eqb s a) (65536 * s) (cond (ltb s a) (65536 * s + t) (65536 * s - t))

-- "A vertex record is four signed 32-bit numbers (edge, x, y, z)": with the solid end at s and the air end at a
unfoldable pub record_at : Rule → Lattice → ℕ → Place → Place → List ℤ
record_at rule L e s a =
    let t = crossing rule (value_at L s) (value_at L a) in
    pos e
    ∷ pos (coordinate s.x a.x t)
    ∷ pos (coordinate s.y a.y t)
    ∷ pos (coordinate s.z a.z t)
    ∷ []

unfoldable pub vertex_record : Rule → Lattice → ℕ → List ℤ
vertex_record rule L e =
    let u = first_end L.size e in
    let v = second_end L.size e in
    cond (air_at L u) (record_at rule L e v u) (record_at rule L e u v)

-- how many numbers a vertex record has, in memory and in a file, and what of it goes into a file
abbrev pub record_length : ℕ
record_length = 4

abbrev pub file_record_length : ℕ
file_record_length = 4

abbrev pub in_file : List ℤ → List ℤ
in_file r = r

-- ── six tetrahedra to a cube ──

-- "whose ends are on different sides"
unfoldable pub split : Lattice → Place → Ends → Bool
split L p e = xor (air_at L (corner p e.a)) (air_at L (corner p e.b))

-- "Every edge of a visited cube's tetrahedra whose ends are on different sides": those of one cube
unfoldable pub cube_edges : Lattice → ℕ → List ℕ
cube_edges L k =
    let p = cube_at L.size k in
    each (λ t. map (edge_no L.size p) (keep (split L p) (tet_edges t))) tets

abbrev pub weight : Bool → ℕ → ℕ
weight true n = n
weight false n = 0

-- "The row is 8 if a is air, plus 4 for b, 2 for c, 1 for d."
unfoldable pub row_of : Bool → Bool → Bool → Bool → ℕ
row_of a b c d = weight a 8 + weight b 4 + weight c 2 + weight d 1

-- of a tetrahedron of the cube at p, where `air` has the side of each sample
unfoldable pub row_at : (Place → Bool) → Place → Tet → ℕ
row_at air p t = row_of (air (corner p t.a)) (air (corner p t.b)) (air (corner p t.c)) (air (corner p t.d))

-- the edge e1 to e6 of a tetrahedron of the cube at p
unfoldable pub tet_edge : Sizes → Place → Tet → ℕ → ℕ
tet_edge z p t i = edge_no z p (get_or (tet_edges t) (i - 1) (ends 0 0))

-- a row's triangle, by lattice edges
unfoldable pub tri_edges : Sizes → Place → Tet → Tri → Tri
tri_edges z p t r = tri (tet_edge z p t r.a) (tet_edge z p t r.b) (tet_edge z p t r.c)

-- "then tetrahedron 1 to 6, then as in the row": the triangles of the cube at p, by lattice edges
unfoldable pub triangles_at : Sizes → (Place → Bool) → Place → List Tri
triangles_at z air p = each (λ t. map (tri_edges z p t) (get_or rows (row_at air p t) [])) tets

unfoldable pub cube_triangles : Lattice → ℕ → List Tri
cube_triangles L k = triangles_at L.size (air_at L) (cube_at L.size k)

-- ── the sheet ──

-- how a cube is cut: the edges of it that have a vertex, and its triangles by lattice edges
pub record Cut : Type 0 where
  pub edges : Lattice → ℕ → List ℕ
  pub triangles : Lattice → ℕ → List Tri

abbrev pub tetrahedra : Cut
tetrahedra = record { edges = cube_edges; triangles = cube_triangles }

-- "Every edge .. has one vertex. Vertices are listed by rising edge number": their edges, of the cubes of a list
unfoldable pub vertex_edges : Cut → Lattice → List ℕ → List ℕ
vertex_edges C L ks =
    let marked = each (C.edges L) ks in
    keep (is_in marked) (range 0 (edge_numbers L.size))

-- ".. and hold vertex numbers", "numbered from 0": a triangle by the places of its edges in the vertex list
unfoldable pub numbered : List ℕ → Tri → Tri
numbered es t = tri (rank es t.a) (rank es t.b) (rank es t.c)

-- a sheet: the vertices' edges and records, the triangles by lattice edges and by vertices, and the number of visited cubes
pub record Sheet : Type 0 where
  pub edges : List ℕ
  pub records : List (List ℤ)
  pub by_edge : List Tri
  pub triangles : List Tri
  pub visits : ℕ

-- "Triangles are listed by rising cube number"
unfoldable pub sheet_by : Rule → Cut → Lattice → ℕ → Sheet
sheet_by rule C L start =
    let ks = visited L start in
    let es = vertex_edges C L ks in
    let ts = each (C.triangles L) ks in
    record { edges = es; records = map (vertex_record rule L) es; by_edge = ts; triangles = map (numbered es) ts; visits = length ks }

-- document 01's sheet, under a rule
unfoldable pub sheet_of : Rule → Lattice → ℕ → Sheet
sheet_of rule L start = sheet_by rule tetrahedra L start

-- the numbers of the vertex records, one behind the other, and those of the triangles
unfoldable pub vertex_words : Sheet → List ℤ
vertex_words S = each (λ r. r) S.records

abbrev pub corners3 : Tri → List ℕ
corners3 t = t.a ∷ t.b ∷ t.c ∷ []

unfoldable pub triangle_words : Sheet → List ℕ
triangle_words S = each corners3 S.triangles
