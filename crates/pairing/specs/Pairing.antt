-- Demand 3: the directed edges of triangles and their reverses, and the edges that carry vertices. Assumes nothing.
use Rattle.std.specs.Prelude.{◌≡◌, refl, Bool, true, false, cond, ◌&&◌, ◌||◌, List, [], ◌∷◌, ◌++◌, map, ℕ, ◌+◌, ◌*◌, ◌<◌, ℤ, pos, negsuc, nat_abs, T, eqb, length, get_or, replicate}
use Rattle.lists.specs.Lists.{range, count, all, each, is_in}
use Rattle.lists.specs.Reach.{grow, rounds, reached}
use Rattle.paper.specs.declared.Sizes.{Sizes}
use Rattle.paper.specs.declared.Place.{Place}
use Rattle.paper.specs.Lattice.{Lattice, lattice, place, air, sample_no, sample_at, value_at, air_at, fill, is_fill}
use Rattle.paper.specs.Lattice.{fill_at, cubes, cube_no, cube_at, RBN, LTN, LBF, RTF, corner, mixed, mixed_at}
use Rattle.paper.specs.Lattice.{in_lattice, free, visitable, faces, step_over, steps, Visited, visited}
use Rattle.paper.specs.Tables.{Tri, tri, tets, rows, tet_edges, kinds, low, joins, kind_of}
use Rattle.paper.specs.Sheet.{edge_no, anchor_of, ends_of, first_end, second_end, cube_edges}
use Rattle.paper.specs.Sheet.{row_of, row_at, tet_edge, tri_edges, triangles_at, cube_triangles}
use Rattle.paper.specs.File.{file_v, file_t, file_vertices, file_triangles}
use Rattle.paper.specs.Check.{edge_of}
use Rattle.pairing.specs.Visitable.{edge_ends, in_outer_face, outer, meet, same_place, shared, in_unshared, unshared}

-- a directed edge of a triangle
pub record Arrow : Type 0 where
  pub from : ℕ
  pub to : ℕ

abbrev pub arrow : ℕ → ℕ → Arrow
arrow m n = record { from = m; to = n }

-- "directed triangle edge": from each corner to the next
unfoldable pub around : Tri → List Arrow
around t = arrow t.a t.b ∷ arrow t.b t.c ∷ arrow t.c t.a ∷ []

unfoldable pub is_arrow : ℕ → ℕ → Arrow → Bool
is_arrow m n d = eqb d.from m && eqb d.to n

-- how often the directed edge from m to n occurs
unfoldable pub times : List Tri → ℕ → ℕ → ℕ
times ts m n = count (is_arrow m n) (each around ts)

-- where a reverse is missing, by the edges of two vertices: "the lattice edges of both its vertices lie in one outer face", and document 02
-- (iii) reads "outer face" as "any cube face that is not shared by two visitable cubes"
abbrev pub apart : Lattice → ℕ → ℕ → Bool
apart L = unshared L.size (visitable L)

-- "a directed triangle edge occurs once. Its reverse occurs once too, except that it never occurs exactly when .."
pub record Paired (apart : ℕ → ℕ → Bool) (ts : List Tri) : Type 0 where
  pub once : (m n : ℕ) → 0 < times ts m n → times ts m n ≡ 1
  pub reverse : (m n : ℕ) → 0 < times ts m n → times ts n m ≡ cond (apart m n) 0 1

-- "side-changing tetrahedron edge of a visited cube"
pub record Carried (L : Lattice) (start e : ℕ) : Type 0 where
  pub cube : ℕ
  pub visited : Visited L start cube
  pub side_changing : T (is_in (cube_edges L cube) e)

-- "Each side-changing tetrahedron edge of a visited cube carries exactly one vertex", and each vertex is carried so: es are the
-- vertices' edges
pub record OneVertex (L : Lattice) (start : ℕ) (es : List ℕ) : Type 0 where
  pub one : (e : ℕ) → Carried L start e → count (eqb e) es ≡ 1
  pub only : (e : ℕ) → T (is_in es e) → Carried L start e

-- demand 3 of a sheet that has vertices with the edges es and triangles ts by the numbers of their vertices; the test says of two edges
-- whether a reverse is missing
pub record Demand3By (apart : ℕ → ℕ → Bool) (L : Lattice) (start : ℕ) (es : List ℕ) (ts : List Tri) : Type 0 where
  pub vertices : OneVertex L start es
  pub numbers : (i j : ℕ) → 0 < times ts i j → (i < length es) × (j < length es)
  pub pairs : Paired (λ i j. apart (get_or es i 0) (get_or es j 0)) ts

abbrev pub Demand3 : Lattice → ℕ → List ℕ → List Tri → Type 0
Demand3 L = Demand3By (apart L) L

-- a file's own vertices, by the edges of its records in their order, and its own triangles, by the numbers of their records
unfoldable pub file_edges : List ℕ → List ℕ
file_edges bs = map (λ i. nat_abs (edge_of (file_vertices bs) i)) (range 0 (file_v bs))

unfoldable pub file_corner : List ℕ → ℕ → Tri
file_corner bs i = let ts = file_triangles bs in tri (get_or ts (3 * i) 0) (get_or ts (3 * i + 1) 0) (get_or ts (3 * i + 2) 0)

unfoldable pub file_corners : List ℕ → List Tri
file_corners bs = map (file_corner bs) (range 0 (file_t bs))

-- ── worked ──

-- whether each directed edge occurs once, and its reverse once or never as a test says
abbrev pub pair_up : (ℕ → ℕ → Bool) → List Tri → Bool
pair_up apart ts =
    all (λ d. eqb (times ts d.from d.to) 1 && eqb (times ts d.to d.from) (cond (apart d.from d.to) 0 1)) (each around ts)

-- 2×2×2, only RTN air, which cuts the faces at the last x, the last y and the first z; and only LBF air, which cuts the other three
worked :
    map (pair_up (outer (record { nx = 2; ny = 2; nz = 2 })))
    ((tri 14 8 6 ∷ tri 14 6 18 ∷ tri 8 10 6 ∷ tri 6 10 18 ∷ tri 18 10 23 ∷ [])
    ∷ (tri 3 4 2 ∷ tri 6 4 3 ∷ tri 3 29 6 ∷ tri 6 28 4 ∷ tri 6 29 28 ∷ []) ∷ [])
    ≡ (true ∷ true ∷ [])
unfolding times around is_arrow edge_ends in_outer_face outer anchor_of ends_of first_end second_end sample_at corner kinds
worked = refl

-- 4×4×4, of which the cube at (1, 1, 1) and one next to it may be visited, along x, y or z; only its RTF is air, a corner of the
-- face that they share
worked_visitable :
    let z : Sizes = record { nx = 4; ny = 4; nz = 4 } in
    let c : Place = place 1 1 1 in
    map
    (λ b.
    pair_up (unshared z (λ p. same_place p c || same_place p (corner c b)))
    (each (triangles_at z (same_place (corner c RTF))) (c ∷ corner c b ∷ []))) (RBN ∷ LTN ∷ LBF ∷ [])
    ≡ (true ∷ true ∷ true ∷ [])
unfolding times around is_arrow edge_ends anchor_of ends_of first_end second_end row_at triangles_at meet same_place shared
    in_unshared unshared sample_no sample_at corner tets rows tet_edges kinds low joins kind_of edge_no row_of tet_edge tri_edges
worked_visitable = refl

-- 3×3×3, only (1, 1, 1) air: from (1, 0, 0) with the fill at (0, 0, 0), and from (0, 0, 0) with none. By `apart` both pair up, and by the
-- lattice's bounds alone only the second does
worked_fill :
    let o : ℤ = negsuc 0 in
    let z : Sizes = record { nx = 3; ny = 3; nz = 3 } in
    let ring : Lattice = lattice z (fill ∷ replicate 12 o ++ pos 1 ∷ replicate 13 o) in
    let whole : Lattice = lattice z (replicate 13 o ++ pos 1 ∷ replicate 13 o) in
    let filled : List Tri = each (cube_triangles ring) (visited ring 1) in
    let sheet : List Tri = each (cube_triangles whole) (visited whole 0) in
    (pair_up (apart ring) filled ∷ pair_up (outer z) filled ∷ pair_up (apart whole) sheet ∷ pair_up (outer z) sheet ∷ [])
    ≡ (true ∷ false ∷ true ∷ true ∷ [])
unfolding times around is_arrow edge_ends in_outer_face outer meet same_place shared in_unshared unshared
    anchor_of ends_of first_end second_end row_at triangles_at cube_triangles grow rounds reached air sample_no sample_at
    value_at air_at is_fill fill_at cubes cube_no cube_at corner mixed mixed_at in_lattice free visitable faces
    step_over steps visited tets rows tet_edges kinds low joins kind_of edge_no row_of tet_edge tri_edges
worked_fill = refl
