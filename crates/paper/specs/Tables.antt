-- Document 01, "Six tetrahedra and sixteen rows", and the kinds of "Edges, vertices, order". Assumes nothing.
use Rattle.std.specs.Prelude.{Bool, ◌&&◌, ◌||◌, List, [], ◌∷◌, ℕ, ◌+◌, ◌*◌, ◌/◌, ◌%◌, min, eqb, get_or}
use Rattle.lists.specs.Lists.{range, first}
use Rattle.paper.specs.Lattice.{LBN, RBN, LTN, RTN, LBF, RBF, LTF, RTF}

-- an edge, by the corners at its ends
pub record Ends : Type 0 where
  pub a : ℕ
  pub b : ℕ

-- a tetrahedron, by its corners
pub record Tet : Type 0 where
  pub a : ℕ
  pub b : ℕ
  pub c : ℕ
  pub d : ℕ

-- a triangle: of a row's edges, of lattice edges, or of vertices
pub record Tri : Type 0 where
  pub a : ℕ
  pub b : ℕ
  pub c : ℕ

abbrev pub ends : ℕ → ℕ → Ends
ends a b = record { a = a; b = b }

abbrev pub tet : ℕ → ℕ → ℕ → ℕ → Tet
tet a b c d = record { a = a; b = b; c = c; d = d }

abbrev pub tri : ℕ → ℕ → ℕ → Tri
tri a b c = record { a = a; b = b; c = c }

-- "Corners a, b, c, d of each tetrahedron, in this order"
unfoldable pub tets : List Tet
tets =
    tet LBN LTN RBN LBF
    ∷ tet RTN LTN LBF RBN
    ∷ tet RTN LTN LTF LBF
    ∷ tet RTN RBN LBF RBF
    ∷ tet RTN LBF LTF RBF
    ∷ tet RTN LTF RTF RBF
    ∷ []

-- the triangles of each row
unfoldable pub rows : List (List Tri)
rows =
    []
    ∷ (tri 5 6 3 ∷ [])
    ∷ (tri 2 6 4 ∷ [])
    ∷ (tri 3 5 4 ∷ tri 3 4 2 ∷ [])
    ∷ (tri 1 4 5 ∷ [])
    ∷ (tri 3 1 4 ∷ tri 3 4 6 ∷ [])
    ∷ (tri 1 2 6 ∷ tri 1 6 5 ∷ [])
    ∷ (tri 1 2 3 ∷ [])
    ∷ (tri 1 3 2 ∷ [])
    ∷ (tri 1 5 6 ∷ tri 1 6 2 ∷ [])
    ∷ (tri 1 3 6 ∷ tri 1 6 4 ∷ [])
    ∷ (tri 1 5 4 ∷ [])
    ∷ (tri 3 2 4 ∷ tri 3 4 5 ∷ [])
    ∷ (tri 6 2 4 ∷ [])
    ∷ (tri 5 3 6 ∷ [])
    ∷ []
    ∷ []

-- "Edges: e1 = ab, e2 = ac, e3 = ad, e4 = bc, e5 = bd, e6 = cd."
unfoldable pub tet_edges : Tet → List Ends
tet_edges t =
    ends t.a t.b
    ∷ ends t.a t.c
    ∷ ends t.a t.d
    ∷ ends t.b t.c
    ∷ ends t.b t.d
    ∷ ends t.c t.d
    ∷ []

-- "From its anchor .. its ends are at": those of the kinds 0 to 6
unfoldable pub kinds : List Ends
kinds =
    ends LBN RBN
    ∷ ends LBN LTN
    ∷ ends LBN LBF
    ∷ ends LTN LBF
    ∷ ends RBN LBF
    ∷ ends LTN RBN
    ∷ ends RTN LBF
    ∷ []

-- "its anchor, the sample with the lowest x, y and z of the box it spans": of two corners of a cube, the corner there
unfoldable pub low : Ends → ℕ
low e =
    min (e.a % 2) (e.b % 2) + 2 * min (e.a / 2 % 2) (e.b / 2 % 2) + 4 * min (e.a / 4) (e.b / 4)

-- the ends of a kind, from the corner o, are those of an edge, either way round
unfoldable pub joins : Ends → ℕ → Ends → Bool
joins e o k =
    eqb e.a (o + k.a) && eqb e.b (o + k.b) || eqb e.a (o + k.b) && eqb e.b (o + k.a)

-- "Each tetrahedron edge is one of seven kinds."
unfoldable pub kind_of : Ends → ℕ
kind_of e = first (λ k. joins e (low e) (get_or kinds k (ends 0 0))) 0 (range 0 7)
