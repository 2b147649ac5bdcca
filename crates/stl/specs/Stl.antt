-- Document 02 (i): the file, writing and reading. Assumes nothing.
use Rattle.std.specs.Prelude.{◌≡◌, Bool, cond, not, ◌&&◌, List, [], ◌∷◌, ◌++◌, ℕ, ◌+◌, ◌*◌, ℤ, pos, leb, eqb, length, get_or, replicate}
use Rattle.lists.specs.Lists.{range, each, first}
use Rattle.lists.specs.Bytes.{le, field}
use Rattle.paper.specs.declared.Verdict.{Verdict}
use Rattle.paper.specs.declared.Wrote.{Wrote}
use Rattle.paper.specs.Sheet.{record_length}
use Rattle.paper.specs.Tests.{test, test_at, judge}
use Rattle.paper.specs.Room.{output_after}
use Rattle.paper.specs.File.{count_test, index_test}
use Rattle.facets.specs.declared.Corner.{Corner}
use Rattle.facets.specs.declared.Facet.{Facet}
use Rattle.facets.specs.Steps.{in_bounds}
use Rattle.facets.specs.Facets.{corner_of, facet_bytes, facet_at, facet_stands, facet_words}
use Rattle.stl.specs.declared.Loaded.{Loaded}

-- ── a sheet's triangles ──

-- number k of vertex v's record, "(edge, x, y, z)" from 0 on
abbrev pub number_of : List ℤ → ℕ → ℕ → ℤ
number_of vs v k = get_or vs (record_length * v + k) (pos 0)

-- the corner at vertex v, its coordinates, and whether none of them is "outside 0 to 4,128,768"
unfoldable pub vertex_corner : List ℤ → ℕ → Corner
vertex_corner vs v = corner_of (number_of vs v 1) (number_of vs v 2) (number_of vs v 3)

unfoldable pub vertex_position : List ℤ → ℕ → List ℤ
vertex_position vs v = number_of vs v 1 ∷ number_of vs v 2 ∷ number_of vs v 3 ∷ []

unfoldable pub vertex_within : List ℤ → ℕ → Bool
vertex_within vs v = in_bounds (number_of vs v 1) && in_bounds (number_of vs v 2) && in_bounds (number_of vs v 3)

-- the same of triangle i: the facet's bytes, its nine integers "in the sheet's corner order", and whether all are within
unfoldable pub triangle_bytes : List ℤ → List ℕ → ℕ → List ℕ
triangle_bytes vs ts i =
    facet_bytes (vertex_corner vs (get_or ts (3 * i) 0)) (vertex_corner vs (get_or ts (3 * i + 1) 0)) (vertex_corner vs (get_or ts (3 * i + 2) 0))

unfoldable pub nine_of : List ℤ → List ℕ → ℕ → List ℤ
nine_of vs ts i =
    vertex_position vs (get_or ts (3 * i) 0) ++ vertex_position vs (get_or ts (3 * i + 1) 0) ++ vertex_position vs (get_or ts (3 * i + 2) 0)

unfoldable pub triangle_within : List ℤ → List ℕ → ℕ → Bool
triangle_within vs ts i =
    vertex_within vs (get_or ts (3 * i) 0) && vertex_within vs (get_or ts (3 * i + 1) 0) && vertex_within vs (get_or ts (3 * i + 2) 0)

-- ── writing ──

-- "80 header bytes (ours zero), a u32 triangle count, then 50 bytes a facet"
unfoldable pub header : List ℕ
header = replicate 80 0

abbrev pub stl_length : ℕ → ℕ
stl_length nt = 84 + 50 * nt

unfoldable pub stl_bytes : ℕ → List ℤ → List ℕ → List ℕ
stl_bytes nt vs ts = header ++ le 4 nt ++ each (triangle_bytes vs ts) (range 0 nt)

-- "25 for a triangle with a coordinate outside 0 to 4,128,768, with its place": the first such triangle of T, or T
unfoldable pub first_outside : ℕ → List ℤ → List ℕ → ℕ
first_outside nt vs ts = first (λ i. not (triangle_within vs ts i)) nt (range 0 nt)

-- "Refusals, in this order: writing 9, 15, 25 .., 8": the first two as in writing a sheet file, room being the bytes lent
unfoldable pub stl_write_verdict : ℕ → ℕ → List ℤ → List ℕ → ℕ → Verdict
stl_write_verdict nv nt vs ts room =
    judge
    (count_test nv nt vs ts
    ∷ index_test nv nt ts
    ∷ test_at 25 (first_outside nt vs ts) (eqb (first_outside nt vs ts) nt)
    ∷ test 8 (leb (stl_length nt) room)
    ∷ [])

-- the bytes written, or 0, as a writer of sheet files answers
unfoldable pub stl_wrote : ℕ → ℕ → List ℤ → List ℕ → ℕ → Wrote
stl_wrote nv nt vs ts room =
    let v = stl_write_verdict nv nt vs ts room in
    record { number = v.number; place = v.place; bytes = cond (eqb v.number 0) (stl_length nt) 0 }

-- the contract of a writer: its answer, and the bytes it leaves
pub record StlWrites (nv nt : ℕ) (vs : List ℤ) (ts before : List ℕ) (r : Wrote) (after : List ℕ) : Type 0 where
  pub answer : r ≡ stl_wrote nv nt vs ts (length before)
  pub left : after ≡ output_after (stl_write_verdict nv nt vs ts (length before)).number (stl_bytes nt vs ts) before

-- ── reading ──

-- the "u32 triangle count", and the facets behind it
unfoldable pub stl_count : List ℕ → ℕ
stl_count bs = field 4 bs 80

unfoldable pub stl_facet : List ℕ → ℕ → Facet
stl_facet bs i = facet_at bs (84 + 50 * i)

-- facet i's integers, "nine to a facet"; those of all facets
unfoldable pub nine_at : List ℕ → ℕ → List ℤ
nine_at bs i = facet_words (stl_facet bs i)

unfoldable pub stl_words : List ℕ → List ℤ
stl_words bs = each (nine_at bs) (range 0 (stl_count bs))

-- "25 for a float that no such coordinate gives (minus zero too), with the facet's place": the first such facet, or their count
unfoldable pub first_untaken : List ℕ → ℕ
first_untaken bs = first (λ i. not (facet_stands (stl_facet bs i))) (stl_count bs) (range 0 (stl_count bs))

-- "reading 14 for a wrong length, 25 .., 7 for a short slice", room being its length
unfoldable pub stl_read_verdict : List ℕ → ℕ → Verdict
stl_read_verdict bs room =
    judge
    (test 14 (leb 84 (length bs) && eqb (length bs) (stl_length (stl_count bs)))
    ∷ test_at 25 (first_untaken bs) (eqb (first_untaken bs) (stl_count bs))
    ∷ test 7 (leb (9 * stl_count bs) room)
    ∷ [])

-- "It returns the facet count, else 0"
unfoldable pub stl_loaded : List ℕ → ℕ → Loaded
stl_loaded bs room =
    let v = stl_read_verdict bs room in
    record { number = v.number; place = v.place; facets = cond (eqb v.number 0) (stl_count bs) 0 }

-- the contract of a reader: its answer, and what it leaves in the lent slice
pub record StlReads (bs : List ℕ) (before : List ℤ) (r : Loaded) (after : List ℤ) : Type 0 where
  pub answer : r ≡ stl_loaded bs (length before)
  pub left : after ≡ output_after (stl_read_verdict bs (length before)).number (stl_words bs) before
