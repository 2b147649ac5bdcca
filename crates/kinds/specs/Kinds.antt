-- The edges with a vertex of a row of anchors, as seven words. Assumes nothing.
use Rattle.std.specs.Prelude.{◌≡◌, Bool, cond, ◌&&◌, List, [], ◌∷◌, ℕ, ◌+◌, ◌-◌, ◌*◌, ◌/◌, ◌%◌, ◌<◌, leb, ltb, get_or, map, fold}
use Rattle.std.specs.Bool.{xor}
use Rattle.std.specs.Int.Bits.{bit_or}
use Rattle.lists.specs.Lists.{any, range}
use Rattle.paper.specs.declared.Sizes.{Sizes}
use Rattle.paper.specs.declared.Place.{Place}
use Rattle.paper.specs.Lattice.{Lattice, place}
use Rattle.paper.specs.Sheet.{ends_of}
use Rattle.bits.specs.Words.{bit, word, lowered}
use Rattle.rows.specs.declared.Quad.{Quad}
use Rattle.rows.specs.Rows.{four, corner_bit, side_row, is_one_of}
use Rattle.kinds.specs.declared.KindWords.{KindWords}

-- the corners of a cube that are the anchor of one of its edges, by the edge's kind
unfoldable pub anchors : List (List ℕ)
anchors =
    (0 ∷ 2 ∷ 4 ∷ 6 ∷ [])
    ∷ (0 ∷ 1 ∷ 4 ∷ 5 ∷ [])
    ∷ (0 ∷ 1 ∷ 2 ∷ 3 ∷ [])
    ∷ (0 ∷ 1 ∷ [])
    ∷ (0 ∷ 2 ∷ [])
    ∷ (0 ∷ 4 ∷ [])
    ∷ (0 ∷ [])
    ∷ []

-- the cube whose corner o is at x, by the words at y and z, the last y, the last z, both
unfoldable pub cube_bit : Quad → ℕ → ℕ → Bool
cube_bit v x o = lowered (get_or (four v) (o / 2) 0) (o % 2) x

-- an edge of kind j at x has a vertex: f has the sides, v the visited cubes
unfoldable pub kind_bit : Quad → Quad → ℕ → ℕ → Bool
kind_bit f v j x =
    let k = ends_of j in
    xor (corner_bit f x k.a) (corner_bit f x k.b) && any (cube_bit v x) (get_or anchors j [])

unfoldable pub kinds_of : Quad → Quad → KindWords
kinds_of f v = record { words = map (λ j. word (kind_bit f v j) 64) (range 0 7) }

-- the seven words, and whether edge i of the row has a vertex: i is 7 · x + kind
abbrev pub seven : KindWords → List ℕ
seven k = k.words

unfoldable pub is_edge : KindWords → ℕ → Bool
is_edge k i = bit (get_or (seven k) (i % 7) 0) (i / 7)

-- the places that one of the seven words has
abbrev pub any_of : KindWords → ℕ
any_of k = fold bit_or 0 (seven k)

-- ── of a lattice and its visited cubes ──

-- the cube at x, at y or the last y, at z or the last z (row r: 1 for the last y, 2 for the last z), is one of vs
unfoldable pub is_cube : Sizes → List ℕ → ℕ → ℕ → ℕ → ℕ → Bool
is_cube n vs y z r x = leb (r % 2) y && (leb (r / 2) z && is_one_of n vs (place x (y - r % 2) (z - r / 2)))

-- the cube whose corner o is at p is one of vs
unfoldable pub corner_of : Sizes → List ℕ → Place → ℕ → Bool
corner_of n vs p o = leb (o % 2) p.x && is_cube n vs p.y p.z (o / 2) (p.x - o % 2)

-- the side words around a row of anchors at y and z, where the lattice has them
pub record SidesAt (L : Lattice) (y z : ℕ) (f : Quad) : Type 0 where
  pub here : f.a ≡ side_row L y z
  pub next_y : y + 1 < L.size.ny → f.b ≡ side_row L (y + 1) z
  pub next_z : z + 1 < L.size.nz → f.c ≡ side_row L y (z + 1)

-- the words of visited cubes around it: no bit where there is no cube
pub record VisitsAt (n : Sizes) (vs : List ℕ) (y z : ℕ) (v : Quad) : Type 0 where
  pub bits : (r x : ℕ) → r < 4 → bit (get_or (four v) r 0) x ≡ is_cube n vs y z r x

-- the word at y and z, or 0 where there is none
unfoldable pub row_at : Sizes → List ℕ → ℕ → ℕ → ℕ
row_at n rows y z = cond (ltb y n.ny) (cond (ltb z n.nz) (get_or rows (y + n.ny * z) 0) 0) 0

-- the word at y - dy and z - dz, or 0 where there is none
unfoldable pub row_before : Sizes → List ℕ → ℕ → ℕ → ℕ → ℕ → ℕ
row_before n rows y z dy dz = cond (leb dy y) (cond (leb dz z) (get_or rows (y - dy + n.ny * (z - dz)) 0) 0) 0

-- the words around a row of anchors: of sides, and of cubes
unfoldable pub sides_around : Sizes → List ℕ → ℕ → ℕ → Quad
sides_around n rows y z = record { a = row_at n rows y z; b = row_at n rows (y + 1) z; c = row_at n rows y (z + 1); d = 0 }

unfoldable pub cubes_around : Sizes → List ℕ → ℕ → ℕ → Quad
cubes_around n words y z = record {
  a = row_before n words y z 0 0;
  b = row_before n words y z 1 0;
  c = row_before n words y z 0 1;
  d = row_before n words y z 1 1;
}

-- the kinds of the row of anchors at y and z, by rows of sides and rows of cubes
unfoldable pub kinds_by : Sizes → List ℕ → List ℕ → ℕ → ℕ → KindWords
kinds_by n rows vis y z = kinds_of (sides_around n rows y z) (cubes_around n vis y z)
