-- A file's triangles, named by edges, against the triangles of the visited cubes. Assumes nothing.
use Rattle.std.specs.Prelude.{◌≡◌, Bool, true, cond, not, ◌&&◌, Option, MatchOption, List, ℕ, zero, suc, ◌+◌, ◌-◌, ◌/◌, ◌%◌, ◌^◌, ◌<◌, ℤ, eqb, ltb, get_or, set}
use Rattle.lists.specs.Lists.{range, first}
use Rattle.paper.specs.declared.Sizes.{Sizes}
use Rattle.paper.specs.Lattice.{cubes, cube_no}
use Rattle.paper.specs.Tables.{Tri, tri}
use Rattle.paper.specs.Within.{cube_of}
use Rattle.paper.specs.Check.{turned, edge_of, triangle_of}
use Rattle.sides.specs.Pattern.{bit_of}
use Rattle.tetra.specs.Cut.{row_by, row_count, row_triangles}
use Rattle.check_records.specs.Records.{edge_in}
use Rattle.check_triangles.specs.Words.{base_of}
use Rattle.check_triangles.specs.declared.Spot.{Spot}

-- the edges of the first nv records are among n
pub record Named (n : ℕ) (vs : List ℤ) (nv : ℕ) : Type 0 where
  pub below : (i : ℕ) → i < nv → edge_in (edge_of vs i) n < n

-- the number of the cube that can hold a triangle
abbrev pub holder : Sizes → Tri → ℕ
holder z t = cube_no z (cube_of z t)

-- t is triangle c of a cube with pattern m, read from any corner; c counts two to a tetrahedron
unfoldable pub is_at : Sizes → ℕ → ℕ → Tri → ℕ → Bool
is_at z base m t c =
    let r = row_by m (c / 2) in
    ltb (c % 2) (row_count r) && turned t (get_or (row_triangles z base (c / 2) r) (c % 2) (tri 0 0 0))

-- the first place of t from i on in a cube with pattern m, or 12; its first place, or 12
unfoldable pub place_from : Sizes → ℕ → ℕ → Tri → ℕ → ℕ
place_from z base m t i = first (is_at z base m t) 12 (range i (12 - i))

unfoldable pub place_by : Sizes → ℕ → ℕ → Tri → ℕ
place_by z base m t = first (is_at z base m t) 12 (range 0 12)

-- the place of t in cube k, by its word: 12 where there is no such cube, or it has no word
unfoldable pub place_in : Sizes → List ℕ → ℕ → Tri → ℕ
place_in z words k t =
    let word = get_or words k 0 in
    cond (ltb k (cubes z) && not (eqb word 0)) (place_by z (base_of z k) (word % 256) t) 12

unfoldable pub place_of : Sizes → List ℕ → Tri → ℕ
place_of z words t = place_in z words (holder z t) t

-- a triangle that stands at a place of a cube with a word has that cube and that place, and no other
pub record Sure (z : Sizes) (words : List ℕ) : Type 0 where
  pub at : (k c : ℕ) (t : Tri) → k < cubes z → c < 12 → (get_or words k 0 ≡ 0 → ⊥) → is_at z (base_of z k) (get_or words k 0 % 256) t c ≡ true
      → (holder z t ≡ k) × (place_of z words t ≡ c)

-- t is a triangle of its cube, and its bit there is 0
unfoldable pub fresh : Sizes → List ℕ → List ℕ → Tri → Bool
fresh z words seen t =
    let c = place_of z words t in
    ltb c 12 && eqb (bit_of (get_or seen (holder z t) 0) c) 0

-- its bit becomes 1
unfoldable pub noted : Sizes → List ℕ → List ℕ → Tri → List ℕ
noted z words seen t = set seen (holder z t) (get_or seen (holder z t) 0 + 2 ^ place_of z words t)

-- a spot is based: its cube is one of the lattice and has a word, its base and its pattern are the cube's, and its place is one of the twelve
pub record Based (z : Sizes) (words : List ℕ) (s : Spot) : Type 0 where
  pub cube : s.cube < cubes z
  pub base : s.base ≡ base_of z s.cube
  pub word : get_or words s.cube 0 ≡ 256 + s.pattern
  pub pattern : s.pattern < 256
  pub place : s.place < 12

-- a spot is where t is: its place and its cube
pub record Found (z : Sizes) (words : List ℕ) (t : Tri) (s : Spot) : Type 0 where
  pub place : s.place ≡ place_of z words t
  pub cube : s.cube ≡ holder z t
  pub based : Based z words s

-- an answer is the spot where t is, or t has no place
abbrev pub Finds : Sizes → List ℕ → Tri → Option Spot → Type 0
Finds z words t o = MatchOption o (place_of z words t ≡ 12) (Found z words t)

-- the bit of a spot is 0; it becomes 1
unfoldable pub fresh_at : List ℕ → Spot → Bool
fresh_at seen s = eqb (bit_of (get_or seen s.cube 0) s.place) 0

unfoldable pub noted_at : List ℕ → Spot → List ℕ
noted_at seen s = set seen s.cube (get_or seen s.cube 0 + 2 ^ s.place)

-- the bits of each of the first n are those of 12 places
pub record Small (n : ℕ) (seen : List ℕ) : Type 0 where
  pub at : (k : ℕ) → k < n → get_or seen k 0 < 4096

-- the bits after the first i triangles
unfoldable pub seen_after : Sizes → List ℕ → List ℤ → List ℕ → List ℕ → ℕ → List ℕ
seen_after z words vs ts seen zero = seen
seen_after z words vs ts seen (suc i) = noted z words (seen_after z words vs ts seen i) (triangle_of vs ts i)

-- triangle i is not one of its cube's, or its bit is 1; the first such of nt, or nt
unfoldable pub bad_in : Sizes → List ℕ → List ℤ → List ℕ → List ℕ → ℕ → Bool
bad_in z words vs ts seen i = not (fresh z words (seen_after z words vs ts seen i) (triangle_of vs ts i))

unfoldable pub first_bad_in : Sizes → List ℕ → List ℤ → List ℕ → List ℕ → ℕ → ℕ
first_bad_in z words vs ts seen nt = first (bad_in z words vs ts seen) nt (range 0 nt)
