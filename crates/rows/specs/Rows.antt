-- The sides of a row of samples as one word, and its fill as another; what rows say of cubes and faces. Assumes nothing.
use Rattle.std.specs.Prelude.{◌≡◌, Bool, true, false, cond, not, ◌&&◌, List, [], ◌∷◌, map, ℕ, ◌+◌, ◌-◌, ◌*◌, ◌/◌, ◌%◌, ◌^◌, ◌≤◌, ◌<◌, eqb, ℤ, pos, length, get_or}
use Rattle.std.specs.Int.Bits.{bit_and, bit_or, bit_xor}
use Rattle.lists.specs.Lists.{range, each, any, is_in}
use Rattle.paper.specs.declared.Sizes.{Sizes}
use Rattle.paper.specs.declared.Place.{Place}
use Rattle.paper.specs.Lattice.{Lattice, place, air, air_at, is_fill, mixed, cube_no, in_lattice, visitable, crossed, inside, may_start}
use Rattle.sides.specs.Pattern.{bits}
use Rattle.bits.specs.Words.{bit, word, raised}
use Rattle.rows.specs.declared.Quad.{Quad}

-- the word of the samples, or of the cubes, at the y and z of a place
abbrev pub row_no : Sizes → Place → ℕ
row_no n p = p.y + n.ny * p.z

-- ── rows of samples ──

-- which of the n samples from i on pass a test: bit x is that of sample i + x
unfoldable pub pass_from : (ℤ → Bool) → List ℤ → ℕ → ℕ → ℕ
pass_from t s i n = word (λ x. t (get_or s (i + x) (pos 0))) n

-- their sides, which of them are the fill, and both: a byte of each for eight samples
abbrev pub sides_from : List ℤ → ℕ → ℕ → ℕ
sides_from = pass_from air

abbrev pub fills_from : List ℤ → ℕ → ℕ → ℕ
fills_from = pass_from is_fill

unfoldable pub codes_from : List ℤ → ℕ → ℕ → ℕ
codes_from s i n = sides_from s i n + 256 * fills_from s i n

-- which of the samples of each row pass a test, y within z
unfoldable pub pass_rows : (ℤ → Bool) → Lattice → List ℕ
pass_rows t L = map (λ r. pass_from t L.values (L.size.nx * r) L.size.nx) (range 0 (L.size.ny * L.size.nz))

-- all side rows, and all rows of the fill
abbrev pub side_rows : Lattice → List ℕ
side_rows = pass_rows air

abbrev pub fill_rows : Lattice → List ℕ
fill_rows = pass_rows is_fill

-- the sides of the samples at y and z: bit x is that of (x, y, z)
unfoldable pub side_row : Lattice → ℕ → ℕ → ℕ
side_row L y z = word (λ x. air_at L (place x y z)) L.size.nx

-- the front of these words is the lattice's side rows
pub record HasRows (L : Lattice) (rows : List ℕ) : Type 0 where
  pub long : L.size.ny * L.size.nz ≤ length rows
  pub at : (y z : ℕ) → y < L.size.ny → z < L.size.nz → get_or rows (y + L.size.ny * z) 0 ≡ side_row L y z

-- these words have the cubes that may be visited, a word to a row of cubes
pub record HasFree (L : Lattice) (may : List ℕ) : Type 0 where
  pub long : L.size.ny * L.size.nz ≤ length may
  pub at : (y z x : ℕ) → y + 1 < L.size.ny → z + 1 < L.size.nz
      → bit (get_or may (y + L.size.ny * z) 0) x ≡ visitable L (place x y z)

-- both
pub record HasBoth (L : Lattice) (rows may : List ℕ) : Type 0 where
  pub sides : HasRows L rows
  pub free : HasFree L may

-- ── rows of cubes ──

-- the cube at p is there, and one of vs
unfoldable pub is_one_of : Sizes → List ℕ → Place → Bool
is_one_of n vs p = in_lattice n p && is_in vs (cube_no n p)

-- the front of these words has the cubes of vs, a word to a row
pub record HasCubes (n : Sizes) (vs words : List ℕ) : Type 0 where
  pub at : (y z x : ℕ) → y < n.ny → z < n.nz → bit (get_or words (y + n.ny * z) 0) x ≡ is_one_of n vs (place x y z)

-- the four words from r on, ny words to a layer
unfoldable pub quad_at : List ℕ → ℕ → ℕ → Quad
quad_at rows ny r = record {
  a = get_or rows r 0;
  b = get_or rows (r + 1) 0;
  c = get_or rows (r + ny) 0;
  d = get_or rows (r + ny + 1) 0;
}

abbrev pub four : Quad → List ℕ
four q = q.a ∷ q.b ∷ q.c ∷ q.d ∷ []

-- the bits that one of the four words has, and those that all have
abbrev pub either_of : Quad → ℕ
either_of q = bit_or (bit_or (bit_or q.a q.b) q.c) q.d

abbrev pub both_of : Quad → ℕ
both_of q = bit_and (bit_and (bit_and q.a q.b) q.c) q.d

-- corner c of cube x of the row
unfoldable pub corner_bit : Quad → ℕ → ℕ → Bool
corner_bit q x c = raised (get_or (four q) (c / 2) 0) (c % 2) x

-- the bits at x and x + 1 of some words, word by word
unfoldable pub pairs : List ℕ → ℕ → List Bool
pairs ws x = each (λ w. bit w x ∷ bit w (x + 1) ∷ []) ws

-- whether no corner of cube x of the row is in the words, and how many rows have all four
unfoldable pub free_in : Quad → ℕ → Bool
free_in q x = not (any (λ b. b) (pairs (four q) x))

abbrev pub quads : Sizes → ℕ
quads n = n.ny * (n.nz - 1) - 1

-- the cubes of each row that have no corner in the words
unfoldable pub free_rows : Sizes → List ℕ → List ℕ
free_rows n fills = map (λ r. word (free_in (quad_at fills n.ny r)) (n.nx - 1)) (range 0 (quads n))

-- whether the corners of cube x of the row are mixed, and its pattern
unfoldable pub crossed_in : Quad → ℕ → Bool
crossed_in q x = mixed (pairs (four q) x)

unfoldable pub pattern_in : Quad → ℕ → ℕ
pattern_in q x = bits (pairs (four q) x)

-- whether the face across x at x is mixed
unfoldable pub across_in : Quad → ℕ → Bool
across_in q x = mixed (map (λ w. bit w x) (four q))

-- the two rows that hold a face across y or z: 2 and 3 at the low and the high y end, 4 and 5 at those of z
unfoldable pub face_rows : ℕ → List ℕ
face_rows i = get_or ((0 ∷ 2 ∷ []) ∷ (1 ∷ 3 ∷ []) ∷ (0 ∷ 1 ∷ []) ∷ (2 ∷ 3 ∷ []) ∷ []) (i - 2) []

-- whether face i of cube x is mixed
unfoldable pub mixed_in : Quad → ℕ → ℕ → Bool
mixed_in q i x = mixed (pairs (map (λ r. get_or (four q) r 0) (face_rows i)) x)

-- where the bits at x and x + 1 of some words are not all alike: o has a bit where one of them has it, n where all have it
unfoldable pub mixed_word : ℕ → ℕ → ℕ
mixed_word o n = bit_xor (bit_or o (o / 2)) (bit_and n (n / 2))

-- the cubes of m that are mixed
unfoldable pub crossed_row : Quad → ℕ → ℕ
crossed_row q m = bit_and m (mixed_word (either_of q) (both_of q))

-- the mixed faces across x between two cubes of m: bit x + 1 is that of cubes x and x + 1
unfoldable pub gate_row : Quad → ℕ → ℕ
gate_row q m = bit_and (bit_and m ((m * 2 ^ 1) % 2 ^ 64)) (bit_xor (either_of q) (both_of q))

-- the mixed ones of the faces i of a row
unfoldable pub face_row : Quad → ℕ → ℕ
face_row q i =
    let u = get_or (four q) (get_or (face_rows i) 0 0) 0 in
    let v = get_or (four q) (get_or (face_rows i) 1 0) 0 in
    mixed_word (bit_or u v) (bit_and u v)

-- whether the cube at p is crossed, by rows of sides and of cubes that may be visited, of a lattice of size z
unfoldable pub crossed_by : Sizes → List ℕ → List ℕ → Place → Bool
crossed_by z rows may p = bit (get_or may (row_no z p) 0) p.x && crossed_in (quad_at rows z.ny (row_no z p)) p.x

-- the cubes at y and z that have none of their six faces in the lattice's bounds
unfoldable pub inside_row : Sizes → ℕ → ℕ → ℕ
inside_row n y z = word (λ x. inside n (place x y z)) (n.nx - 2)

-- the cubes that are sought for a start: the crossed ones, or only those of them that are off the bounds
abbrev pub wanted : Bool → Lattice → ℕ → Bool
wanted true L = may_start L
wanted false L = crossed L

-- those of the crossed cubes m at y and z, and whether the cube at p is one, by the rows
unfoldable pub wanted_row : Bool → Sizes → ℕ → ℕ → ℕ → ℕ
wanted_row true n y z m = bit_and m (inside_row n y z)
wanted_row false n y z m = m

unfoldable pub wanted_by : Bool → Sizes → List ℕ → List ℕ → Place → Bool
wanted_by true z rows may p = crossed_by z rows may p && inside z p
wanted_by false z rows may p = crossed_by z rows may p

-- how many bits of a word to look at: none where there is none
unfoldable pub looked_at : ℕ → ℕ → ℕ
looked_at m n = cond (eqb m 0) 0 n
