-- Document 01, building, with document 02 (iv), the start, and (vi), the rule of rounding: the answer, and what each lent slice then
-- holds. Assumes nothing.
use Rattle.std.specs.Prelude.{◌≡◌, refl, Bool, true, cond, List, [], ◌∷◌, ◌++◌, ℕ, ℤ, pos, negsuc, eqb, length, replicate}
use Rattle.lists.specs.Lists.{range, any, is_in}
use Rattle.paper.specs.declared.Sizes.{Sizes}
use Rattle.paper.specs.declared.Start.{Start}
use Rattle.paper.specs.declared.Start.TheVariants.{Unnamed, Lowest, Cube}
use Rattle.paper.specs.declared.Rule.{Rule}
use Rattle.paper.specs.declared.Rule.TheVariants.{Nearest}
use Rattle.paper.specs.declared.Built.{Built}
use Rattle.paper.specs.Lattice.{Lattice, lattice, axes, samples, air, sample_no, value_at, air_at, is_fill, fill_at, cubes, cube_no, cube_at}
use Rattle.paper.specs.Lattice.{corner, mixed, mixed_at, in_lattice, free, visitable, crossed, lowest, inner, inside, may_start}
use Rattle.paper.specs.Sheet.{Sheet, sheet_of, vertex_words, triangle_words}
use Rattle.paper.specs.Tests.{Test, test, judge}
use Rattle.paper.specs.Room.{Work, Lengths, lengths, roomy, vertex_room, triangle_room, room_tests, work_after, output_after}

-- "Lent room": what a build is lent
pub record Lent : Type 0 where
  pub vertices : List ℤ
  pub triangles : List ℕ
  pub work : Work

abbrev pub lent : List ℤ → List ℕ → Work → Lent
lent vs ts w = record { vertices = vs; triangles = ts; work = w }

-- 1 to 3: "an axis is outside 2..64", "the sample count is not nx·ny·nz", "a work slice is too short"
unfoldable pub shape_tests : Lattice → Lengths → List Test
shape_tests L n =
    test 1 (axes L.size)
    ∷ test 2 (eqb (length L.values) (samples L.size))
    ∷ test 3 (roomy L.size n)
    ∷ []

-- 4: "the named start is not a cube of the lattice"
abbrev pub named : Sizes → Start → Bool
named z Unnamed = true
named z Lowest = true
named z (Cube p) = in_lattice z p

-- the start cube; document 02 (iv): some callers "now ask for the old one by name", the lowest crossed cube
abbrev pub start_of : Lattice → Start → ℕ
start_of L Unnamed = lowest L.size (may_start L)
start_of L Lowest = lowest L.size (crossed L)
start_of L (Cube p) = cube_no L.size p

-- 5: "the start is not crossed, or none was named and no cube is crossed"; "5 where no such cube exists" (02 (iv))
abbrev pub starts : Lattice → Start → Bool
starts L Unnamed = any (may_start L) (range 0 (cubes L.size))
starts L Lowest = any (crossed L) (range 0 (cubes L.size))
starts L (Cube p) = crossed L (cube_no L.size p)

unfoldable pub start_tests : Lattice → Start → List Test
start_tests L s = test 4 (named L.size s) ∷ test 5 (starts L s) ∷ []

-- "Checking: 1 to 5 on the samples", as building
unfoldable pub sample_tests : Lattice → Start → Lengths → List Test
sample_tests L s n = shape_tests L n ++ start_tests L s

-- document 02 (vi): "Round t to the nearest unit", "The builder follows"
abbrev pub build_rule : Rule
build_rule = Nearest

-- the sheet that is built
abbrev pub sheet_from : Lattice → Start → Sheet
sheet_from L s = sheet_of build_rule L (start_of L s)

-- "Building: 1 to 7."
unfoldable pub build_number : Lattice → Start → Lent → ℕ
build_number L s l =
    let S = sheet_from L s in
    (judge
    (sample_tests L s (lengths l.work)
    ++ room_tests (length S.edges) (length S.triangles) (vertex_room l.vertices) (triangle_room l.triangles))
    ).number

-- "counts of vertices, triangles and visited cubes: true counts at 0, 6 and 7, zeros otherwise"
abbrev pub counts : ℕ → Bool
counts n = is_in (0 ∷ 6 ∷ 7 ∷ []) n

-- an answer with the true counts, and one with zeros
abbrev pub counted : ℕ → Sheet → Built
counted n S = record { number = n; vertices = length S.edges; triangles = length S.triangles; cubes = S.visits }

abbrev pub uncounted : ℕ → Built
uncounted n = record { number = n; vertices = 0; triangles = 0; cubes = 0 }

-- "Building returns": the number, and the counts by it
unfoldable pub built : Lattice → Start → Lent → Built
built L s l =
    let n = build_number L s l in
    cond (counts n) (counted n (sheet_from L s)) (uncounted n)

-- what a build leaves in what it was lent, by its number and its sheet
abbrev pub left_at : ℕ → Sheet → Sizes → Lent → Lent
left_at n S z l =
    lent (output_after n (vertex_words S) l.vertices) (output_after n (triangle_words S) l.triangles) (work_after n z l.work)

unfoldable pub lent_after : Lattice → Start → Lent → Lent
lent_after L s l = left_at (build_number L s l) (sheet_from L s) L.size l

-- the contract of a build: its answer, and what it leaves
pub record Builds (L : Lattice) (s : Start) (before : Lent) (r : Built) (after : Lent) : Type 0 where
  pub answer : r ≡ built L s before
  pub left : after ≡ lent_after L s before

-- ── worked, of document 02 (iv) ──

-- 4×4×4 and 3×3×3, only (1, 1, 1) air: the number of tests 4 and 5, and the start, where none is named and where the lowest is
worked_start :
    let o : ℤ = negsuc 0 in
    let wide : Lattice = lattice (record { nx = 4; ny = 4; nz = 4 }) (replicate 21 o ++ pos 1 ∷ replicate 42 o) in
    let tight : Lattice = lattice (record { nx = 3; ny = 3; nz = 3 }) (replicate 13 o ++ pos 1 ∷ replicate 13 o) in
    let given : Lattice → Start → ℕ = λ L s. (judge (start_tests L s)).number in
    (given wide Unnamed ∷ start_of wide Unnamed ∷ given wide Lowest ∷ start_of wide Lowest ∷ given tight Unnamed ∷ given tight Lowest ∷ [])
    ≡ (0 ∷ 13 ∷ 0 ∷ 0 ∷ 5 ∷ 0 ∷ [])
unfolding air sample_no value_at air_at is_fill fill_at cubes cube_at corner mixed mixed_at
    in_lattice free visitable crossed lowest inner inside may_start start_tests
worked_start = refl
