-- Document 01, "Lattice, sides, numbers", and document 02, (iii) "−32768 is no sample" and (iv) "A better start where none is named".
-- Assumes nothing.
use Rattle.std.specs.Prelude.{◌≡◌, refl, Bool, true, false, not, ◌&&◌, List, [], ◌∷◌, ◌++◌, map, ℕ, ◌+◌, ◌-◌, ◌*◌, ◌/◌, ◌%◌, ℤ, pos, negsuc, eqb, ltb, leb, get_or, set, replicate}
use Rattle.std.specs.Int.Signed.{lt_z}
use Rattle.lists.specs.Lists.{range, cons_if, keep, any, all, each, first}
use Rattle.lists.specs.Reach.{Reach, grow, rounds, reached}
use Rattle.paper.specs.declared.Sizes.{Sizes}
use Rattle.paper.specs.declared.Place.{Place}

-- a lattice: its sizes, and its samples by their numbers
pub record Lattice : Type 0 where
  pub size : Sizes
  pub values : List ℤ

abbrev pub lattice : Sizes → List ℤ → Lattice
lattice z s = record { size = z; values = s }

abbrev pub place : ℕ → ℕ → ℕ → Place
place x y z = record { x = x; y = y; z = z }

-- "An axis has 2 to 64 samples."
unfoldable pub axis : ℕ → Bool
axis n = leb 2 n && leb n 64

unfoldable pub axes : Sizes → Bool
axes z = axis z.nx && axis z.ny && axis z.nz

-- "the sample count .. nx·ny·nz"
unfoldable pub samples : Sizes → ℕ
samples z = z.nx * (z.ny * z.nz)

-- "Above 0 is air (the source's positive, outside); 0 and below is solid."
unfoldable pub air : ℤ → Bool
air v = lt_z (pos 0) v

-- "Sample (x, y, z) has number x + nx·(y + ny·z)."
unfoldable pub sample_no : Sizes → Place → ℕ
sample_no z p = p.x + z.nx * (p.y + z.ny * p.z)

-- where the sample of a number stands
unfoldable pub sample_at : Sizes → ℕ → Place
sample_at z n = place (n % z.nx) (n / z.nx % z.ny) (n / (z.nx * z.ny))

-- the sample at a place, and its side
unfoldable pub value_at : Lattice → Place → ℤ
value_at L p = get_or L.values (sample_no L.size p) (pos 0)

unfoldable pub air_at : Lattice → Place → Bool
air_at L p = air (value_at L p)

-- document 02 (iii): "The scanner fills the ring outside its field of view with −32768.": the fill, and whether a value is it
abbrev pub fill : ℤ
fill = negsuc 32767

unfoldable pub is_fill : ℤ → Bool
is_fill (pos n) = false
is_fill (negsuc n) = eqb n 32767

unfoldable pub fill_at : Lattice → Place → Bool
fill_at L p = is_fill (value_at L p)

-- no sample of the lattice is the fill
unfoldable pub no_fill : Lattice → Bool
no_fill L = not (any is_fill L.values)

-- a cube spans two samples on each axis
unfoldable pub cubes : Sizes → ℕ
cubes z = (z.nx - 1) * ((z.ny - 1) * (z.nz - 1))

-- "Cube (x, y, z) .. has number x + (nx−1)·(y + (ny−1)·z)."
unfoldable pub cube_no : Sizes → Place → ℕ
cube_no z p = p.x + (z.nx - 1) * (p.y + (z.ny - 1) * p.z)

-- where the cube of a number stands
unfoldable pub cube_at : Sizes → ℕ → Place
cube_at z k = place (k % (z.nx - 1)) (k / (z.nx - 1) % (z.ny - 1)) (k / ((z.nx - 1) * (z.ny - 1)))

-- "L/R is the low/high x end, B/T the low/high y end, N/F the low/high z end.": a corner of a cube, R adding 1, T 2, F 4
abbrev pub LBN : ℕ
LBN = 0

abbrev pub RBN : ℕ
RBN = 1

abbrev pub LTN : ℕ
LTN = 2

abbrev pub RTN : ℕ
RTN = 3

abbrev pub LBF : ℕ
LBF = 4

abbrev pub RBF : ℕ
RBF = 5

abbrev pub LTF : ℕ
LTF = 6

abbrev pub RTF : ℕ
RTF = 7

-- "Cube (x, y, z) spans x to x+1 and so on": the sample at a corner of the cube at p
unfoldable pub corner : Place → ℕ → Place
corner p c = place (p.x + c % 2) (p.y + c / 2 % 2) (p.z + c / 4)

-- "not all on one side"
unfoldable pub mixed : List Bool → Bool
mixed l = any (λ b. b) l && not (all (λ b. b) l)

unfoldable pub mixed_at : Lattice → Place → List ℕ → Bool
mixed_at L p cs = mixed (map (λ c. air_at L (corner p c)) cs)

-- "No cube outside the lattice exists."
unfoldable pub in_lattice : Sizes → Place → Bool
in_lattice z p = ltb (p.x + 1) z.nx && ltb (p.y + 1) z.ny && ltb (p.z + 1) z.nz

-- document 02 (iii), "free of the fill": none of the eight corners of the cube at p is the fill
unfoldable pub free : Lattice → Place → Bool
free L p = not (any (λ c. fill_at L (corner p c)) (range 0 8))

-- the cubes that may be visited: those of the lattice, and of document 02 (iii), "visitable means free of the fill"
unfoldable pub visitable : Lattice → Place → Bool
visitable L p = in_lattice L.size p && free L p

-- "A cube is crossed if its eight corners are not all on one side."; "a cube with such a corner counts as not crossed" (02 (iii))
unfoldable pub crossed : Lattice → ℕ → Bool
crossed L k = let p = cube_at L.size k in visitable L p && mixed_at L p (range 0 8)

-- a face of a cube: its corners, whether there is a place beyond it, and the cube there
pub record Face : Type 0 where
  pub corners : List ℕ
  pub there : Bool
  pub beyond : Place

abbrev pub face : List ℕ → Bool → Place → Face
face cs o b = record { corners = cs; there = o; beyond = b }

-- the faces at the low and the high x, y and z end of the cube at p
unfoldable pub faces : Place → List Face
faces p =
    face (LBN ∷ LTN ∷ LBF ∷ LTF ∷ []) (ltb 0 p.x) (place (p.x - 1) p.y p.z)
    ∷ face (RBN ∷ RTN ∷ RBF ∷ RTF ∷ []) true (place (p.x + 1) p.y p.z)
    ∷ face (LBN ∷ RBN ∷ LBF ∷ RBF ∷ []) (ltb 0 p.y) (place p.x (p.y - 1) p.z)
    ∷ face (LTN ∷ RTN ∷ LTF ∷ RTF ∷ []) true (place p.x (p.y + 1) p.z)
    ∷ face (LBN ∷ RBN ∷ LTN ∷ RTN ∷ []) (ltb 0 p.z) (place p.x p.y (p.z - 1))
    ∷ face (LBF ∷ RBF ∷ LTF ∷ RTF ∷ []) true (place p.x p.y (p.z + 1))
    ∷ []

-- face i of the cube at p: 0 and 1 at the low and the high x end, 2 and 3 at those of y, 4 and 5 at those of z
unfoldable pub face_at : Place → ℕ → Face
face_at p i = get_or (faces p) i (face [] false p)

-- "steps into a neighbour across a shared face whose four corners are not all on one side"; a cube with a corner that is the fill "is never
-- visited" (02 (iii))
unfoldable pub step_over : Lattice → Place → Face → List ℕ
step_over L p f =
    cons_if (f.there && visitable L f.beyond && mixed_at L p f.corners) (cube_no L.size f.beyond) []

unfoldable pub steps : Lattice → ℕ → List ℕ
steps L k = let p = cube_at L.size k in each (step_over L p) (faces p)

-- "The visited cubes are the start cube and every cube reached from it by steps"
abbrev pub Visited : Lattice → ℕ → ℕ → Type 0
Visited L start = Reach (steps L) start

-- the same as a list, by rising number; a cube is in it exactly when it is Visited (proofs/Visits, visited-exactly)
unfoldable pub visited : Lattice → ℕ → List ℕ
visited L start = reached (steps L) (cubes L.size) start

-- the cube of lowest number that passes a test, "sought by x within y within z", or the number of cubes where none does
unfoldable pub lowest : Sizes → (ℕ → Bool) → ℕ
lowest z p = first p (cubes z) (range 0 (cubes z))

-- document 02 (iv), "none of its six faces in the lattice's bounds": on an axis of n samples, neither of the two faces of the cube at x, at
-- the samples x and x + 1, is at the first sample or at the last
unfoldable pub inner : ℕ → ℕ → Bool
inner n x = ltb 0 x && ltb (x + 2) n

unfoldable pub inside : Sizes → Place → Bool
inside z p = inner z.nx p.x && inner z.ny p.y && inner z.nz p.z

-- "If the caller names no start, the start is the crossed cube of lowest number"; "The default becomes the lowest crossed cube with none of
-- its six faces in the lattice's bounds." (02 (iv)): the cubes that may then be the start
unfoldable pub may_start : Lattice → ℕ → Bool
may_start L k = crossed L k && inside L.size (cube_at L.size k)

-- ── worked, of document 02 (iii) and (iv) ──

-- (iii): 3×3×3, only (1, 1, 1) air and the fill at (0, 0, 0): its crossed cubes, and those visited from the cube at (1, 0, 0). Then the
-- corners of a cube at which the fill leaves it visitable, and those at which −32767 does
worked :
    let o : ℤ = negsuc 0 in
    let ring : Lattice = lattice (record { nx = 3; ny = 3; nz = 3 }) (fill ∷ replicate 12 o ++ pos 1 ∷ replicate 13 o) in
    let left : ℤ → List ℕ =
    λ v. keep (λ c. visitable (lattice (record { nx = 2; ny = 2; nz = 2 }) (set (replicate 8 o) c v)) (place 0 0 0)) (range 0 8) in
    (keep (crossed ring) (range 0 8) ∷ visited ring 1 ∷ left fill ∷ left (negsuc 32766) ∷ [])
    ≡ (range 1 7 ∷ range 1 7 ∷ [] ∷ range 0 8 ∷ [])
unfolding grow rounds reached air sample_no value_at air_at is_fill fill_at cubes cube_no cube_at
    corner mixed mixed_at in_lattice free visitable crossed faces step_over steps visited
worked = refl

-- (iv): the cubes of 4×5×6 samples that have no face in the bounds; then, of 6×4×4, only (0, 0, 0) and (4, 2, 2) air, the crossed cubes
-- that may be the start, the lowest of them, and the lowest crossed cube
worked_start :
    let o : ℤ = negsuc 0 in
    let z : Sizes = record { nx = 4; ny = 5; nz = 6 } in
    let tray : Lattice = lattice (record { nx = 6; ny = 4; nz = 4 }) (pos 1 ∷ replicate 63 o ++ pos 1 ∷ replicate 31 o) in
    (keep (λ k. inside z (cube_at z k)) (range 0 60)
    ∷ keep (may_start tray) (range 0 45)
    ∷ (lowest tray.size (may_start tray) ∷ lowest tray.size (crossed tray) ∷ [])
    ∷ [])
    ≡ ((16 ∷ 19 ∷ 28 ∷ 31 ∷ 40 ∷ 43 ∷ []) ∷ (23 ∷ []) ∷ (23 ∷ 0 ∷ []) ∷ [])
unfolding air sample_no value_at air_at is_fill fill_at cubes cube_at corner mixed
    mixed_at in_lattice free visitable crossed lowest inner inside may_start
worked_start = refl
