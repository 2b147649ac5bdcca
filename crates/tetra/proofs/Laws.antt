-- A cube's edges and triangles by its pattern are those of the definitions. Assumes nothing.
use mathlib.Core.Path.{◌≡◌, refl, sym, ap, ◌∙◌}
use mathlib.Core.Bool.{Bool, true, false}
use mathlib.Core.List.{List, [], ◌∷◌, map}
use Prim.Native.Nat.{ℕ, zero, suc, ◌+◌, ◌-◌, ◌*◌, ◌/◌, ◌%◌, ◌≤◌, ◌<◌}
use native.Mathlib.Nat.{mul-le-mul}
use native.Mathlib.Omega.{arith}
use lib.ListN.{length, get_or}
use Rattle.lists.specs.Lists.{range, each}
use Rattle.lists.proofs.Every.{each_same, map_same}
use Rattle.lists.proofs.Runs.{at_along, get_d_map_lt}
use Rattle.paper.specs.declared.Sizes.{Sizes}
use Rattle.paper.specs.declared.Place.{Place}
use Rattle.paper.specs.Lattice.{Lattice, sample_no, air_at, corner, cube_at}
use Rattle.paper.specs.Tables.{Ends, Tri, tri, tets, rows, low}
use Rattle.paper.specs.Sheet.{edge_no, weight, row_of, row_at, tet_edge, tri_edges, triangles_at, cube_triangles, corners3}
use Rattle.paper.specs.Within.{Sized}
use Rattle.paper.proofs.Tables.{kind_lt}
use Rattle.lattice.specs.Steps.{corner_step}
use Rattle.lattice.proofs.Laws.{corner_no, floor_few}
use Rattle.sides.specs.Pattern.{pattern_at, bit_of}
use Rattle.sides.proofs.Laws.{pattern_bit}
use Rattle.tetra.specs.Cut.{tet_at, tet_corner, tet_corners, tet_ends, row_by, edge_step, tet_step}
use Rattle.tetra.specs.Cut.{tet_steps, row_count, row_edge, row_steps, row_triangles, triangles_by}
use Rattle.tetra.proofs.Tables.{tet_corner_lt, low_lt}

-- ── steps are small ──

pub corner_small : (z : Sizes) → Sized z → (c : ℕ) → c < 8 → corner_step z c ≤ 4161
unfolding corner_step
corner_small z s c h =
    let y : c / 2 % 2 ≤ 1 = omega arith in
    let w : c / 4 ≤ 1 = omega arith in
    let a : z.nx * (c / 2 % 2) ≤ 64 * 1 = mul-le-mul s.x_high y in
    let b : z.nx * z.ny * (c / 4) ≤ 4096 * 1 = mul-le-mul (floor_few z s) w in
    omega arith

pub tet_step_small : (z : Sizes) → Sized z → (t j : ℕ) → t < 6 → j < 6 → tet_step z t j ≤ 29133
unfolding tet_step edge_step
tet_step_small z s t j ht hj = omega (arith, corner_small z s (low (tet_ends t j)) (low_lt t j ht hj), kind_lt (tet_ends t j))

-- ── steps and rows at a place ──

-- an entry of a list that goes by two numbers
at_pair : (f : ℕ → ℕ → ℕ) (g h : ℕ → ℕ) (n k a b : ℕ) → k < n → g k ≡ a → h k ≡ b → get_or (map (λ i. f (g i) (h i)) (range 0 n)) k 0 ≡ f a b
at_pair f g h n k a b l p q = at_along (λ i. f (g i) (h i)) 0 n k l ∙ (λ i. f (p i) (q i))

pub corner_at_law : (t j : ℕ) → t < 6 → j < 4 → get_or tet_corners (4 * t + j) 0 ≡ tet_corner t j
unfolding tet_corners
corner_at_law t j ht hj = at_pair tet_corner (λ i. i / 4) (λ i. i % 4) 24 (4 * t + j) t j (omega arith) (omega arith) (omega arith)

pub step_at : (z : Sizes) (t j : ℕ) → t < 6 → j < 6 → get_or (tet_steps z) (6 * t + j) 0 ≡ tet_step z t j
unfolding tet_steps
step_at z t j ht hj = at_pair (tet_step z) (λ i. i / 6) (λ i. i % 6) 36 (6 * t + j) t j (omega arith) (omega arith) (omega arith)

pub row_step_at : (z : Sizes) (t r j : ℕ) → t < 6 → r < 16 → j < 6 → get_or (row_steps z) (96 * t + (6 * r + j)) 0 ≡ tet_step z t (row_edge r j)
unfolding row_steps
row_step_at z t r j ht hr hj =
    at_pair (λ t k. tet_step z t (row_edge (k / 6) (k % 6))) (λ i. i / 96) (λ i. i % 96) 576 (96 * t + (6 * r + j)) t (6 * r + j)
    (omega arith) (omega arith) (omega arith)
    ∙ (λ i. tet_step z t (row_edge (quotient i) (remainder i)))
  where
    quotient : (6 * r + j) / 6 ≡ r
    quotient = omega arith

    remainder : (6 * r + j) % 6 ≡ j
    remainder = omega arith

-- the three numbers of triangle j of a list
pub record Three (l : List Tri) (j : ℕ) : Type 0 where
  pub a : get_or (each corners3 l) (3 * j) 0 ≡ (get_or l j (tri 0 0 0)).a
  pub b : get_or (each corners3 l) (3 * j + 1) 0 ≡ (get_or l j (tri 0 0 0)).b
  pub c : get_or (each corners3 l) (3 * j + 2) 0 ≡ (get_or l j (tri 0 0 0)).c

pub three : (l : List Tri) (j : ℕ) → j < length l → Three l j
three [] j h = absurd (omega arith)
three (x ∷ xs) zero h = record { a = refl; b = refl; c = refl }
three (x ∷ xs) (suc j) h =
    let w = three xs j (omega arith) in
    let at : (k n : ℕ) → suc (suc (suc n)) ≡ k → get_or (each corners3 (x ∷ xs)) k 0 ≡ get_or (each corners3 xs) n 0 =
    λ k n e. ap (λ (m : ℕ). get_or (each corners3 (x ∷ xs)) m 0) (sym e) in
    record {
      a = at (3 * suc j) (3 * j) (omega arith) ∙ w.a;
      b = at (3 * suc j + 1) (3 * j + 1) (omega arith) ∙ w.b;
      c = at (3 * suc j + 2) (3 * j + 2) (omega arith) ∙ w.c;
    }

pub row_triangle : (z : Sizes) (base t r j : ℕ) → j < row_count r
    → get_or (row_triangles z base t r) j (tri 0 0 0)
    ≡ tri (base + tet_step z t (row_edge r (3 * j))) (base + tet_step z t (row_edge r (3 * j + 1))) (base + tet_step z t (row_edge r (3 * j + 2)))
unfolding row_triangles row_count row_edge
row_triangle z base t r j h =
    let l = get_or rows r [] in
    let w = three l j h in
    get_d_map_lt (λ g. tri (base + tet_step z t (g.a - 1)) (base + tet_step z t (g.b - 1)) (base + tet_step z t (g.c - 1))) l j
    (tri 0 0 0) (tri 0 0 0) h
    ∙ sym (λ i. tri (base + tet_step z t (w.a i - 1)) (base + tet_step z t (w.b i - 1)) (base + tet_step z t (w.c i - 1)))

-- ── one cube ──

module _ (L : Lattice) (p : Place) where
  abbrev z : Sizes
  z = L.size

  abbrev base : ℕ
  base = 7 * sample_no z p

  pub edge_by : (e : Ends) → edge_no z p e ≡ base + edge_step z e
  unfolding edge_no edge_step
  edge_by e = omega (arith, corner_no z p (low e))

  weigh : (b : Bool) (n : ℕ) → n * weight b 1 ≡ weight b n
  weigh true n = omega arith
  weigh false n = omega arith

  pub row_by_law : (t : ℕ) → t < 6 → row_by (pattern_at L p) t ≡ row_at (air_at L) p (tet_at t)
  unfolding row_by row_at row_of tet_corner
  row_by_law t h =
      let bit : (j : ℕ) → j < 4 → bit_of (pattern_at L p) (tet_corner t j) ≡ weight (air_at L (corner p (tet_corner t j))) 1 =
      λ j hj. pattern_bit L p (tet_corner t j) (tet_corner_lt t j h hj) in
      omega (
        arith,
        bit 0 (omega arith),
        bit 1 (omega arith),
        bit 2 (omega arith),
        bit 3 (omega arith),
        weigh (air_at L (corner p (tet_at t).a)) 8,
        weigh (air_at L (corner p (tet_at t).b)) 4,
        weigh (air_at L (corner p (tet_at t).c)) 2,
      )

  -- the triangles of one tetrahedron
  part : (t : ℕ) → t < 6 → row_triangles z base t (row_by (pattern_at L p) t)
      ≡ map (tri_edges z p (tet_at t)) (get_or rows (row_at (air_at L) p (tet_at t)) [])
  unfolding row_triangles tri_edges tet_edge tet_step tet_ends
  part t h =
      let e : (j : ℕ) → base + edge_step z (tet_ends t j) ≡ edge_no z p (tet_ends t j) = λ j. sym (edge_by (tet_ends t j)) in
      ap (row_triangles z base t) (row_by_law t h)
      ∙ map_same _ _ (λ g i. tri (e (g.a - 1) i) (e (g.b - 1) i) (e (g.c - 1) i)) (get_or rows (row_at (air_at L) p (tet_at t)) [])

  pub triangles_at_law : triangles_by z base (pattern_at L p) ≡ each (λ t. map (tri_edges z p t) (get_or rows (row_at (air_at L) p t) [])) tets
  unfolding triangles_by tets tet_at
  triangles_at_law =
      each_same (λ t. row_triangles z base t (row_by (pattern_at L p) t))
      (λ t. map (tri_edges z p (tet_at t)) (get_or rows (row_at (air_at L) p (tet_at t)) [])) (range 0 6) (
        part 0 (omega arith),
        (part 1 (omega arith), (part 2 (omega arith), (part 3 (omega arith), (part 4 (omega arith), (part 5 (omega arith), tt))))),
      )

-- by the cube's number
module _ (L : Lattice) (k : ℕ) where
  pub cube_triangles_by : triangles_by L.size (7 * sample_no L.size (cube_at L.size k)) (pattern_at L (cube_at L.size k))
      ≡ cube_triangles L k
  unfolding cube_triangles triangles_at
  cube_triangles_by = triangles_at_law L (cube_at L.size k)
