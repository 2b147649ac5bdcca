-- With the table of patterns the numbers are those in the slots of the edges of document 01's triangles. Assumes nothing.
use mathlib.Core.Path.{◌≡◌, sym, ap, ◌∙◌}
use mathlib.Core.List.{List, map, map-map}
use Prim.Native.Nat.{ℕ, ◌+◌, ◌*◌, ◌<◌}
use native.Mathlib.Omega.{arith}
use lib.ListN.{length, get_or}
use Rattle.lists.specs.Lists.{range, each}
use Rattle.lists.proofs.Runs.{along_list}
use Rattle.paper.specs.declared.Place.{Place}
use Rattle.paper.specs.Lattice.{Lattice, sample_no, cube_no, cube_at}
use Rattle.paper.specs.Sheet.{corners3, cube_triangles}
use Rattle.paper.specs.Within.{CubeIn}
use Rattle.paper.proofs.Numbers.{cube_place}
use Rattle.sides.specs.Pattern.{pattern_at}
use Rattle.rows.specs.Rows.{HasRows, row_no, quad_at, pattern_in}
use Rattle.rows.proofs.Cubes.{pattern_is}
use Rattle.patterns.specs.Table.{steps_by, Tabled}
use Rattle.patterns.proofs.Laws.{along_same, cube_steps}
use Rattle.tiles.specs.Tiles.{Source, edge_in, tile_of}

-- by the table
tile_is : (f : ℕ → List ℕ) (S : Source) (m base : ℕ) → Tabled f 256 S.table S.counts → m < 256
    → tile_of S m base ≡ map (λ e. get_or S.slots (base + e) 0) (f m)
unfolding tile_of
tile_is f S m base T h =
    let g : ℕ → ℕ = λ e. get_or S.slots (base + e) 0 in
    let l = f m in
    ap (λ (n : ℕ). map (λ i. get_or S.slots (edge_in S m base i) 0) (range 0 n)) (T.count m h)
    ∙ (along_same (λ i. get_or S.slots (edge_in S m base i) 0) (λ i. g (get_or l i 0)) 0 (length l) (λ i k. ap g (T.at m i h (omega arith)))
    ∙ (sym (map-map g (λ i. get_or l i 0) (range 0 (length l))) ∙ ap (map g) (along_list l 0)))

-- of the cube at p
pub cube_tile : (L : Lattice) (rows : List ℕ) → HasRows L rows → (p : Place) → CubeIn L.size p → (S : Source)
    → Tabled (steps_by L.size) 256 S.table S.counts
    → let m = pattern_in (quad_at rows L.size.ny (row_no L.size p)) p.x in
    m < 256 → tile_of S m (7 * sample_no L.size p) ≡ map (λ e. get_or S.slots e 0) (each corners3 (cube_triangles L (cube_no L.size p)))
cube_tile L rows H p h S T l =
    let z = L.size in
    let m = pattern_in (quad_at rows z.ny (row_no z p)) p.x in
    let k = cube_no z p in
    let at : cube_at z k ≡ p = cube_place z p (omega (arith, h.x)) (omega (arith, h.y)) in
    let b = 7 * sample_no z p in
    let steps : map (λ e. b + e) (steps_by z m) ≡ each corners3 (cube_triangles L k) =
    ap (λ (m : ℕ). map (λ e. b + e) (steps_by z m)) (pattern_is L rows H p h)
    ∙ (sym (ap (λ (q : Place). map (λ e. 7 * sample_no z q + e) (steps_by z (pattern_at L q))) at) ∙ cube_steps L k) in
    tile_is (steps_by z) S m b T l
    ∙ (sym (map-map (λ e. get_or S.slots e 0) (λ e. b + e) (steps_by z m)) ∙ ap (map (λ e. get_or S.slots e 0)) steps)
