-- The numbers that are written row by row are those of the sheet's triangles. Assumes nothing.
use mathlib.Core.Path.{◌≡◌, refl, sym, ap, ◌∙◌}
use mathlib.Core.Bool.{Bool, cond, ◌&&◌}
use mathlib.Core.List.{List, [], ◌∷◌, ◌++◌, map}
use Prim.Native.Nat.{ℕ, zero, suc, ◌+◌, ◌-◌, ◌*◌, ◌<◌}
use native.Mathlib.Omega.{arith}
use lib.Dec.{T}
use lib.ListN.{length, get_or, length-map}
use Rattle.lists.specs.Lists.{range, each, is_in, rank}
use Rattle.lists.proofs.Member.{t_to_eq, range_in}
use Rattle.lists.proofs.Every.{all_weak, in_all, each_length, each_same, each_map, each_keep}
use Rattle.lists.proofs.Runs.{range_rows}
use Rattle.lists.proofs.Within.{map_each, each_each}
use Rattle.paper.specs.declared.Sizes.{Sizes}
use Rattle.paper.specs.declared.Place.{Place}
use Rattle.paper.specs.declared.Rule.{Rule}
use Rattle.paper.specs.Lattice.{Lattice, place, sample_no, cubes, cube_no, in_lattice, visited}
use Rattle.paper.specs.Tables.{Tri}
use Rattle.paper.specs.Sheet.{corners3, cube_triangles, numbered, sheet_of, triangle_words}
use Rattle.paper.specs.Within.{Sized, CubeIn}
use Rattle.paper.proofs.Visits.{lattice_in, visited_kept}
use Rattle.paper.proofs.Listing.{Among, parts, sheet_among}
use Rattle.bits.specs.Words.{bit}
use Rattle.rows.specs.declared.Quad.{Quad}
use Rattle.rows.specs.Rows.{HasRows, is_one_of, HasCubes, quad_at, pattern_in}
use Rattle.patterns.specs.Table.{steps_by, Tabled}
use Rattle.tiles.specs.Tiles.{Source, tile_of, tile_at, row_tiles, row_tiles_at, layer_tiles, tiles_by}
use Rattle.tiles.proofs.Laws.{pattern_lt}
use Rattle.tiles.proofs.Cubes.{cube_tile}

-- ── runs of runs ──

module _ {A : Type 0} (f : ℕ → List A) where
  moved_from : (a i n : ℕ) → each f (range (i + a) n) ≡ each (λ x. f (x + a)) (range i n)
  moved_from a i zero = refl
  moved_from a i (suc n) =
      let e : suc (i + a) ≡ suc i + a = omega arith in
      ap (λ (l : List A). f (i + a) ++ l) (ap (λ (b : ℕ). each f (range b n)) e ∙ moved_from a (suc i) n)

  -- along a run from a on
  each_moved : (a n : ℕ) → each f (range a n) ≡ each (λ x. f (x + a)) (range 0 n)
  each_moved a n = let e : a ≡ 0 + a = omega arith in ap (λ (b : ℕ). each f (range b n)) e ∙ moved_from a 0 n

  -- along n runs of w
  each_rows : (w n : ℕ) → each f (range 0 (w * n)) ≡ each (λ k. each (λ x. f (x + w * k)) (range 0 w)) (range 0 n)
  each_rows w n =
      let e : 0 ≡ w * 0 = omega arith in
      ap (λ (b : ℕ). each f (range b (w * n))) e
      ∙ (ap (each f) (range_rows w 0 n)
      ∙ (each_each f (λ k. range (w * k) w) (range 0 n)
      ∙ each_same (λ k. each f (range (w * k) w)) (λ k. each (λ x. f (x + w * k)) (range 0 w)) (range 0 n)
      (in_all _ (range 0 n) (λ k i. each_moved (w * k) w))))

-- the cubes by rising number: x within y within z
pub each_cube : {A : Type 0} (n : Sizes) (f : ℕ → List A)
    → each f (range 0 (cubes n))
    ≡ each (λ z. each (λ y. each (λ x. f (cube_no n (place x y z))) (range 0 (n.nx - 1))) (range 0 (n.ny - 1))) (range 0 (n.nz - 1))
unfolding cubes cube_no
each_cube n f =
    let w = n.nx - 1 in
    each_rows f w ((n.ny - 1) * (n.nz - 1)) ∙ each_rows (λ k. each (λ x. f (x + w * k)) (range 0 w)) (n.ny - 1) (n.nz - 1)

-- in a run from 0
below : (n k : ℕ) → T (is_in (range 0 n) k) → k < n
below n k t = omega (arith, range_in 0 n k t)

-- ── of the visited cubes ──

module _ (L : Lattice) (start : ℕ) (rows vis : List ℕ) (H : HasRows L rows) (C : HasCubes L.size (visited L start) vis) (S : Source)
    (tab : Tabled (steps_by L.size) 256 S.table S.counts) where
  abbrev slot : ℕ → ℕ
  slot e = get_or S.slots e 0

  -- the numbers of cube k
  abbrev tile : ℕ → List ℕ
  tile k = map slot (each corners3 (cube_triangles L k))

  place_is : (x y z : ℕ) → x < L.size.nx - 1 → y < L.size.ny - 1 → z < L.size.nz - 1
      → let r = y + L.size.ny * z in
      let k = cube_no L.size (place x y z) in
      tile_at S (quad_at rows L.size.ny r) (get_or vis r 0) (7 * (L.size.nx * r)) x ≡ cond (is_in (visited L start) k) (tile k) []
  unfolding tile_at sample_no is_one_of
  place_is x y z hx hy hz =
      let n = L.size in
      let p : Place = place x y z in
      let r = y + n.ny * z in
      let q : Quad = quad_at rows n.ny r in
      let k = cube_no n p in
      let h : CubeIn n p = record { x = omega arith; y = omega arith; z = omega arith } in
      let b : bit (get_or vis r 0) x ≡ is_in (visited L start) k =
      C.at y z x (omega arith) (omega arith)
      ∙ ap (λ (c : Bool). c && is_in (visited L start) k) (t_to_eq (in_lattice n p) (lattice_in n p h)) in
      let e : 7 * (n.nx * r) + 7 * x ≡ 7 * sample_no n p = omega arith in
      let t : tile_of S (pattern_in q x) (7 * (n.nx * r) + 7 * x) ≡ tile k =
      ap (tile_of S (pattern_in q x)) e ∙ cube_tile L rows H p h S tab (pattern_lt q x) in
      λ i. cond (b i) (t i) []

  tiles_visited : tiles_by S L.size rows vis ≡ each tile (visited L start)
  unfolding tiles_by layer_tiles row_tiles_at row_tiles
  tiles_visited =
      let n = L.size in
      let f : ℕ → List ℕ = λ k. cond (is_in (visited L start) k) (tile k) [] in
      each_same _ _ (range 0 (n.nz - 1))
      (in_all _ (range 0 (n.nz - 1))
      (λ z i.
      each_same _ _ (range 0 (n.ny - 1))
      (in_all _ (range 0 (n.ny - 1))
      (λ y j.
      each_same _ _ (range 0 (n.nx - 1))
      (in_all _ (range 0 (n.nx - 1))
      (λ x k. place_is x y z (below (n.nx - 1) x k) (below (n.ny - 1) y j) (below (n.nz - 1) z i)))))))
      ∙ (sym (each_cube n f)
      ∙ (sym (each_keep tile (is_in (visited L start)) (range 0 (cubes n))) ∙ ap (each tile) (sym (visited_kept L start))))

  -- the numbers in the slots of the edges of the sheet's triangles
  tiles_edges : (rule : Rule) → tiles_by S L.size rows vis ≡ map slot (each corners3 (sheet_of rule L start).by_edge)
  tiles_edges rule =
      tiles_visited
      ∙ (sym (map_each slot (λ k. each corners3 (cube_triangles L k)) (visited L start))
      ∙ ap (map slot)
      (sym (each_each corners3 (cube_triangles L) (visited L start)) ∙ ap (each corners3) (sym (parts rule L start).by_edge_law)))

  -- three to a triangle
  pub tiles_length : (rule : Rule) → length (tiles_by S L.size rows vis) ≡ 3 * length (sheet_of rule L start).triangles
  tiles_length rule =
      let ts = (sheet_of rule L start).by_edge in
      ap length (tiles_edges rule)
      ∙ (length-map (each corners3 ts) slot
      ∙ (each_length corners3 3 (λ t. refl) ts
      ∙ ap (λ (n : ℕ). 3 * n) (sym (ap length (parts rule L start).triangles ∙ length-map ts (numbered (sheet_of rule L start).edges)))))

  -- where the slot of each edge of the sheet has the edge's rank, they are the sheet's triangles
  pub tiles_by_law : (rule : Rule) → Sized L.size
      → ((e : ℕ) → T (is_in (sheet_of rule L start).edges e) → get_or S.slots e 0 ≡ rank (sheet_of rule L start).edges e)
      → tiles_by S L.size rows vis ≡ triangle_words (sheet_of rule L start)
  unfolding triangle_words numbered
  tiles_by_law rule s h =
      let es = (sheet_of rule L start).edges in
      let ts = (sheet_of rule L start).by_edge in
      let of : (t : Tri) → Among es t → map slot (corners3 t) ≡ corners3 (numbered es t) =
      λ t a i. h t.a a.a i ∷ h t.b a.b i ∷ h t.c a.c i ∷ [] in
      tiles_edges rule
      ∙ (map_each slot corners3 ts
      ∙ (each_same (λ t. map slot (corners3 t)) (λ t. corners3 (numbered es t)) ts
      (all_weak (Among es) _ of ts (sheet_among rule L s start))
      ∙ (sym (each_map corners3 (numbered es) ts) ∙ ap (each corners3) (sym (parts rule L start).triangles))))
