-- The totals of all rows are the numbers of vertices and triangles of document 01's sheet. Assumes nothing.
use mathlib.Core.Path.{◌≡◌, sym, ap, subst, ◌∙◌}
use mathlib.Core.Bool.{Bool, ◌&&◌, and-false}
use mathlib.Core.List.{List}
use Prim.Native.Nat.{ℕ, ◌+◌, ◌-◌, ◌*◌, ◌≤◌, ◌<◌}
use native.Mathlib.Omega.{arith}
use native.Mathlib.Nat.{mul_assoc}
use lib.Dec.{T, ltb}
use lib.ListN.{length, get_or, length-map}
use borrow.Author.Tests.{lt-ltb, le-ltb, le-leb}
use Rattle.lists.specs.Lists.{range, count, each, is_in}
use Rattle.lists.proofs.Member.{t_to_eq, and_left}
use Rattle.lists.proofs.Within.{t_to_false}
use Rattle.paper.specs.declared.Sizes.{Sizes}
use Rattle.paper.specs.declared.Rule.{Rule}
use Rattle.paper.specs.Lattice.{Lattice, place, samples, sample_no, cubes, cube_no, in_lattice, visited}
use Rattle.paper.specs.Sheet.{weight, cube_edges, cube_triangles, vertex_edges, numbered, sheet_of}
use Rattle.paper.specs.Within.{Sized}
use Rattle.paper.proofs.Visits.{in_lattice_law, lattice_in, visited_kept}
use Rattle.paper.proofs.Listing.{parts, visits_lt}
use Rattle.bits.specs.Words.{bit, total}
use Rattle.rows.specs.Rows.{HasRows, HasCubes, is_one_of, quad_at}
use Rattle.kinds.specs.Kinds.{kinds_by, row_before, sides_around, cubes_around}
use Rattle.kinds.specs.Triangles.{row_total}
use Rattle.kinds.proofs.Triangles.{total_ext}
use Rattle.kinds.proofs.KindRows.{cubes_around_law, sides_around_law}
use Rattle.kinds.proofs.Vertices.{row_vertices}
use Rattle.kinds.proofs.TriangleRows.{row_triangles_law}
use Rattle.tally.specs.Tally.{vertices_by, triangles_of, triangles_by, layer_vertices, layer_triangles}
use Rattle.tally.proofs.Totals.{total_zero, total_short, total_rows, count_rows, kept_total}

-- ── rows that are no rows of cubes ──

pub none_past_y : (n : Sizes) (rows : List ℕ) (v z y : ℕ) → n.ny ≤ y + 1 → triangles_of n rows v z y ≡ 0
unfolding triangles_of
none_past_y n rows v z y h =
    ap (λ (b : Bool). weight (b && ltb (z + 1) n.nz) (row_total (quad_at rows n.ny (y + n.ny * z)) v)) (le-ltb (y + 1) n.ny h)

pub none_past_z : (n : Sizes) (rows : List ℕ) (v z y : ℕ) → n.nz ≤ z + 1 → triangles_of n rows v z y ≡ 0
unfolding triangles_of
none_past_z n rows v z y h =
    let r = row_total (quad_at rows n.ny (y + n.ny * z)) v in
    ap (λ (b : Bool). weight (ltb (y + 1) n.ny && b) r) (le-ltb (z + 1) n.nz h)
    ∙ ap (λ (b : Bool). weight b r) (and-false (ltb (y + 1) n.ny))

-- and one that is
pub row_of_cubes : (n : Sizes) (rows : List ℕ) (v z y : ℕ) → y + 1 < n.ny → z + 1 < n.nz
    → triangles_of n rows v z y ≡ row_total (quad_at rows n.ny (y + n.ny * z)) v
unfolding triangles_of
row_of_cubes n rows v z y hy hz =
    let a = lt-ltb (y + 1) n.ny hy in
    let b = lt-ltb (z + 1) n.nz hz in
    λ i. weight (a i && b i) (row_total (quad_at rows n.ny (y + n.ny * z)) v)

-- the word of the cubes of a row
here : (n : Sizes) (vis : List ℕ) (y z : ℕ) → (cubes_around n vis y z).a ≡ get_or vis (y + n.ny * z) 0
unfolding cubes_around row_before
here n vis y z =
    let a : y - 0 ≡ y = omega arith in
    let b : z - 0 ≡ z = omega arith in
    rw (le-leb 0 y (omega arith), le-leb 0 z (omega arith)) (λ i. get_or vis (a i + n.ny * b i) 0)

module _ (L : Lattice) (sized : Sized L.size) (rows vis : List ℕ) (start : ℕ) (sides : HasRows L rows)
    (visits : HasCubes L.size (visited L start) vis) where
  abbrev n : Sizes
  n = L.size

  abbrev vs : List ℕ
  vs = visited L start

  -- ── vertices ──

  abbrev has : ℕ → Bool
  has = is_in (each (cube_edges L) vs)

  -- those of a row
  in_row : (z y : ℕ) → z < n.nz → y < n.ny
      → vertices_by n rows vis z y ≡ count has (range (7 * n.nx * (y + n.ny * z)) (7 * n.nx))
  unfolding vertices_by kinds_by sample_no
  in_row z y hz hy =
      let e : 7 * (0 + n.nx * (y + n.ny * z)) ≡ 7 * n.nx * (y + n.ny * z) = omega (arith, mul_assoc 7 n.nx (y + n.ny * z)) in
      row_vertices L sized vs (visits_lt L start) y z hy hz (sides_around n rows y z) (cubes_around n vis y z)
      (sides_around_law L rows y z sides hy hz) (cubes_around_law n vs vis y z visits hy hz)
      ∙ ap (λ (a : ℕ). count has (range a (7 * n.nx))) e

  pub vertices_are : (rule : Rule) → total (layer_vertices n rows vis) n.nz ≡ length (sheet_of rule L start).edges
  unfolding layer_vertices vertex_edges samples
  vertices_are rule =
      let f : ℕ → ℕ = λ k. count has (range (7 * n.nx * k) (7 * n.nx)) in
      let e : 7 * n.nx * (n.ny * n.nz) ≡ 7 * (n.nx * (n.ny * n.nz)) = mul_assoc 7 n.nx (n.ny * n.nz) in
      total_ext (layer_vertices n rows vis) (λ z. total (λ y. f (y + n.ny * z)) n.ny) n.nz
      (λ z hz. total_ext (vertices_by n rows vis z) (λ y. f (y + n.ny * z)) n.ny (λ y hy. in_row z y hz hy))
      ∙ (sym (total_rows f n.ny n.nz)
      ∙ (sym (count_rows has (7 * n.nx) (n.ny * n.nz))
      ∙ (ap (λ (m : ℕ). count has (range 0 m)) e ∙ sym (ap length (parts rule L start).edges))))

  -- ── triangles ──

  -- those of a cube, where it is visited
  abbrev made : ℕ → ℕ
  made k = weight (is_in vs k) (length (cube_triangles L k))

  -- those of a row
  abbrev along : ℕ → ℕ → ℕ
  along z y = total (λ x. made (x + (n.nx - 1) * (y + (n.ny - 1) * z))) (n.nx - 1)

  bits_are : (z y x : ℕ) → z < n.nz → y < n.ny → bit (cubes_around n vis y z).a x ≡ is_one_of n vs (place x y z)
  bits_are z y x hz hy = ap (λ (w : ℕ). bit w x) (here n vis y z) ∙ visits.at y z x hy hz

  bit_in : (z y x : ℕ) → z < n.nz → y < n.ny → T (bit (cubes_around n vis y z).a x) → x + 1 < n.nx
  unfolding is_one_of
  bit_in z y x hz hy t =
      let p = place x y z in
      (in_lattice_law n p (and_left (in_lattice n p) (is_in vs (cube_no n p)) (subst T (bits_are z y x hz hy) t))).x

  cube_bit_law : (z y x : ℕ) → z + 1 < n.nz → y + 1 < n.ny → x + 1 < n.nx
      → bit (cubes_around n vis y z).a x ≡ is_in vs (cube_no n (place x y z))
  unfolding is_one_of
  cube_bit_law z y x hz hy hx =
      let p = place x y z in
      bits_are z y x (omega arith) (omega arith)
      ∙ ap (λ (b : Bool). b && is_in vs (cube_no n p)) (t_to_eq (in_lattice n p) (lattice_in n p (record { x = hx; y = hy; z = hz })))

  cubes_of : (z y : ℕ) → z + 1 < n.nz → y + 1 < n.ny → triangles_by n rows vis z y ≡ along z y
  unfolding triangles_by cube_no
  cubes_of z y hz hy =
      let v = (cubes_around n vis y z).a in
      let g : ℕ → ℕ = λ x. length (cube_triangles L (cube_no n (place x y z))) in
      let lz : z < n.nz = omega arith in
      let ly : y < n.ny = omega arith in
      row_of_cubes n rows v z y hy hz
      ∙ (row_triangles_law L rows y z v sides hy hz (λ x t. bit_in z y x lz ly t)
      ∙ (total_short (λ x. weight (bit v x) (g x)) (n.nx - 1) 64 (omega (arith, sized.x_high))
      (λ x l k. ap (λ (b : Bool). weight b (g x)) (t_to_false (bit v x) (λ t. omega (arith, bit_in z y x lz ly t))))
      ∙ total_ext (λ x. weight (bit v x) (g x)) (λ x. made (x + (n.nx - 1) * (y + (n.ny - 1) * z))) (n.nx - 1)
      (λ x l. ap (λ (b : Bool). weight b (g x)) (cube_bit_law z y x hz hy (omega arith)))))

  -- those of a layer
  in_layer : (z : ℕ) → z + 1 < n.nz → layer_triangles n rows vis z ≡ total (along z) (n.ny - 1)
  unfolding layer_triangles triangles_by
  in_layer z hz =
      total_short (triangles_by n rows vis z) (n.ny - 1) n.ny (omega arith)
      (λ y l k. none_past_y n rows (cubes_around n vis y z).a z y (omega arith))
      ∙ total_ext (triangles_by n rows vis z) (along z) (n.ny - 1) (λ y l. cubes_of z y hz (omega arith))

  last_layer : (z : ℕ) → n.nz ≤ z + 1 → layer_triangles n rows vis z ≡ 0
  unfolding layer_triangles triangles_by
  last_layer z h = total_zero (triangles_by n rows vis z) n.ny (λ y l. none_past_z n rows (cubes_around n vis y z).a z y h)

  pub triangles_are : (rule : Rule) → total (layer_triangles n rows vis) n.nz ≡ length (sheet_of rule L start).triangles
  unfolding cubes
  triangles_are rule =
      let P = parts rule L start in
      let w = n.nx - 1 in
      let h = n.ny - 1 in
      let d = n.nz - 1 in
      let f : ℕ → ℕ = λ k. total (λ x. made (x + w * k)) w in
      total_short (layer_triangles n rows vis) d n.nz (omega arith) (λ z l k. last_layer z (omega arith))
      ∙ (total_ext (layer_triangles n rows vis) (λ z. total (λ y. f (y + h * z)) h) d (λ z l. in_layer z (omega arith))
      ∙ (sym (total_rows f h d)
      ∙ (sym (total_rows made w (h * d))
      ∙ (sym (kept_total (is_in vs) (cube_triangles L) (w * (h * d)))
      ∙ (sym (ap (λ (l : List ℕ). length (each (cube_triangles L) l)) (visited_kept L start))
      ∙ (sym (ap length P.by_edge_law)
      ∙ (sym (length-map (sheet_of rule L start).by_edge (numbered (sheet_of rule L start).edges)) ∙ sym (ap length P.triangles))))))))
