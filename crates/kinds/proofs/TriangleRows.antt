-- The triangles counted in a row are those of the lattice's cubes. Assumes nothing.
use mathlib.Core.Path.{◌≡◌, refl, sym, ap, ap₂, ◌∙◌}
use mathlib.Core.Bool.{Bool, true, false, ◌&&◌}
use mathlib.Core.List.{List, [], ◌∷◌, map}
use Prim.Native.Nat.{ℕ, ◌+◌, ◌*◌, ◌<◌}
use native.Mathlib.Omega.{arith}
use lib.Dec.{T, ltb, ltb→lt}
use lib.ListN.{length, get_or, length-append, length-map}
use Rattle.lists.specs.Lists.{all, each}
use Rattle.lists.proofs.Member.{and_left, and_right}
use Rattle.lists.proofs.Every.{All, all_test}
use Rattle.paper.specs.declared.Place.{Place}
use Rattle.paper.specs.Lattice.{Lattice, place, air_at, cube_no}
use Rattle.paper.specs.Tables.{Tet, tets, rows}
use Rattle.paper.specs.Sheet.{weight, row_of, row_at, tri_edges, triangles_at, cube_triangles}
use Rattle.paper.specs.Within.{CubeIn}
use Rattle.paper.proofs.Numbers.{cube_place}
use Rattle.rows.specs.declared.Quad.{Quad}
use Rattle.bits.specs.Words.{bit, total}
use Rattle.rows.specs.Rows.{HasRows, quad_at}
use Rattle.rows.proofs.Cubes.{corner_is}
use Rattle.kinds.specs.Triangles.{tet_count, tet_in, sum_of, row_total}
use Rattle.kinds.proofs.Triangles.{total_ext}

-- the corners of the tetrahedra are a cube's
in_eight : Tet → Bool
in_eight t = ltb t.a 8 && (ltb t.b 8 && (ltb t.c 8 && ltb t.d 8))

all_eight : T (all in_eight tets)
unfolding in_eight tets
all_eight = tt

module _ (L : Lattice) (words : List ℕ) (h : HasRows L words) (p : Place) (i : CubeIn L.size p) where
  abbrev around : Quad
  around = quad_at words L.size.ny (p.y + L.size.ny * p.z)

  tet_is : (t : Tet) → T (in_eight t) → tet_in around p.x t ≡ length (map (tri_edges L.size p t) (get_or rows (row_at (air_at L) p t) []))
  unfolding tet_in tet_count in_eight row_at
  tet_is t u =
      let b = ltb t.b 8 in
      let c = ltb t.c 8 in
      let d = ltb t.d 8 in
      let u₁ = and_right (ltb t.a 8) (b && (c && d)) u in
      let u₂ = and_right b (c && d) u₁ in
      let ea = corner_is L words h p i t.a (ltb→lt t.a 8 (and_left (ltb t.a 8) (b && (c && d)) u)) in
      let eb = corner_is L words h p i t.b (ltb→lt t.b 8 (and_left b (c && d) u₁)) in
      let ec = corner_is L words h p i t.c (ltb→lt t.c 8 (and_left c d u₂)) in
      let ed = corner_is L words h p i t.d (ltb→lt t.d 8 (and_right c d u₂)) in
      (λ k. length (get_or rows (row_of (ea k) (eb k) (ec k) (ed k)) []))
      ∙ sym (length-map (get_or rows (row_at (air_at L) p t) []) (tri_edges L.size p t))

  tets_are : (ts : List Tet) → All (λ t. T (in_eight t)) ts
      → sum_of (tet_in around p.x) ts ≡ length (each (λ t. map (tri_edges L.size p t) (get_or rows (row_at (air_at L) p t) [])) ts)
  tets_are [] u = refl
  tets_are (t ∷ ts) u =
      ap₂ (λ (m n : ℕ). m + n) (tet_is t u.0) (tets_are ts u.1)
      ∙ sym (length-append (map (tri_edges L.size p t) (get_or rows (row_at (air_at L) p t) []))
      (each (λ t. map (tri_edges L.size p t) (get_or rows (row_at (air_at L) p t) [])) ts))

  pub triangles_are : sum_of (tet_in around p.x) tets ≡ length (cube_triangles L (cube_no L.size p))
  unfolding cube_triangles triangles_at
  triangles_are =
      tets_are tets (all_test in_eight tets all_eight)
      ∙ ap (λ (q : Place). length (each (λ t. map (tri_edges L.size q t) (get_or rows (row_at (air_at L) q t) [])) tets))
      (sym (cube_place L.size p (omega (arith, i.x)) (omega (arith, i.y))))

weight_when : (b : Bool) (m n : ℕ) → (T b → m ≡ n) → weight b m ≡ weight b n
weight_when true m n h = h tt
weight_when false m n h = refl

-- of a row of cubes of the lattice
pub row_triangles_law : (L : Lattice) (words : List ℕ) (y z v : ℕ) → HasRows L words → y + 1 < L.size.ny → z + 1 < L.size.nz
    → ((x : ℕ) → T (bit v x) → x + 1 < L.size.nx)
    → row_total (quad_at words L.size.ny (y + L.size.ny * z)) v
    ≡ total (λ x. weight (bit v x) (length (cube_triangles L (cube_no L.size (place x y z))))) 64
unfolding row_total
row_triangles_law L words y z v h hy hz hx =
    total_ext (λ x. weight (bit v x) (sum_of (tet_in (quad_at words L.size.ny (y + L.size.ny * z)) x) tets))
    (λ x. weight (bit v x) (length (cube_triangles L (cube_no L.size (place x y z))))) 64
    (λ x l. weight_when (bit v x) _ _ (λ t. triangles_are L words h (place x y z) (record { x = hx x t; y = hy; z = hz })))
