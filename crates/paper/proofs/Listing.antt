-- The lists of a sheet, of any cut: the vertices' edges rise, are those of the visited cubes and no others, and each has a vertex within
-- the lattice; triangles name vertices by their places; the counts are the lengths. Assumes nothing.
use mathlib.Core.Path.{◌≡◌, refl, sym, ap, subst, ◌∙◌}
use mathlib.Core.Bool.{Bool, true, false, cond, ◌&&◌}
use mathlib.Core.List.{List, [], ◌∷◌, map}
use Prim.Native.Nat.{ℕ, ◌-◌, ◌*◌, ◌<◌}
use native.Mathlib.Omega.{arith}
use lib.IntN.{ℤ}
use lib.Dec.{T}
use lib.ListN.{length, get_or}
use Rattle.lists.specs.Lists.{range, keep, each, is_in}
use Rattle.lists.proofs.Member.{and_both, and_left, and_right, and3, in_keep, in_range, range_in}
use Rattle.lists.proofs.Every.{All, all_test, all_weak, all_map, all_each, all_in, in_all, each_sub, pick_in, each_length, each_map}
use Rattle.lists.proofs.Rising.{Rising, keep_rising, rank_lt}
use Rattle.lists.proofs.Runs.{rank_place}
use Rattle.lists.proofs.Closure.{bool_same}
use Rattle.lists.proofs.Counts.{Unique, rising_unique}
use Rattle.paper.specs.declared.Place.{Place}
use Rattle.paper.specs.declared.Rule.{Rule}
use Rattle.paper.specs.Lattice.{Lattice, air_at, corner, cubes, cube_at, visited}
use Rattle.paper.specs.Tables.{Tet, Tri, ends, tri, tets, rows, tet_edges}
use Rattle.paper.specs.Sheet.{Cut, Sheet, tetrahedra, edge_numbers, edge_no, first_end, second_end, split, cube_edges}
use Rattle.paper.specs.Sheet.{vertex_edges, record_at, vertex_record, row_at, tet_edge, tri_edges, triangles_at}
use Rattle.paper.specs.Sheet.{cube_triangles, numbered, sheet_by, sheet_of, vertex_words, corners3, triangle_words}
use Rattle.paper.specs.Within.{Sized, Below}
use Rattle.paper.proofs.Visits.{visited_lt}
use Rattle.paper.proofs.Tables.{differ, differs, row_differs}
use Rattle.paper.proofs.Edges.{Standing, cube_edges_stand, cube_edges_lt}
use Rattle.paper.proofs.Crossing.{Positioned, positioned}

-- a triangle's three edges are in a list
pub record Among (M : List ℕ) (t : Tri) : Type 0 where
  pub a : T (is_in M t.a)
  pub b : T (is_in M t.b)
  pub c : T (is_in M t.c)

among_weak : (M N : List ℕ) → ((k : ℕ) → T (is_in M k) → T (is_in N k)) → (t : Tri) → Among M t → Among N t
among_weak M N f t h = record { a = f t.a h.a; b = f t.b h.b; c = f t.c h.c }

-- a cut is sound: its edges are edge numbers and stand between a solid and an air sample, and its triangles have edges of their cube
pub record Sound (C : Cut) : Type 0 where
  pub numbers : (L : Lattice) → Sized L.size → (k : ℕ) → k < cubes L.size → All (λ e. e < edge_numbers L.size) (C.edges L k)
  pub stand : (L : Lattice) → Sized L.size → (k : ℕ) → k < cubes L.size → All (Standing L) (C.edges L k)
  pub among : (L : Lattice) (k : ℕ) → All (Among (C.edges L k)) (C.triangles L k)

-- a triangle whose corners are named otherwise
unfoldable pub named : (ℕ → ℕ) → Tri → Tri
named f t = tri (f t.a) (f t.b) (f t.c)

-- ── any cut ──

module _ (C : Cut) (L : Lattice) where
  -- "Vertices are listed by rising edge number"
  pub edges_rising : (ks : List ℕ) → Rising 0 (vertex_edges C L ks)
  unfolding vertex_edges
  edges_rising ks = keep_rising (is_in (each (C.edges L) ks)) 0 (edge_numbers L.size)

  -- each is the number of an edge of the lattice
  pub edges_lt : (ks : List ℕ) → All (λ e. e < edge_numbers L.size) (vertex_edges C L ks)
  unfolding vertex_edges
  edges_lt ks =
      let M = each (C.edges L) ks in
      let n = edge_numbers L.size in
      in_all (λ e. e < n) (keep (is_in M) (range 0 n))
      (λ e t. omega (arith, range_in 0 n e (and_left (is_in (range 0 n) e) (is_in M e) (subst T (in_keep (is_in M) (range 0 n) e) t))))

  module _ (sound : Sound C) (s : Sized L.size) (ks : List ℕ) (in_lattice_law : All (λ k. k < cubes L.size) ks) where
    abbrev M : List ℕ
    M = each (C.edges L) ks

    marked_lt : All (λ e. e < edge_numbers L.size) M
    marked_lt =
        all_each (λ e. e < edge_numbers L.size) (C.edges L) ks
        (all_weak (λ k. k < cubes L.size) _ (λ k h. sound.numbers L s k h) ks in_lattice_law)

    -- an edge has a vertex exactly when it is one of the cubes' own
    pub edges_exactly : (e : ℕ) → is_in (vertex_edges C L ks) e ≡ is_in M e
    unfolding vertex_edges
    edges_exactly e =
        let n = edge_numbers L.size in
        in_keep (is_in M) (range 0 n) e
        ∙ bool_same (is_in (range 0 n) e && is_in M e) (is_in M e) (and_right (is_in (range 0 n) e) (is_in M e))
        (λ t. and_both (is_in (range 0 n) e) (is_in M e)
        (in_range 0 n e (omega arith) (omega (arith, all_in (λ e. e < n) M marked_lt e t))) t)

    -- and such an edge stands between a solid and an air sample of the lattice
    pub edges_stand : All (Standing L) (vertex_edges C L ks)
    edges_stand =
        in_all (Standing L) (vertex_edges C L ks)
        (λ e t.
        all_in (Standing L) M
        (all_each (Standing L) (C.edges L) ks (all_weak (λ k. k < cubes L.size) _ (λ k h. sound.stand L s k h) ks in_lattice_law)) e
        (subst T (edges_exactly e) t))

    -- every edge of the triangles has a vertex
    pub edges_among : All (Among (vertex_edges C L ks)) (each (C.triangles L) ks)
    edges_among =
        all_weak (Among M) (Among (vertex_edges C L ks))
        (among_weak M (vertex_edges C L ks) (λ e t. subst T (sym (edges_exactly e)) t)) (each (C.triangles L) ks)
        (each_sub (Among M) M (C.triangles L) (C.edges L)
        (λ k f. all_weak (Among (C.edges L k)) (Among M) (among_weak (C.edges L k) M f) (C.triangles L k) (sound.among L k))
        ks (λ e h. h))

pub visits_lt : (L : Lattice) (start : ℕ) → All (λ k. k < cubes L.size) (visited L start)
visits_lt L start = in_all (λ k. k < cubes L.size) (visited L start) (visited_lt L start)

-- the sheet of a cut
module _ (C : Cut) (sound : Sound C) (L : Lattice) (s : Sized L.size) (start : ℕ) where
  abbrev es : List ℕ
  es = vertex_edges C L (visited L start)

  abbrev ts : List Tri
  ts = each (C.triangles L) (visited L start)

  pub triangles_among : All (Among es) ts
  triangles_among = edges_among C L sound s (visited L start) (visits_lt L start)

  -- each vertex stands at 0 to 4,128,768 on each axis
  pub vertices_positioned : (rule : Rule) → All (Positioned rule L) es
  vertices_positioned rule =
      all_weak (Standing L) (Positioned rule L) (positioned rule L s) es (edges_stand C L sound s (visited L start) (visits_lt L start))

  -- every index of a triangle is below the number of vertices
  pub numbers_below : All (Below (length es)) (map (numbered es) ts)
  unfolding numbered
  numbers_below =
      all_map (Below (length es)) (numbered es) ts
      (all_weak (Among es) (λ t. Below (length es) (numbered es t))
      (λ t h. record { a = rank_lt es t.a h.a; b = rank_lt es t.b h.b; c = rank_lt es t.c h.c })
      ts triangles_among)

  -- and the vertices that it names are those of its edges
  pub numbers_name : map (named (λ i. get_or es i 0)) (map (numbered es) ts) ≡ ts
  unfolding numbered named
  numbers_name = go es (edges_rising C L (visited L start)) ts triangles_among
    where
      go : (es : List ℕ) → Rising 0 es → (ts : List Tri) → All (Among es) ts → map (named (λ i. get_or es i 0)) (map (numbered es) ts) ≡ ts
      go es r [] h = refl
      go es r (t ∷ ts) h =
          let a = rank_place es 0 0 t.a r h.0.a in
          let b = rank_place es 0 0 t.b r h.0.b in
          let c = rank_place es 0 0 t.c r h.0.c in
          λ i. tri (a i) (b i) (c i) ∷ go es r ts h.1 i

-- ── six tetrahedra to a cube ──

-- the test of `differ` at the sides of a tetrahedron's corners
abbrev differ_at : Lattice → Place → Tet → ℕ → Bool
differ_at L p t = differ (air_at L (corner p t.a)) (air_at L (corner p t.b)) (air_at L (corner p t.c)) (air_at L (corner p t.d))

abbrev own_edges : Lattice → Place → Tet → List ℕ
own_edges L p t = map (edge_no L.size p) (keep (split L p) (tet_edges t))

own_in : (L : Lattice) (p : Place) (t : Tet) (i : ℕ) → T (differ_at L p t i) → T (is_in (own_edges L p t) (tet_edge L.size p t i))
unfolding split tet_edges differ tet_edge
own_in L p t i h = pick_in (edge_no L.size p) (split L p) (tet_edges t) (ends 0 0) (i - 1) h

own_tri : (L : Lattice) (p : Place) (t : Tet) (M : List ℕ) → ((e : ℕ) → T (is_in (own_edges L p t) e) → T (is_in M e))
    → (r : Tri) → T (differ_at L p t r.a && differ_at L p t r.b && differ_at L p t r.c) → Among M (tri_edges L.size p t r)
unfolding tri_edges
own_tri L p t M s r g =
    let h = and3 (differ_at L p t r.a) (differ_at L p t r.b) (differ_at L p t r.c) g in
    let z = L.size in
    record {
      a = s (tet_edge z p t r.a) (own_in L p t r.a h.0);
      b = s (tet_edge z p t r.b) (own_in L p t r.b h.1);
      c = s (tet_edge z p t r.c) (own_in L p t r.c h.2);
    }

-- every edge of a cube's triangles is one of the cube's side-changing edges
cube_among : (L : Lattice) (k : ℕ) → All (Among (cube_edges L k)) (cube_triangles L k)
unfolding cube_edges cube_triangles triangles_at row_at differs
cube_among L k =
    let p = cube_at L.size k in
    let M = each (own_edges L p) tets in
    each_sub (Among M) M (λ t. map (tri_edges L.size p t) (get_or rows (row_at (air_at L) p t) [])) (own_edges L p)
    (λ t s.
    let a = air_at L (corner p t.a) in
    let b = air_at L (corner p t.b) in
    let c = air_at L (corner p t.c) in
    let d = air_at L (corner p t.d) in
    let l = get_or rows (row_at (air_at L) p t) [] in
    all_map (Among M) (tri_edges L.size p t) l
    (all_weak (λ r. T (differs a b c d r)) _ (λ r g. own_tri L p t M s r g) l (all_test (differs a b c d) l (row_differs a b c d))))
    tets (λ e h. h)

pub tetrahedra_sound : Sound tetrahedra
tetrahedra_sound = record { numbers = cube_edges_lt; stand = cube_edges_stand; among = cube_among }

-- ── document 01's sheet ──

-- its lists, by the cubes that are visited
pub record Parts (rule : Rule) (L : Lattice) (start : ℕ) (S : Sheet) : Type 0 where
  pub edges : S.edges ≡ vertex_edges tetrahedra L (visited L start)
  pub records : S.records ≡ map (vertex_record rule L) S.edges
  pub by_edge_law : S.by_edge ≡ each (cube_triangles L) (visited L start)
  pub triangles : S.triangles ≡ map (numbered S.edges) S.by_edge
  pub visits : S.visits ≡ length (visited L start)

pub parts : (rule : Rule) (L : Lattice) (start : ℕ) → Parts rule L start (sheet_of rule L start)
unfolding sheet_of sheet_by
parts rule L start = record { edges = refl; records = refl; by_edge_law = refl; triangles = refl; visits = refl }

-- each edge once
pub edges_unique : (rule : Rule) (L : Lattice) (start : ℕ) → Unique (sheet_of rule L start).edges
unfolding sheet_of sheet_by
edges_unique rule L start = rising_unique 0 (vertex_edges tetrahedra L (visited L start)) (edges_rising tetrahedra L (visited L start))

pub sheet_edges_lt : (rule : Rule) (L : Lattice) (start : ℕ) → All (λ e. e < edge_numbers L.size) (sheet_of rule L start).edges
unfolding sheet_of sheet_by
sheet_edges_lt rule L start = edges_lt tetrahedra L (visited L start)

module _ (rule : Rule) (L : Lattice) (s : Sized L.size) (start : ℕ) where
  -- its vertices are on the side-changing edges of the visited cubes
  pub sheet_edges : (e : ℕ) → is_in (sheet_of rule L start).edges e ≡ is_in (each (cube_edges L) (visited L start)) e
  unfolding sheet_of sheet_by
  sheet_edges e = edges_exactly tetrahedra L tetrahedra_sound s (visited L start) (visits_lt L start) e

  pub sheet_among : All (Among (sheet_of rule L start).edges) (sheet_of rule L start).by_edge
  unfolding sheet_of sheet_by
  sheet_among = triangles_among tetrahedra tetrahedra_sound L s start

  pub sheet_positioned : All (Positioned rule L) (sheet_of rule L start).edges
  unfolding sheet_of sheet_by
  sheet_positioned = vertices_positioned tetrahedra tetrahedra_sound L s start rule

  pub indices_below : All (Below (length (sheet_of rule L start).edges)) (sheet_of rule L start).triangles
  unfolding sheet_of sheet_by
  indices_below = numbers_below tetrahedra tetrahedra_sound L s start

  pub indices_name :
      map (named (λ i. get_or (sheet_of rule L start).edges i 0)) (sheet_of rule L start).triangles ≡ (sheet_of rule L start).by_edge
  unfolding sheet_of sheet_by
  indices_name = numbers_name tetrahedra tetrahedra_sound L s start

-- ── numbers ──

pub record_length_law : (rule : Rule) (L : Lattice) (e : ℕ) → length (vertex_record rule L e) ≡ 4
unfolding vertex_record record_at
record_length_law rule L e =
    let u = first_end L.size e in
    let v = second_end L.size e in
    go (air_at L u) (record_at rule L e v u) (record_at rule L e u v) refl refl
  where
    go : (b : Bool) (x y : List ℤ) → length x ≡ 4 → length y ≡ 4 → length (cond b x y) ≡ 4
    go true x y hx hy = hx
    go false x y hx hy = hy

-- the numbers of the records are those of the vertices, four each
pub vertex_words_law : (rule : Rule) (L : Lattice) (start : ℕ)
    → vertex_words (sheet_of rule L start) ≡ each (vertex_record rule L) (sheet_of rule L start).edges
unfolding vertex_words sheet_of sheet_by
vertex_words_law rule L start = each_map (λ r. r) (vertex_record rule L) (sheet_of rule L start).edges

pub vertex_words_length : (rule : Rule) (L : Lattice) (start : ℕ)
    → length (vertex_words (sheet_of rule L start)) ≡ 4 * length (sheet_of rule L start).edges
vertex_words_length rule L start =
    ap length (vertex_words_law rule L start) ∙ each_length (vertex_record rule L) 4 (record_length_law rule L) (sheet_of rule L start).edges

-- three a triangle
pub triangle_words_length : (S : Sheet) → length (triangle_words S) ≡ 3 * length S.triangles
unfolding triangle_words
triangle_words_length S = each_length corners3 3 (λ t. refl) S.triangles
