-- A cube's edges as numbers of the lattice: the number gives the anchor and the kind back, a vertex record reads the edge's own
-- ends, and the three edges of a triangle give its cube. Assumes nothing.
use mathlib.Core.Path.{◌≡◌, subst, refl, ap, ◌∙◌}
use mathlib.Core.Logic.{◌⊎◌, inl, inr}
use mathlib.Core.Bool.{Bool, true, false, cond, xor, ◌&&◌, ◌||◌}
use Prim.Native.Nat.{ℕ, ◌+◌, ◌*◌, ◌/◌, ◌%◌, min, ◌<◌}
use native.Mathlib.Omega.{arith}
use lib.Dec.{T, eqb, ltb, eqb→eq, ltb→lt}
use lib.ListN.{get_or}
use Rattle.lists.proofs.Member.{or_cases, and_left, and_right, and3, xor_turn}
use Rattle.lists.proofs.Every.{All}
use Rattle.paper.specs.declared.Sizes.{Sizes}
use Rattle.paper.specs.declared.Place.{Place}
use Rattle.paper.specs.declared.Rule.{Rule}
use Rattle.paper.specs.Lattice.{Lattice, place, sample_no, sample_at, air_at, corner, cubes, cube_at}
use Rattle.paper.specs.Tables.{Ends, Tet, Tri, ends, kinds, low, kind_of}
use Rattle.paper.specs.Sheet.{edge_numbers, edge_no, anchor_of, kind_in, ends_of, first_end, second_end, split}
use Rattle.paper.specs.Sheet.{cube_edges, record_at, vertex_record, tet_edge, tri_edges, cube_triangles}
use Rattle.paper.specs.Within.{Sized, SampleIn, CubeIn, cube_of}
use Rattle.paper.proofs.Numbers.{sample_lt, sample_place, cube_inside, corner_inside}
use Rattle.paper.proofs.Tables.{edge_of, stands, in_cube, kind_has, kinds_found, kind_lt, reaches_low, reaching, on_cube, on_cube_edges}

pub both_in : (e : Ends) → T (in_cube e) → (e.a < 8) × (e.b < 8)
unfolding in_cube
both_in e h = (ltb→lt e.a 8 (and_left (ltb e.a 8) (ltb e.b 8) h), ltb→lt e.b 8 (and_right (ltb e.a 8) (ltb e.b 8) h))

pub in_cube_law : (e : Ends) → T (kind_has e) → T (in_cube e)
unfolding kind_has
in_cube_law e h = and_left (in_cube e) _ h

pub low_lt : (e : Ends) → T (in_cube e) → low e < 8
unfolding low
low_lt e h = let g = both_in e h in omega arith

module _ (z : Sizes) (p : Place) (hp : CubeIn z p) (e : Ends) (he : T (in_cube e)) where
  -- the number of an edge of a cube of the lattice gives its anchor and its kind, and is one of 7 · samples
  pub edge_anchor : anchor_of z (edge_no z p e) ≡ corner p (low e)
  unfolding anchor_of edge_no
  edge_anchor =
      let q = corner p (low e) in
      let i = corner_inside z p hp (low e) (low_lt e he) in
      let d : (7 * sample_no z q + kind_of e) / 7 ≡ sample_no z q = omega (arith, kind_lt e) in
      ap (sample_at z) d ∙ sample_place z q i.x i.y

  pub edge_kind : edge_no z p e % 7 ≡ kind_of e
  unfolding edge_no
  edge_kind = omega (arith, kind_lt e)

  pub edge_lt : edge_no z p e < edge_numbers z
  unfolding edge_no
  edge_lt = omega (arith, kind_lt e, sample_lt z (corner p (low e)) (corner_inside z p hp (low e) (low_lt e he)))

-- ── the ends of an edge's number ──

stand_corner : (p : Place) (o c e : ℕ) → T (stands o c e) → corner (corner p o) c ≡ corner p e
unfolding corner
stand_corner p o c e h =
    let g = and3 (eqb (o % 2 + c % 2) (e % 2)) (eqb (o / 2 % 2 + c / 2 % 2) (e / 2 % 2)) (eqb (o / 4 + c / 4) (e / 4)) h in
    let gx : p.x + o % 2 + c % 2 ≡ p.x + e % 2 = omega (arith, eqb→eq (o % 2 + c % 2) (e % 2) g.0) in
    let gy : p.y + o / 2 % 2 + c / 2 % 2 ≡ p.y + e / 2 % 2 = omega (arith, eqb→eq (o / 2 % 2 + c / 2 % 2) (e / 2 % 2) g.1) in
    let gz : p.z + o / 4 + c / 4 ≡ p.z + e / 4 = omega (arith, eqb→eq (o / 4 + c / 4) (e / 4) g.2) in
    λ i. place (gx i) (gy i) (gz i)

-- two places are those at the ends of an edge's number, in one order or the other
pub record Joined (z : Sizes) (n : ℕ) (u v : Place) : Type 0 where
  pub first : first_end z n ≡ u
  pub second : second_end z n ≡ v

-- the ends of an edge of a cube are those of its number
pub edge_ends_law : (z : Sizes) (p : Place) → CubeIn z p → (e : Ends) → T (kind_has e)
    → Joined z (edge_no z p e) (corner p e.a) (corner p e.b) ⊎ Joined z (edge_no z p e) (corner p e.b) (corner p e.a)
unfolding kind_has ends_of first_end second_end
edge_ends_law z p hp e h =
    let k = get_or kinds (kind_of e) (ends 0 0) in
    let s = stands (low e) in
    let t = s k.a e.a && s k.b e.b || s k.b e.a && s k.a e.b in
    let he = in_cube_law e h in
    let n = edge_no z p e in
    let at : (c d : ℕ) → ends_of (kind_in n) ≡ k → T (s c d) → corner (anchor_of z n) c ≡ corner p d =
    λ c d q h. ap (λ (w : Place). corner w c) (edge_anchor z p hp e he) ∙ stand_corner p (low e) c d h in
    let q : ends_of (kind_in n) ≡ k = ap (λ (m : ℕ). get_or kinds m (ends 0 0)) (edge_kind z p hp e he) in
    let one : (f : Ends → ℕ) (d : ℕ) → T (s (f k) d) → corner (anchor_of z n) (f (ends_of (kind_in n))) ≡ corner p d =
    λ f d h. ap (λ (w : Ends). corner (anchor_of z n) (f w)) q ∙ at (f k) d q h in
    elim (or_cases (s k.a e.a && s k.b e.b) (s k.b e.a && s k.a e.b) (and_right (in_cube e) t h)) [
      | inl h ↦ inl (record {
        first = one (λ w. w.a) e.a (and_left (s k.a e.a) (s k.b e.b) h);
        second = one (λ w. w.b) e.b (and_right (s k.a e.a) (s k.b e.b) h);
      })
      | inr h ↦ inr (record {
        first = one (λ w. w.a) e.b (and_right (s k.b e.a) (s k.a e.b) h);
        second = one (λ w. w.b) e.a (and_left (s k.b e.a) (s k.a e.b) h);
      })
    ]

-- ── the record of a vertex ──

-- the vertex of an edge's number: its solid end and its air end are samples of the lattice, and its record stands between them
pub record Standing (L : Lattice) (n : ℕ) : Type 0 where
  pub solid : Place
  pub air : Place
  pub solid_in : SampleIn L.size solid
  pub air_in : SampleIn L.size air
  pub solid_side : air_at L solid ≡ false
  pub air_side : air_at L air ≡ true
  pub is : (rule : Rule) → vertex_record rule L n ≡ record_at rule L n solid air

standing_at : (L : Lattice) (n : ℕ) (u v : Place) (b c : Bool) → Joined L.size n u v → SampleIn L.size u → SampleIn L.size v
    → air_at L u ≡ b → air_at L v ≡ c → T (xor b c) → Standing L n
unfolding xor vertex_record
standing_at L n u v true true j hu hv eu ev x = absurd x
standing_at L n u v true false j hu hv eu ev x = record {
  solid = v;
  air = u;
  solid_in = hv;
  air_in = hu;
  solid_side = ev;
  air_side = eu;
  is = λ rule.
      (λ i. cond (air_at L (j.first i)) (record_at rule L n (j.second i) (j.first i)) (record_at rule L n (j.first i) (j.second i)))
      ∙ ap (λ (b : Bool). cond b (record_at rule L n v u) (record_at rule L n u v)) eu;
}
standing_at L n u v false true j hu hv eu ev x = record {
  solid = u;
  air = v;
  solid_in = hu;
  air_in = hv;
  solid_side = eu;
  air_side = ev;
  is = λ rule.
      (λ i. cond (air_at L (j.first i)) (record_at rule L n (j.second i) (j.first i)) (record_at rule L n (j.first i) (j.second i)))
      ∙ ap (λ (b : Bool). cond b (record_at rule L n v u) (record_at rule L n u v)) eu;
}
standing_at L n u v false false j hu hv eu ev x = absurd x

module _ (L : Lattice) (s : Sized L.size) (k : ℕ) (h : k < cubes L.size) where
  -- what holds of the number of any two samples on different sides holds of each of a cube's side-changing edges
  pub cube_edges_join : (P : ℕ → Type 0)
      → ((n : ℕ) (u v : Place) → Joined L.size n u v → SampleIn L.size u → SampleIn L.size v
      → T (xor (air_at L u) (air_at L v)) → P n)
      → All P (cube_edges L k)
  unfolding split
  cube_edges_join P f = on_cube_edges kind_has kinds_found P L k each_edge
    where
      each_edge : (e : Ends) → T (kind_has e) → T (split L (cube_at L.size k) e) → P (edge_no L.size (cube_at L.size k) e)
      each_edge e hk hs =
          let z = L.size in
          let p = cube_at z k in
          let hp = cube_inside z s k h in
          let g = both_in e (in_cube_law e hk) in
          let u = corner p e.a in
          let v = corner p e.b in
          let hu = corner_inside z p hp e.a g.0 in
          let hv = corner_inside z p hp e.b g.1 in
          elim (edge_ends_law z p hp e hk) [
            | inl j ↦ f (edge_no z p e) u v j hu hv hs
            | inr j ↦ f (edge_no z p e) v u j hv hu (subst T (xor_turn (air_at L u) (air_at L v)) hs)
          ]

  -- each has such a vertex, and is one of 7 · samples
  pub cube_edges_stand : All (Standing L) (cube_edges L k)
  cube_edges_stand = cube_edges_join (Standing L) (λ n u v j hu hv x. standing_at L n u v (air_at L u) (air_at L v) j hu hv refl refl x)

  pub cube_edges_lt : All (λ e. e < edge_numbers L.size) (cube_edges L k)
  cube_edges_lt =
      on_cube_edges kind_has kinds_found (λ e. e < edge_numbers L.size) L k
      (λ e g t. edge_lt L.size (cube_at L.size k) (cube_inside L.size s k h) e (in_cube_law e g))

-- ── the cube of a triangle ──

least : (x a b c : ℕ) → min (min a b) c ≡ 0 → min (min (x + a) (x + b)) (x + c) ≡ x
least x a b c h = omega arith

-- the three edges of a triangle of a cube give the cube's place
pub triangle_cube : (z : Sizes) (p : Place) → CubeIn z p → (t : Tet) (n : ℕ) (r : Tri) → T (reaches_low t n r)
    → cube_of z (tri_edges z p t r) ≡ p
unfolding cube_of tri_edges tet_edge reaches_low corner
triangle_cube z p hp t n r h =
    let a = edge_of t r.a in
    let b = edge_of t r.b in
    let c = edge_of t r.c in
    let i = in_cube a && in_cube b && in_cube c in
    let mx = min (min (low a % 2) (low b % 2)) (low c % 2) in
    let my = min (min (low a / 2 % 2) (low b / 2 % 2)) (low c / 2 % 2) in
    let mz = min (min (low a / 4) (low b / 4)) (low c / 4) in
    let g = and3 (in_cube a) (in_cube b) (in_cube c) (and_left i (eqb mx 0 && eqb my 0 && eqb mz 0) h) in
    let m = and3 (eqb mx 0) (eqb my 0) (eqb mz 0) (and_right i (eqb mx 0 && eqb my 0 && eqb mz 0) h) in
    let ea = edge_anchor z p hp a g.0 in
    let eb = edge_anchor z p hp b g.1 in
    let ec = edge_anchor z p hp c g.2 in
    let gx = least p.x (low a % 2) (low b % 2) (low c % 2) (eqb→eq mx 0 m.0) in
    let gy = least p.y (low a / 2 % 2) (low b / 2 % 2) (low c / 2 % 2) (eqb→eq my 0 m.1) in
    let gz = least p.z (low a / 4) (low b / 4) (low c / 4) (eqb→eq mz 0 m.2) in
    (λ j. place
    (min (min (ea j).x (eb j).x) (ec j).x)
    (min (min (ea j).y (eb j).y) (ec j).y)
    (min (min (ea j).z (eb j).z) (ec j).z))
    ∙ (λ j. place (gx j) (gy j) (gz j))

-- so each triangle of a cube of the lattice gives its cube
pub cube_triangles_cube : (L : Lattice) → Sized L.size → (k : ℕ) → k < cubes L.size
    → All (λ t. cube_of L.size t ≡ cube_at L.size k) (cube_triangles L k)
cube_triangles_cube L s k h =
    on_cube reaches_low reaching (λ t. cube_of L.size t ≡ cube_at L.size k) L k
    (λ t r. triangle_cube L.size (cube_at L.size k) (cube_inside L.size s k h) t _ r)
