-- Document 01's tables: tests of every edge and of every triangle of the six tetrahedra and sixteen rows, each computed once and
-- carried to every entry by `on_edges` or `on_triangles`. Assumes nothing.
use mathlib.Core.Path.{◌≡◌, refl, sym, subst}
use mathlib.Core.Bool.{Bool, true, false, cond, xor, ◌&&◌, ◌||◌}
use mathlib.Core.List.{List, [], ◌∷◌, map}
use Prim.Native.Nat.{ℕ, ◌+◌, ◌-◌, ◌*◌, ◌/◌, ◌%◌, min, ◌≤◌, ◌<◌}
use native.Mathlib.Omega.{arith}
use lib.IntN.{ℤ, pos, ◌+ℤ◌, ◌-ℤ◌, ◌*ℤ◌}
use lib.Signed.{lt_z}
use lib.Dec.{T, eqb, ltb, leb, leb→le, lit<}
use lib.ListN.{length, get_or, length-map}
use Rattle.lists.specs.Lists.{range, keep, any, all}
use Rattle.lists.proofs.Member.{in_range}
use Rattle.lists.proofs.Every.{All, all_test, all_weak, all_get_d, all_in, all_map, all_keep, all_each, each_le}
use Rattle.lists.proofs.Runs.{first_lt}
use Rattle.paper.specs.declared.Place.{Place}
use Rattle.paper.specs.Lattice.{air_at, Lattice, cube_at}
use Rattle.paper.specs.Tables.{Ends, Tet, Tri, ends, tets, rows, tet_edges, kinds, low, joins, kind_of}
use Rattle.paper.specs.Sheet.{edge_no, split, cube_edges, weight, row_of, row_at, tri_edges, triangles_at, cube_triangles}

-- ── entries ──

-- edge e1 to e6 of a tetrahedron
abbrev pub edge_of : Tet → ℕ → Ends
edge_of t i = get_or (tet_edges t) (i - 1) (ends 0 0)

-- a test of every edge of every tetrahedron
unfoldable pub every_edge : (Ends → Bool) → Bool
every_edge p = all (λ t. all p (tet_edges t)) tets

-- a test of every triangle of every row of every tetrahedron
unfoldable pub every_triangle : (Tet → ℕ → Tri → Bool) → Bool
every_triangle p = all (λ t. all (λ n. all (p t n) (get_or rows n [])) (range 0 16)) tets

pub on_edges : (p : Ends → Bool) → T (every_edge p) → All (λ t. All (λ e. T (p e)) (tet_edges t)) tets
unfolding every_edge
on_edges p h = all_weak (λ t. T (all p (tet_edges t))) _ (λ t g. all_test p (tet_edges t) g) tets (all_test _ tets h)

pub on_triangles : (p : Tet → ℕ → Tri → Bool) → T (every_triangle p)
    → All (λ t. (n : ℕ) → n < 16 → All (λ r. T (p t n r)) (get_or rows n [])) tets
unfolding every_triangle
on_triangles p h =
    all_weak (λ t. T (all (λ n. all (p t n) (get_or rows n [])) (range 0 16))) _
    (λ t g n hn.
    all_test (p t n) (get_or rows n [])
    (all_in (λ m. T (all (p t m) (get_or rows m []))) (range 0 16) (all_test (λ m. all (p t m) (get_or rows m [])) (range 0 16) g)
    n (in_range 0 16 n (omega arith) (omega arith))))
    tets (all_test (λ t. all (λ n. all (p t n) (get_or rows n [])) (range 0 16)) tets h)

-- ── rows ──

-- the sides that a row stands for: 1 is air
pub record Bits (n a b c d : ℕ) : Type 0 where
  pub below : n < 16
  pub first : n / 8 ≡ a
  pub second : n / 4 % 2 ≡ b
  pub third : n / 2 % 2 ≡ c
  pub fourth : n % 2 ≡ d

pub row_bits : (a b c d : Bool) → Bits (row_of a b c d) (weight a 1) (weight b 1) (weight c 1) (weight d 1)
unfolding row_of
row_bits a b c d = go a b c d
  where
    w : (x : Bool) (n : ℕ) → weight x n ≡ n * weight x 1
    w true n = omega arith
    w false n = omega arith

    one : (x : Bool) → weight x 1 ≤ 1
    one true = omega arith
    one false = omega arith

    go : (a b c d : Bool)
        → Bits (weight a 8 + weight b 4 + weight c 2 + weight d 1) (weight a 1) (weight b 1) (weight c 1) (weight d 1)
    go a b c d = record {
      below = omega (arith, w a 8, w b 4, w c 2, one a, one b, one c, one d);
      first = omega (arith, w a 8, w b 4, w c 2, one a, one b, one c, one d);
      second = omega (arith, w a 8, w b 4, w c 2, one a, one b, one c, one d);
      third = omega (arith, w a 8, w b 4, w c 2, one a, one b, one c, one d);
      fourth = omega (arith, w a 8, w b 4, w c 2, one a, one b, one c, one d);
    }

pub row_lt : (L : Lattice) (p : Place) (t : Tet) → row_at (air_at L) p t < 16
unfolding row_at
row_lt L p t = (row_bits _ _ _ _).below

-- there are sixteen rows, of at most two triangles
pub sixteen : length rows ≡ 16
unfolding rows
sixteen = refl

-- and name edges e1 to e6
rows_named : T (all (all (λ r. all (λ i. leb 1 i && leb i 6) (r.a ∷ r.b ∷ r.c ∷ []))) rows)
unfolding rows
rows_named = tt

rows_short : T (all (λ l. leb (length l) 2) rows)
unfolding rows
rows_short = tt

pub row_short : (n : ℕ) → length (get_or rows n []) ≤ 2
row_short n =
    leb→le (length (get_or rows n [])) 2
    (all_get_d (λ l. T (leb (length l) 2)) rows [] tt (all_test (λ l. leb (length l) 2) rows rows_short) n)

-- "At most 12 triangles come from a cube."
pub at_most_12 : (L : Lattice) (k : ℕ) → length (cube_triangles L k) ≤ 12
unfolding cube_triangles triangles_at tets
at_most_12 L k =
    each_le (λ t. map (tri_edges L.size (cube_at L.size k) t) (get_or rows (row_at (air_at L) (cube_at L.size k) t) [])) 2
    (λ t.
    subst (λ (m : ℕ). m ≤ 2)
    (sym (length-map (get_or rows (row_at (air_at L) (cube_at L.size k) t) []) (tri_edges L.size (cube_at L.size k) t)))
    (row_short (row_at (air_at L) (cube_at L.size k) t)))
    tets

-- what is tested holds of each triangle of a cube
pub on_cube : (p : Tet → ℕ → Tri → Bool) → T (every_triangle p) → (Q : Tri → Type 0) (L : Lattice) (k : ℕ)
    → ((t : Tet) (r : Tri) → T (p t (row_at (air_at L) (cube_at L.size k) t) r) → Q (tri_edges L.size (cube_at L.size k) t r))
    → All Q (cube_triangles L k)
unfolding cube_triangles triangles_at
on_cube p h Q L k f =
    let at = cube_at L.size k in
    all_each Q (λ t. map (tri_edges L.size at t) (get_or rows (row_at (air_at L) at t) [])) tets
    (all_weak (λ t. (n : ℕ) → n < 16 → All (λ r. T (p t n r)) (get_or rows n [])) _
    (λ t g.
    let row = row_at (air_at L) at t in
    all_map Q (tri_edges L.size at t) (get_or rows row [])
    (all_weak (λ r. T (p t row r)) _ (λ r e. f t r e) (get_or rows row []) (g row (row_lt L at t))))
    tets (on_triangles p h))

-- what holds of each edge of a tetrahedron that passes a test of every edge, and whose ends are on different sides, holds of each
-- of `cube_edges`
pub on_cube_edges : (p : Ends → Bool) → T (every_edge p) → (Q : ℕ → Type 0) (L : Lattice) (k : ℕ)
    → ((e : Ends) → T (p e) → T (split L (cube_at L.size k) e) → Q (edge_no L.size (cube_at L.size k) e)) → All Q (cube_edges L k)
unfolding cube_edges
on_cube_edges p h Q L k f =
    let at = cube_at L.size k in
    let no = edge_no L.size at in
    all_each Q (λ t. map no (keep (split L at) (tet_edges t))) tets
    (all_weak (λ t. All (λ e. T (p e)) (tet_edges t)) _
    (λ t g.
    all_map Q no (keep (split L at) (tet_edges t))
    (all_keep (λ e. Q (no e)) (split L at) (tet_edges t)
    (all_weak (λ e. T (p e)) (λ e. T (split L at e) → Q (no e)) (λ e c s. f e c s) (tet_edges t) g)))
    tets (on_edges p h))

-- ── "In left-handed axes a triangle runs counter-clockwise seen from the air." ──

record Point : Type 0 where
  x : ℤ
  y : ℤ
  z : ℤ

-- twice the middle of an edge; of a corner, twice the corner
abbrev middle : Ends → Point
middle e = record { x = pos (e.a % 2 + e.b % 2); y = pos (e.a / 2 % 2 + e.b / 2 % 2); z = pos (e.a / 4 + e.b / 4) }

abbrev less : Point → Point → Point
less p q = record { x = p.x -ℤ q.x; y = p.y -ℤ q.y; z = p.z -ℤ q.z }

-- six times the volume of a, b, c, p, above 0 on the side from which a, b, c runs clockwise in left-handed axes
abbrev volume : Point → Point → Point → Point → ℤ
volume a b c p =
    let u = less b a in
    let v = less c a in
    let w = less p a in
    (u.y *ℤ v.z -ℤ u.z *ℤ v.y) *ℤ w.x +ℤ (u.z *ℤ v.x -ℤ u.x *ℤ v.z) *ℤ w.y +ℤ (u.x *ℤ v.y -ℤ u.y *ℤ v.x) *ℤ w.z

-- with each crossing at the middle of its edge, the corner c, air where its bit is 1, is on its own side of the triangle r
unfoldable pub sided : Tet → Tri → ℕ → ℕ → Bool
sided t r bit c =
    let v = volume (middle (edge_of t r.a)) (middle (edge_of t r.b)) (middle (edge_of t r.c)) (middle (ends c c)) in
    cond (eqb bit 1) (lt_z v (pos 0)) (lt_z (pos 0) v)

-- the triangle r of row n runs counter-clockwise seen from each air corner, and clockwise from each solid one
unfoldable pub counter_clockwise : Tet → ℕ → Tri → Bool
counter_clockwise t n r =
    sided t r (n / 8) t.a && sided t r (n / 4 % 2) t.b && sided t r (n / 2 % 2) t.c && sided t r (n % 2) t.d

pub turning : T (every_triangle counter_clockwise)
unfolding every_triangle counter_clockwise sided tets rows tet_edges
turning = tt

-- ── kinds ──

-- the corner e of a cube is, on each axis, the corner c of a cube that begins at its corner o
abbrev pub stands : ℕ → ℕ → ℕ → Bool
stands o c e = eqb (o % 2 + c % 2) (e % 2) && eqb (o / 2 % 2 + c / 2 % 2) (e / 2 % 2) && eqb (o / 4 + c / 4) (e / 4)

-- both ends are corners of a cube
unfoldable pub in_cube : Ends → Bool
in_cube e = ltb e.a 8 && ltb e.b 8

-- "From its anchor .. its ends are at": those of the kind that is found are those of the edge, either way round
unfoldable pub kind_has : Ends → Bool
kind_has e =
    let k = get_or kinds (kind_of e) (ends 0 0) in
    in_cube e
    && (stands (low e) k.a e.a && stands (low e) k.b e.b
    || stands (low e) k.b e.a && stands (low e) k.a e.b)

pub kinds_found : T (every_edge kind_has)
unfolding every_edge in_cube kind_has tets tet_edges kinds kind_of joins low
kinds_found = tt

-- the axes that an edge spans: x adds 1, y 2, z 4
unfoldable pub span : Ends → ℕ
span e = e.a + e.b - 2 * low e

-- the kind at each span
unfoldable pub kinds_by_span : List ℕ
kinds_by_span = 0 ∷ 0 ∷ 1 ∷ 5 ∷ 2 ∷ 4 ∷ 3 ∷ 6 ∷ []

unfoldable pub kind_agrees : Ends → Bool
kind_agrees e = ltb 0 (span e) && ltb (span e) 8 && eqb (kind_of e) (get_or kinds_by_span (span e) 0)

pub kinds_agree : T (every_edge kind_agrees)
unfolding every_edge kind_agrees span kinds_by_span tets tet_edges kinds kind_of joins low
kinds_agree = tt

-- the kind of any pair of corners is one of the seven
pub kind_lt : (e : Ends) → kind_of e < 7
unfolding kind_of
kind_lt e = first_lt (λ k. joins e (low e) (get_or kinds k (ends 0 0))) 0 0 7 7 (lit< tt) (omega arith)

-- ── corners ──

-- an edge of the triangle r ends at the corner c
abbrev pub touches : Tet → Tri → ℕ → Bool
touches t r c = any (λ i. eqb (edge_of t i).a c || eqb (edge_of t i).b c) (r.a ∷ r.b ∷ r.c ∷ [])

-- every triangle touches all four corners of its tetrahedron
unfoldable pub touches_all : Tet → ℕ → Tri → Bool
touches_all t n r = touches t r t.a && touches t r t.b && touches t r t.c && touches t r t.d

pub touching : T (every_triangle touches_all)
unfolding every_triangle touches_all tets rows tet_edges
touching = tt

-- every tetrahedron has, on each axis, a corner at the low and one at the high end of its cube
unfoldable pub spans_cube : Tet → Bool
spans_cube t =
    let cs = t.a ∷ t.b ∷ t.c ∷ t.d ∷ [] in
    all (λ b. any (λ c. eqb (c % 2) b) cs && any (λ c. eqb (c / 2 % 2) b) cs && any (λ c. eqb (c / 4) b) cs) (0 ∷ 1 ∷ [])

pub spanning : T (all spans_cube tets)
unfolding spans_cube tets
spanning = tt

-- so the least x, y and z of the anchors of a triangle's edges, which are of the cube, are those of the cube
unfoldable pub reaches_low : Tet → ℕ → Tri → Bool
reaches_low t n r =
    let a = edge_of t r.a in
    let b = edge_of t r.b in
    let c = edge_of t r.c in
    in_cube a && in_cube b && in_cube c
    && (eqb (min (min (low a % 2) (low b % 2)) (low c % 2)) 0
    && eqb (min (min (low a / 2 % 2) (low b / 2 % 2)) (low c / 2 % 2)) 0
    && eqb (min (min (low a / 4) (low b / 4)) (low c / 4)) 0)

pub reaching : T (every_triangle reaches_low)
unfolding every_triangle reaches_low in_cube tets rows tet_edges low
reaching = tt

-- ── sides ──

-- by the sides of a tetrahedron's corners, whether the ends of its edge e1 to e6 are on different ones
unfoldable pub differ : Bool → Bool → Bool → Bool → ℕ → Bool
differ a b c d i = get_or (xor a b ∷ xor a c ∷ xor a d ∷ xor b c ∷ xor b d ∷ xor c d ∷ []) (i - 1) false

unfoldable pub differs : Bool → Bool → Bool → Bool → Tri → Bool
differs a b c d t = differ a b c d t.a && differ a b c d t.b && differ a b c d t.c

-- each edge that a row names has its ends on different sides
pub row_differs : (a b c d : Bool) → T (all (differs a b c d) (get_or rows (row_of a b c d) []))
unfolding rows differ differs xor row_of
row_differs true true true true = tt
row_differs true true true false = tt
row_differs true true false true = tt
row_differs true true false false = tt
row_differs true false true true = tt
row_differs true false true false = tt
row_differs true false false true = tt
row_differs true false false false = tt
row_differs false true true true = tt
row_differs false true true false = tt
row_differs false true false true = tt
row_differs false true false false = tt
row_differs false false true true = tt
row_differs false false true false = tt
row_differs false false false true = tt
row_differs false false false false = tt
