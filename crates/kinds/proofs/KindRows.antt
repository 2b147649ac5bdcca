-- The bits of the seven words are the edges with a vertex. Assumes nothing.
use mathlib.Core.Path.{◌≡◌, refl, sym, ap, ap₂, subst, ◌∙◌}
use mathlib.Core.Bool.{Bool, true, false, cond, xor, ◌&&◌, ◌||◌, and-false}
use mathlib.Core.List.{List, [], ◌∷◌}
use Prim.Native.Nat.{ℕ, zero, suc, ◌+◌, ◌-◌, ◌/◌, ◌%◌, ◌≤◌, ◌<◌}
use native.Mathlib.Omega.{arith}
use lib.Dec.{T, leb, ltb, leb→le, ltb→lt}
use lib.ListN.{get_or}
use borrow.Author.Tests.{le-leb, lt-ltb}
use Rattle.lists.specs.Lists.{any, all, each, is_in}
use Rattle.lists.proofs.Within.{t_to_false}
use Rattle.lists.proofs.Member.{eq_to_t, and_left, and_right, and3, any_in}
use Rattle.lists.proofs.Every.{All, all_in, all_test, all_weak}
use Rattle.lists.proofs.Computed.{upto, upto_at}
use Rattle.paper.specs.declared.Sizes.{Sizes}
use Rattle.paper.specs.declared.Place.{Place}
use Rattle.paper.specs.Lattice.{Lattice, place, air_at, sample_no, corner, cubes}
use Rattle.paper.specs.Tables.{kinds}
use Rattle.paper.specs.Sheet.{edge_from, ends_of, split, cube_edges}
use Rattle.paper.specs.Within.{Sized, SampleIn}
use Rattle.rows.specs.declared.Quad.{Quad}
use Rattle.bits.specs.Words.{bit, lowered}
use Rattle.bits.proofs.Bits.{bit_of_0, bit_word}
use Rattle.rows.specs.Rows.{HasRows, four, side_row, corner_bit, is_one_of, HasCubes}
use Rattle.kinds.specs.Kinds.{anchors, cube_bit, kind_bit, is_cube, corner_of, SidesAt}
use Rattle.kinds.specs.Kinds.{VisitsAt, row_at, row_before, sides_around, cubes_around}
use Rattle.kinds.proofs.KindEdges.{Standing, standing, edge_has}

-- ── the visited cubes ──

lowered_is : (w : ℕ) (g : ℕ → Bool) → ((x : ℕ) → bit w x ≡ g x) → (d x : ℕ) → d < 2 → lowered w d x ≡ (leb d x && g (x - d))
lowered_is w g h zero x l =
    let e : x ≡ x - 0 = omega arith in
    h x ∙ (ap g e ∙ ap (λ (b : Bool). b && g (x - 0)) (sym (le-leb 0 x (omega arith))))
lowered_is w g h (suc zero) zero l = refl
lowered_is w g h (suc zero) (suc x) l =
    let e : x ≡ suc x - 1 = omega arith in
    h x ∙ (ap g e ∙ ap (λ (b : Bool). b && g (suc x - 1)) (sym (le-leb 1 (suc x) (omega arith))))
lowered_is w g h (suc (suc d)) x l = absurd (omega arith)

any_same : (p q : ℕ → Bool) (l : List ℕ) → All (λ a. p a ≡ q a) l → any p l ≡ any q l
any_same p q [] h = refl
any_same p q (x ∷ xs) h = ap₂ ◌||◌ h.0 (any_same p q xs h.1)

-- ── the table of anchors ──

-- a corner of the anchors' kinds is one of the first five, and lies in the cube that has its corner o there
fits_at : ℕ → ℕ → Bool
fits_at o c = ltb c 5 && (leb (o % 2 + c % 2) 1 && leb (o / 2 % 2 + c / 2 % 2) 1 && leb (o / 4 + c / 4) 1)

fits_all : T (upto 7 (λ j. all (λ o. ltb o 8 && (fits_at o (ends_of j).a && fits_at o (ends_of j).b)) (get_or anchors j [])))
unfolding fits_at anchors ends_of kinds
fits_all = tt

record Fits (o j : ℕ) : Type 0 where
  below : o < 8
  first : T (fits_at o (ends_of j).a)
  second : T (fits_at o (ends_of j).b)

fits_at_law : (j : ℕ) → j < 7 → All (λ o. Fits o j) (get_or anchors j [])
fits_at_law j h =
    all_weak (λ o. T (ltb o 8 && (fits_at o (ends_of j).a && fits_at o (ends_of j).b))) (λ o. Fits o j)
    (λ o t.
    let a = fits_at o (ends_of j).a in
    let b = fits_at o (ends_of j).b in
    let u = and_right (ltb o 8) (a && b) t in
    record { below = ltb→lt o 8 (and_left (ltb o 8) (a && b) t); first = and_left a b u; second = and_right a b u })
    (get_or anchors j [])
    (all_test (λ o. ltb o 8 && (fits_at o (ends_of j).a && fits_at o (ends_of j).b)) (get_or anchors j [])
    (upto_at 7 (λ j. all (λ o. ltb o 8 && (fits_at o (ends_of j).a && fits_at o (ends_of j).b)) (get_or anchors j [])) fits_all j h))

-- ── the words at a place ──

-- the cubes around it
module _ (n : Sizes) (vs : List ℕ) (p : Place) (v : Quad) (visits : VisitsAt n vs p.y p.z v) where
  cube_is : (o : ℕ) → o < 8 → cube_bit v p.x o ≡ corner_of n vs p o
  unfolding cube_bit corner_of
  cube_is o h =
      lowered_is (get_or (four v) (o / 2) 0) (is_cube n vs p.y p.z (o / 2)) (λ x. visits.bits (o / 2) x (omega arith)) (o % 2) p.x
      (omega arith)

  -- past the last sample of a row there is none
  pub kind_high : (f : Quad) (j : ℕ) → j < 7 → n.nx ≤ p.x → kind_bit f v j p.x ≡ false
  unfolding kind_bit
  kind_high f j h l =
      let e = xor (corner_bit f p.x (ends_of j).a) (corner_bit f p.x (ends_of j).b) in
      let os = get_or anchors j [] in
      t_to_false (e && any (cube_bit v p.x) os)
      (λ t.
      let a = any_in (cube_bit v p.x) os (and_right e (any (cube_bit v p.x) os) t) in
      let o = a.0 in
      let w = all_in (λ o. Fits o j) os (fits_at_law j h) o a.1.0 in
      let s = standing n vs p o (subst T (cube_is o w.below) a.1.1) in
      omega (arith, s.inside.x))

-- ── the words at a sample ──

module _ (L : Lattice) (vs : List ℕ) (p : Place) (f v : Quad) (hp : SampleIn L.size p)
    (sides : SidesAt L p.y p.z f) (visits : VisitsAt L.size vs p.y p.z v) where
  -- a corner that is in the lattice
  row_side : (w x y z : ℕ) (q : Place) → w ≡ side_row L y z → x < L.size.nx → place x y z ≡ q → bit w x ≡ air_at L q
  unfolding side_row
  row_side w x y z q e h r =
      ap (λ (w : ℕ). bit w x) e ∙ (bit_word (λ x. air_at L (place x y z)) L.size.nx x h ∙ ap (air_at L) r)

  corner_is : (c : ℕ) → c < 5 → SampleIn L.size (corner p c) → corner_bit f p.x c ≡ air_at L (corner p c)
  unfolding corner_bit corner
  corner_is zero h i = row_side f.a p.x p.y p.z _ sides.here hp.x (λ t. place (x₀ t) (y₀ t) (z₀ t))
    where
      x₀ : p.x ≡ p.x + 0
      x₀ = omega arith

      y₀ : p.y ≡ p.y + 0
      y₀ = omega arith

      z₀ : p.z ≡ p.z + 0
      z₀ = omega arith
  corner_is (suc zero) h i = row_side f.a (p.x + 1) p.y p.z _ sides.here i.x (λ t. place (p.x + 1) (y₀ t) (z₀ t))
    where
      y₀ : p.y ≡ p.y + 0
      y₀ = omega arith

      z₀ : p.z ≡ p.z + 0
      z₀ = omega arith
  corner_is (suc (suc zero)) h i = row_side f.b p.x (p.y + 1) p.z _ (sides.next_y i.y) hp.x
      (λ t. place (x₀ t) (p.y + 1) (z₀ t))
    where
      x₀ : p.x ≡ p.x + 0
      x₀ = omega arith

      z₀ : p.z ≡ p.z + 0
      z₀ = omega arith
  corner_is (suc (suc (suc zero))) h i = row_side f.b (p.x + 1) (p.y + 1) p.z _ (sides.next_y i.y) i.x
      (λ t. place (p.x + 1) (p.y + 1) (z₀ t))
    where
      z₀ : p.z ≡ p.z + 0
      z₀ = omega arith
  corner_is (suc (suc (suc (suc zero)))) h i = row_side f.c p.x p.y (p.z + 1) _ (sides.next_z i.z) hp.x
      (λ t. place (x₀ t) (y₀ t) (p.z + 1))
    where
      x₀ : p.x ≡ p.x + 0
      x₀ = omega arith

      y₀ : p.y ≡ p.y + 0
      y₀ = omega arith
  corner_is (suc (suc (suc (suc (suc c))))) h i = absurd (omega arith)

  -- an end of an edge of a visited cube
  end_is : (o c : ℕ) → T (fits_at o c) → Standing L.size vs p o → corner_bit f p.x c ≡ air_at L (corner p c)
  unfolding fits_at corner
  end_is o c t w =
      let u = and_right (ltb c 5) _ t in
      let g = and3 (leb (o % 2 + c % 2) 1) (leb (o / 2 % 2 + c / 2 % 2) 1) (leb (o / 4 + c / 4) 1) u in
      let ex = ap (λ (q : Place). q.x) w.at in
      let ey = ap (λ (q : Place). q.y) w.at in
      let ez = ap (λ (q : Place). q.z) w.at in
      corner_is c (ltb→lt c 5 (and_left (ltb c 5) _ t)) (record {
        x = omega (arith, ex, leb→le (o % 2 + c % 2) 1 g.0, w.inside.x);
        y = omega (arith, ey, leb→le (o / 2 % 2 + c / 2 % 2) 1 g.1, w.inside.y);
        z = omega (arith, ez, leb→le (o / 4 + c / 4) 1 g.2, w.inside.z);
      })

  -- bit x of word j: edge 7 · no + j has a vertex
  pub kind_edge : Sized L.size → All (λ k. k < cubes L.size) vs → (j : ℕ) → j < 7
      → kind_bit f v j p.x ≡ is_in (each (cube_edges L) vs) (edge_from (sample_no L.size p) j)
  unfolding kind_bit split
  kind_edge s within j h =
      let l = get_or anchors j [] in
      let k = ends_of j in
      let x₁ = xor (corner_bit f p.x k.a) (corner_bit f p.x k.b) in
      let e : any (cube_bit v p.x) l ≡ any (corner_of L.size vs p) l =
      any_same (cube_bit v p.x) (corner_of L.size vs p) l
      (all_weak (λ o. Fits o j) (λ o. cube_bit v p.x o ≡ corner_of L.size vs p o)
      (λ o t. cube_is L.size vs p v visits o t.below) l (fits_at_law j h)) in
      ap (λ (b : Bool). x₁ && b) e ∙ (go (any (corner_of L.size vs p) l) refl ∙ edge_has L s vs within p hp j h)
    where
      go : (b : Bool) → any (corner_of L.size vs p) (get_or anchors j []) ≡ b
          → (xor (corner_bit f p.x (ends_of j).a) (corner_bit f p.x (ends_of j).b) && any (corner_of L.size vs p) (get_or anchors j []))
          ≡ (xor (air_at L (corner p (ends_of j).a)) (air_at L (corner p (ends_of j).b)) && any (corner_of L.size vs p) (get_or anchors j []))
      go true e =
          let a = any_in (corner_of L.size vs p) (get_or anchors j []) (eq_to_t e) in
          let w = standing L.size vs p a.0 a.1.1 in
          let t = all_in (λ o. Fits o j) (get_or anchors j []) (fits_at_law j h) a.0 a.1.0 in
          (λ i. xor (end_is a.0 (ends_of j).a t.first w i) (end_is a.0 (ends_of j).b t.second w i) && any
          (corner_of L.size vs p) (get_or anchors j []))
      go false e =
          let a = xor (corner_bit f p.x (ends_of j).a) (corner_bit f p.x (ends_of j).b) in
          let b = xor (air_at L (corner p (ends_of j).a)) (air_at L (corner p (ends_of j).b)) in
          ap (λ (c : Bool). a && c) e ∙ (and-false a ∙ sym (ap (λ (c : Bool). b && c) e ∙ and-false b))

-- ── the words around a row of anchors ──

-- a word where there is one
bit_if : (b : Bool) (w x : ℕ) (g : Bool) → (T b → bit w x ≡ g) → bit (cond b w 0) x ≡ (b && g)
bit_if true w x g h = h tt
bit_if false w x g h = bit_of_0 x

pub cubes_around_law : (n : Sizes) (vs words : List ℕ) (y z : ℕ) → HasCubes n vs words → y < n.ny → z < n.nz
    → VisitsAt n vs y z (cubes_around n words y z)
unfolding row_before cubes_around is_cube
cubes_around_law n vs words y z h hy hz = record { bits = go }
  where
    one : (dy dz x : ℕ) → bit (row_before n words y z dy dz) x ≡ (leb dy y && (leb dz z && is_one_of n vs (place x (y - dy) (z - dz))))
    one dy dz x =
        bit_if (leb dy y) _ x _ (λ t. bit_if (leb dz z) _ x _ (λ u. h.at (y - dy) (z - dz) x (omega arith) (omega arith)))

    go : (r x : ℕ) → r < 4 → bit (get_or (four (cubes_around n words y z)) r 0) x ≡ is_cube n vs y z r x
    go zero x l = one 0 0 x
    go (suc zero) x l = one 1 0 x
    go (suc (suc zero)) x l = one 0 1 x
    go (suc (suc (suc zero))) x l = one 1 1 x
    go (suc (suc (suc (suc r)))) x l = absurd (omega arith)

pub sides_around_law : (L : Lattice) (rows : List ℕ) (y z : ℕ) → HasRows L rows → y < L.size.ny → z < L.size.nz
    → SidesAt L y z (sides_around L.size rows y z)
unfolding sides_around row_at
sides_around_law L rows y z h hy hz = record {
  here = one y z hy hz;
  next_y = λ l. one (y + 1) z l hz;
  next_z = λ l. one y (z + 1) hy l;
}
  where
    one : (y z : ℕ) → y < L.size.ny → z < L.size.nz → row_at L.size rows y z ≡ side_row L y z
    one y z hy hz = rw (lt-ltb y L.size.ny hy, lt-ltb z L.size.nz hz) (h.at y z hy hz)
