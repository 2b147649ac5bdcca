-- An edge has a vertex exactly where its ends' sides differ and one of its cubes is visited. Assumes nothing.
use mathlib.Core.Path.{◌≡◌, refl, sym, ap, subst, ◌∙◌}
use mathlib.Core.Logic.{◌⊎◌, inl, inr}
use mathlib.Core.Bool.{Bool, true, false, xor, ◌&&◌}
use mathlib.Core.List.{List, [], ◌∷◌, map}
use Prim.Native.Nat.{ℕ, ◌+◌, ◌-◌, ◌/◌, ◌%◌, ◌<◌}
use native.Mathlib.Omega.{arith}
use native.Mathlib.Nat.{div-div-eq-div-mul}
use lib.Dec.{T, eqb, leb, eqb→eq, eqb_refl, leb→le, le→leb}
use lib.ListN.{get_or}
use Rattle.lists.specs.Lists.{keep, cons_if, any, all, each, is_in}
use Rattle.lists.proofs.Member.{or_cases, or_left, or_right, and_left, and_right, and_both, any_each, any_in, in_any, xor_turn}
use Rattle.lists.proofs.Every.{All, all_in, all_test}
use Rattle.lists.proofs.Closure.{bool_same}
use Rattle.lists.proofs.Computed.{upto, upto_at}
use Rattle.paper.specs.declared.Sizes.{Sizes}
use Rattle.paper.specs.declared.Place.{Place}
use Rattle.paper.specs.Lattice.{Lattice, place, air_at, sample_no, sample_at, corner, cubes, cube_no, cube_at, in_lattice}
use Rattle.paper.specs.Tables.{Ends, tets, tet_edges, kinds, low, joins, kind_of}
use Rattle.paper.specs.Sheet.{edge_from, anchor_of, kind_in, ends_of, first_end, second_end, edge_no, split, cube_edges}
use Rattle.paper.specs.Within.{Sized, SampleIn, CubeIn}
use Rattle.paper.proofs.Numbers.{sample_place, cube_place, cube_inside, cube_back}
use Rattle.paper.proofs.Tables.{in_cube, kind_has, every_edge, on_cube_edges}
use Rattle.paper.proofs.Edges.{edge_ends_law, edge_anchor, edge_kind, in_cube_law}
use Rattle.paper.proofs.Visits.{in_lattice_law, lattice_in}
use Rattle.rows.specs.Rows.{is_one_of}
use Rattle.kinds.specs.Kinds.{anchors, is_cube, corner_of}

-- ── the table of anchors ──

-- each edge of a cube is of its kind, from an anchor of that kind
found : Ends → Bool
found e = kind_has e && is_in (get_or anchors (kind_of e) []) (low e)

all_found : T (every_edge found)
unfolding found every_edge in_cube kind_has tets tet_edges kinds kind_of joins low anchors
all_found = tt

-- an edge of kind j from corner o
from_to : ℕ → ℕ → Ends → Bool
from_to j o e = eqb (kind_of e) j && (eqb (low e) o && kind_has e)

some_edge : (Ends → Bool) → Bool
some_edge p = any (λ t. any p (tet_edges t)) tets

-- from each anchor of a kind goes an edge of that kind
each_anchor : T (upto 7 (λ j. all (λ o. some_edge (from_to j o)) (get_or anchors j [])))
unfolding some_edge from_to in_cube kind_has tets tet_edges kinds kind_of joins low anchors
each_anchor = tt

-- ── an edge of a cube, by its number ──

module _ (L : Lattice) (q p : Place) (hq : CubeIn L.size q) (hp : SampleIn L.size p) (j : ℕ) (hj : j < 7)
    (e : Ends) (he : T (kind_has e)) (r : edge_no L.size q e ≡ edge_from (sample_no L.size p) j) where
  anchor_is : anchor_of L.size (edge_no L.size q e) ≡ p
  unfolding anchor_of
  anchor_is =
      let d : (edge_from (sample_no L.size p) j) / 7 ≡ sample_no L.size p = omega arith in
      ap (λ (n : ℕ). anchor_of L.size n) r ∙ (ap (λ (n : ℕ). sample_at L.size n) d
      ∙ sample_place L.size p hp.x hp.y)

  low_is : corner q (low e) ≡ p
  low_is = sym (edge_anchor L.size q hq e (in_cube_law e he)) ∙ anchor_is

  kind_is : kind_of e ≡ j
  kind_is = sym (edge_kind L.size q hq e (in_cube_law e he)) ∙ (ap (λ (n : ℕ). n % 7) r ∙ omega arith)

  ends_are : ends_of (kind_in (edge_no L.size q e)) ≡ ends_of j
  ends_are = ap ends_of (edge_kind L.size q hq e (in_cube_law e he) ∙ kind_is)

  -- its ends are those of kind j from p
  split_is : split L q e ≡ split L p (ends_of j)
  unfolding split first_end second_end
  split_is =
      let n = edge_no L.size q e in
      let by : split L (anchor_of L.size n) (ends_of (kind_in n)) ≡ split L p (ends_of j) = λ i. split L (anchor_is i) (ends_are i) in
      elim (edge_ends_law L.size q hq e he) [
        | inl t ↦ (λ i. xor (air_at L (sym t.first i)) (air_at L (sym t.second i))) ∙ by
        | inr t ↦ xor_turn (air_at L (corner q e.a)) (air_at L (corner q e.b))
            ∙ ((λ i. xor (air_at L (sym t.first i)) (air_at L (sym t.second i))) ∙ by)
      ]

-- ── the cube of which a sample is a corner ──

-- the cube that has its corner o at p
abbrev pub back : Place → ℕ → Place
back p o = place (p.x - o % 2) (p.y - o / 2 % 2) (p.z - o / 2 / 2)

pub record Standing (n : Sizes) (vs : List ℕ) (p : Place) (o : ℕ) : Type 0 where
  pub inside : CubeIn n (back p o)
  pub at : corner (back p o) o ≡ p
  pub visited : T (is_in vs (cube_no n (back p o)))

module _ (n : Sizes) (vs : List ℕ) (p : Place) (o : ℕ) where
  pub standing : T (corner_of n vs p o) → Standing n vs p o
  unfolding corner_of is_cube is_one_of corner
  standing t =
      let q = back p o in
      let c = is_cube n vs p.y p.z (o / 2) (p.x - o % 2) in
      let t₁ = and_right (leb (o % 2) p.x) c t in
      let z₁ = leb (o / 2 / 2) p.z in
      let i₁ = in_lattice n q in
      let v₁ = is_in vs (cube_no n q) in
      let t₂ = and_right (leb (o / 2 % 2) p.y) (z₁ && (i₁ && v₁)) t₁ in
      let t₃ = and_right z₁ (i₁ && v₁) t₂ in
      let hx = leb→le (o % 2) p.x (and_left (leb (o % 2) p.x) c t) in
      let hy = leb→le (o / 2 % 2) p.y (and_left (leb (o / 2 % 2) p.y) (z₁ && (i₁ && v₁)) t₁) in
      let hz = leb→le (o / 2 / 2) p.z (and_left z₁ (i₁ && v₁) t₂) in
      let d = div-div-eq-div-mul o 2 2 in
      let ex : p.x - o % 2 + o % 2 ≡ p.x = omega arith in
      let ey : p.y - o / 2 % 2 + o / 2 % 2 ≡ p.y = omega arith in
      let ez : p.z - o / 2 / 2 + o / 4 ≡ p.z = omega (arith, d) in
      record {
        inside = in_lattice_law n q (and_left i₁ v₁ t₃);
        at = λ i. place (ex i) (ey i) (ez i);
        visited = and_right i₁ v₁ t₃;
      }

  stands : (q : Place) → CubeIn n q → corner q o ≡ p → T (is_in vs (cube_no n q)) → T (corner_of n vs p o)
  unfolding corner_of is_cube is_one_of corner
  stands q hq e t =
      let d = div-div-eq-div-mul o 2 2 in
      let ex : q.x + o % 2 ≡ p.x = ap (λ (p : Place). p.x) e in
      let ey : q.y + o / 2 % 2 ≡ p.y = ap (λ (p : Place). p.y) e in
      let ez : q.z + o / 4 ≡ p.z = ap (λ (p : Place). p.z) e in
      let bx : q.x ≡ p.x - o % 2 = omega arith in
      let by : q.y ≡ p.y - o / 2 % 2 = omega arith in
      let bz : q.z ≡ p.z - o / 2 / 2 = omega (arith, d) in
      let b : q ≡ back p o = λ i. place (bx i) (by i) (bz i) in
      and_both (leb (o % 2) p.x) _ (le→leb (o % 2) p.x (omega arith))
      (and_both (leb (o / 2 % 2) p.y) _ (le→leb (o / 2 % 2) p.y (omega arith))
      (and_both (leb (o / 2 / 2) p.z) _ (le→leb (o / 2 / 2) p.z (omega (arith, d)))
      (and_both (in_lattice n (back p o)) (is_in vs (cube_no n (back p o))) (lattice_in n (back p o) (subst (CubeIn n) b hq))
      (subst (λ (q : Place). T (is_in vs (cube_no n q))) b t))))

-- ── the edges with a vertex ──

-- something that is kept, by its number
picked : {A : Type 0} (f : A → ℕ) (p g : A → Bool) (n : ℕ) → ((a : A) → T (g a) → T (p a) × (f a ≡ n)) → (l : List A) → T (any g l)
    → T (is_in (map f (keep p l)) n)
picked f p g n h [] t = absurd t
picked f p g n h (x ∷ xs) t = go (or_cases (g x) (any g xs) t) (λ u. picked f p g n h xs u)
  where
    front : (b : Bool) → T b → f x ≡ n → T (is_in (map f (cons_if b x (keep p xs))) n)
    front true u e = or_left (eqb n (f x)) _ (subst (λ (m : ℕ). T (eqb n m)) (sym e) (eqb_refl n))
    front false u e = absurd u

    behind : (b : Bool) → T (is_in (map f (keep p xs)) n) → T (is_in (map f (cons_if b x (keep p xs))) n)
    behind true u = or_right (eqb n (f x)) _ u
    behind false u = u

    go : T (g x) ⊎ T (any g xs) → (T (any g xs) → T (is_in (map f (keep p xs)) n)) → T (is_in (map f (keep p (x ∷ xs))) n)
    go (inl u) r = let w = h x u in front (p x) w.0 w.1
    go (inr u) r = behind (p x) (r u)

any_more : {A : Type 0} (p q : A → Bool) → ((a : A) → T (p a) → T (q a)) → (l : List A) → T (any p l) → T (any q l)
any_more p q h [] t = absurd t
any_more p q h (x ∷ xs) t = elim (or_cases (p x) (any p xs) t) [
  | inl u ↦ or_left (q x) (any q xs) (h x u)
  | inr u ↦ or_right (q x)
      (any q xs) (any_more p q h xs u)
]

all_at_in : (p : ℕ → Bool) (l : List ℕ) → T (all p l) → (k : ℕ) → T (is_in l k) → T (p k)
all_at_in p l t k u = all_in (λ k. T (p k)) l (all_test p l t) k u

module _ (L : Lattice) (s : Sized L.size) (vs : List ℕ) (within : All (λ k. k < cubes L.size) vs)
    (p : Place) (hp : SampleIn L.size p) (j : ℕ) (hj : j < 7) where
  -- the ends of the edge differ, and it is an edge of a visited cube
  abbrev has_vertex : Bool
  has_vertex = split L p (ends_of j) && any (corner_of L.size vs p) (get_or anchors j [])

  abbrev no : ℕ
  no = edge_from (sample_no L.size p) j

  -- from the cube's list
  down : (k : ℕ) → k < cubes L.size → T (is_in vs k) → T (is_in (cube_edges L k) no) → T has_vertex
  unfolding found
  down k l v t =
      let q = cube_at L.size k in
      let hq = cube_inside L.size s k l in
      all_in (λ n. n ≡ no → T has_vertex) (cube_edges L k)
      (on_cube_edges found all_found (λ n. n ≡ no → T has_vertex) L k (λ e u w r.
      let he = and_left (kind_has e) (is_in (get_or anchors (kind_of e) []) (low e)) u in
      let ha = and_right (kind_has e) (is_in (get_or anchors (kind_of e) []) (low e)) u in
      and_both (split L p (ends_of j)) _ (subst T (split_is L q p hq hp j hj e he r) w)
      (in_any (corner_of L.size vs p) (get_or anchors j []) (low e)
      (subst (λ (k : ℕ). T (is_in (get_or anchors k []) (low e))) (kind_is L q p hq hp j hj e he r) ha)
      (stands L.size vs p (low e) q hq (low_is L q p hq hp j hj e he r)
      (subst (λ (k : ℕ). T (is_in vs k)) (sym (cube_back L.size s k l)) v)))))
      no t refl

  -- into the cube's list
  up : T has_vertex → T (is_in (each (cube_edges L) vs) no)
  unfolding cube_edges some_edge from_to edge_no
  up t =
      let z = L.size in
      let a = any_in (corner_of z vs p) (get_or anchors j []) (and_right (split L p (ends_of j)) _ t) in
      let o = a.0 in
      let w = standing z vs p o a.1.1 in
      let q = back p o in
      let k = cube_no z q in
      let c : cube_at z k ≡ q = cube_place z q (omega (arith, w.inside.x)) (omega (arith, w.inside.y)) in
      let some = all_at_in (λ o. some_edge (from_to j o)) (get_or anchors j [])
      (upto_at 7 (λ j. all (λ o. some_edge (from_to j o)) (get_or anchors j [])) each_anchor j hj) o a.1.0 in
      let one : (e : Ends) → T (from_to j o e) → T (split L q e) × (edge_no z q e ≡ no) =
      λ e u.
      let k₁ = eqb→eq (kind_of e) j (and_left (eqb (kind_of e) j) (eqb (low e) o && kind_has e) u) in
      let u₁ = and_right (eqb (kind_of e) j) (eqb (low e) o && kind_has e) u in
      let o₁ = eqb→eq (low e) o (and_left (eqb (low e) o) (kind_has e) u₁) in
      let he = and_right (eqb (low e) o) (kind_has e) u₁ in
      let r : edge_no z q e ≡ no = (λ i. edge_from (sample_no z (corner q (o₁ i))) (k₁ i))
      ∙ ap (λ (p : Place). edge_from (sample_no z p) j) w.at in
      (subst T (sym (split_is L q p w.inside hp j hj e he r)) (and_left (split L p (ends_of j)) _ t), r)
      in
      let here : T (is_in (each (λ t. map (edge_no z q) (keep (split L q) (tet_edges t))) tets) no) =
      subst T (sym (any_each (eqb no) (λ t. map (edge_no z q) (keep (split L q) (tet_edges t))) tets))
      (any_more (λ t. any (from_to j o) (tet_edges t)) (λ t. is_in (map (edge_no z q) (keep (split L q) (tet_edges t))) no)
      (λ t u. picked (edge_no z q) (split L q) (from_to j o) no one (tet_edges t) u) tets some) in
      subst T (sym (any_each (eqb no) (cube_edges L) vs))
      (in_any (λ k. is_in (cube_edges L k) no) vs k w.visited
      (subst (λ (q : Place). T (is_in (each (λ t. map (edge_no z q) (keep (split L q) (tet_edges t))) tets) no)) (sym c) here))

  -- edge 7 · no + j has a vertex
  pub edge_has : has_vertex ≡ is_in (each (cube_edges L) vs) no
  edge_has =
      bool_same has_vertex (is_in (each (cube_edges L) vs) no) up
      (λ t. let a = any_in (λ k. is_in (cube_edges L k) no) vs (subst T (any_each (eqb no) (cube_edges L) vs) t) in
      down a.0 (all_in (λ k. k < cubes L.size) vs within a.0 a.1.0) a.1.0 a.1.1)
