-- Lattice edges by a cube and a code: their numbers, what tells them apart, and where their ends stand. Assumes nothing.
use mathlib.Core.Path.{◌≡◌, refl, sym, ap, ◌∙◌}
use mathlib.Core.Bool.{Bool}
use mathlib.Core.List.{List, [], ◌∷◌, ◌++◌, map}
use Prim.Native.Nat.{ℕ, ◌+◌, ◌-◌, ◌*◌, ◌/◌, ◌%◌, ◌<◌, min}
use native.Mathlib.Omega.{arith}
use lib.ListN.{get_or}
use Rattle.lists.specs.Lists.{each}
use Rattle.paper.specs.declared.Sizes.{Sizes}
use Rattle.paper.specs.declared.Place.{Place}
use Rattle.paper.specs.Lattice.{place, corner, sample_no, sample_at}
use Rattle.paper.specs.Within.{SampleIn}
use Rattle.paper.specs.Tables.{Ends, Tet, Tri, ends, tri, tets, rows, tet_edges, low, kind_of}
use Rattle.paper.specs.Sheet.{edge_no, anchor_of, kind_in, tet_edge, tri_edges, row_at, row_of, triangles_at}
use Rattle.paper.proofs.Numbers.{sample_place}
use Rattle.paper.proofs.Tables.{kind_lt}
use Rattle.paper.proofs.Listing.{named}
use Rattle.pairing.specs.Pairing.{around}
use Rattle.lists.proofs.Within.{map_each}
use Rattle.pairing.proofs.Names.{named_arrow, around_named}
use Rattle.pairing.proofs.Table.{code, code_at, code_tri, tris_in, arrows_in, Moved, Shape}

-- the number of the edge that has the code u from the corner at p
unfoldable pub number : Sizes → Place → ℕ → ℕ
number z p u = 7 * sample_no z (corner p (u / 8)) + u % 8

-- ── a cube's triangles by codes ──

pub edge_number : (z : Sizes) (p : Place) (e : Ends) → edge_no z p e ≡ number z p (code e)
unfolding edge_no number code
edge_number z p e =
    let k = kind_lt e in
    let a : low e ≡ (8 * low e + kind_of e) / 8 = omega arith in
    let b : kind_of e ≡ (8 * low e + kind_of e) % 8 = omega arith in
    λ i. 7 * sample_no z (corner p (a i)) + b i

module _ (z : Sizes) (air : Place → Bool) (p : Place) where
  tri_number : (t : Tet) (r : Tri) → tri_edges z p t r ≡ named (number z p) (code_tri t r)
  unfolding tri_edges tet_edge named code_tri code_at
  tri_number t r =
      λ i. tri (edge_number z p (get_or (tet_edges t) (r.a - 1) (ends 0 0)) i) (edge_number z p (get_or (tet_edges t) (r.b - 1) (ends 0 0)) i)
      (edge_number z p (get_or (tet_edges t) (r.c - 1) (ends 0 0)) i)

  tris_number : (t : Tet) (l : List Tri) → map (tri_edges z p t) l ≡ map (named (number z p)) (map (code_tri t) l)
  tris_number t [] = refl
  tris_number t (r ∷ l) = λ i. tri_number t r i ∷ tris_number t l i

  triangles_are : triangles_at z air p ≡ map (named (number z p)) (tris_in (λ c. air (corner p c)))
  unfolding triangles_at row_at tris_in
  triangles_are =
      go tets
      ∙ sym (map_each (named (number z p)) (λ t. map (code_tri t) (at t)) tets)
    where
      at : Tet → List Tri
      at t = get_or rows (row_of (air (corner p t.a)) (air (corner p t.b)) (air (corner p t.c)) (air (corner p t.d))) []

      go : (l : List Tet) → each (λ t. map (tri_edges z p t) (at t)) l ≡ each (λ t. map (named (number z p)) (map (code_tri t) (at t))) l
      go [] = refl
      go (t ∷ l) = λ i. tris_number t (at t) i ++ go l i

  pub arrows_are : each around (triangles_at z air p) ≡ map (named_arrow (number z p)) (arrows_in (λ c. air (corner p c)))
  unfolding arrows_in
  arrows_are = ap (each around) triangles_are ∙ around_named (number z p) (tris_in (λ c. air (corner p c)))

-- ── numbers tell edges apart ──

pub corner_moved : (p : Place) {o u c : ℕ} → Moved o u c → corner p (c / 8) ≡ corner (corner p o) (u / 8)
unfolding corner
corner_moved p {o} {u} {c} m =
    let x : p.x + c / 8 % 2 ≡ p.x + o % 2 + u / 8 % 2 = omega (arith, m.x) in
    let y : p.y + c / 8 / 2 % 2 ≡ p.y + o / 2 % 2 + u / 8 / 2 % 2 = omega (arith, m.y) in
    let w : p.z + c / 8 / 4 ≡ p.z + o / 4 + u / 8 / 4 = omega (arith, m.z) in
    λ i. place (x i) (y i) (w i)

same_axis : (m q a b c d : ℕ) → m + a ≡ q + c → m + b ≡ q + d → min a b ≡ 0 → min c d ≡ 0 → (m ≡ q) × (a ≡ c) × (b ≡ d)
same_axis m q a b c d e f g h = omega arith

same_code : (u v : ℕ) → u % 8 ≡ v % 8 → u / 8 % 2 ≡ v / 8 % 2 → u / 8 / 2 % 2 ≡ v / 8 / 2 % 2 → u / 8 / 4 ≡ v / 8 / 4 → u ≡ v
same_code u v k x y w = omega arith

module _ (z : Sizes) where
  pub number_moved : (p : Place) {o u c : ℕ} → Moved o u c → number z p c ≡ number z (corner p o) u
  unfolding number
  number_moved p m = λ i. 7 * sample_no z (corner_moved p m i) + sym m.kind i

  -- an edge whose anchor is a sample of the lattice, and what its number tells
  pub record Edge (m : Place) (u : ℕ) : Type 0 where
    pub anchor : SampleIn z (corner m (u / 8))
    pub seven : u % 8 < 7

  pub kind_of_law : {m : Place} {u : ℕ} → Edge m u → kind_in (number z m u) ≡ u % 8
  unfolding number
  kind_of_law {m} {u} e = let h = e.seven in omega arith

  pub anchor_of_law : {m : Place} {u : ℕ} → Edge m u → anchor_of z (number z m u) ≡ corner m (u / 8)
  unfolding anchor_of number
  anchor_of_law {m} {u} e =
      let h = e.seven in
      let a : (7 * sample_no z (corner m (u / 8)) + u % 8) / 7 ≡ sample_no z (corner m (u / 8)) = omega arith in
      ap (sample_at z) a ∙ sample_place z (corner m (u / 8)) e.anchor.x e.anchor.y

  pub record One (m : Place) (u w : ℕ) (m' : Place) (u' w' : ℕ) : Type 0 where
    pub place : m ≡ m'
    pub first : u ≡ u'
    pub second : w ≡ w'

  pub one_of : {m m' : Place} {u w u' w' : ℕ} → Edge m u → Edge m w → Shape u w → Edge m' u' → Edge m' w' → Shape u' w'
      → number z m u ≡ number z m' u' → number z m w ≡ number z m' w' → One m u w m' u' w'
  unfolding corner
  one_of {m} {m'} {u} {w} {u'} {w'} a b s c d t e f =
      let p : corner m (u / 8) ≡ corner m' (u' / 8) = sym (anchor_of_law a) ∙ ap (anchor_of z) e ∙ anchor_of_law c in
      let q : corner m (w / 8) ≡ corner m' (w' / 8) = sym (anchor_of_law b) ∙ ap (anchor_of z) f ∙ anchor_of_law d in
      let k : u % 8 ≡ u' % 8 = sym (kind_of_law a) ∙ ap kind_in e ∙ kind_of_law c in
      let l : w % 8 ≡ w' % 8 = sym (kind_of_law b) ∙ ap kind_in f ∙ kind_of_law d in
      let x = same_axis m.x m'.x (u / 8 % 2) (w / 8 % 2) (u' / 8 % 2) (w' / 8 % 2)
      (ap (λ (r : Place). r.x) p) (ap (λ (r : Place). r.x) q) s.x t.x in
      let y = same_axis m.y m'.y (u / 8 / 2 % 2) (w / 8 / 2 % 2) (u' / 8 / 2 % 2) (w' / 8 / 2 % 2)
      (ap (λ (r : Place). r.y) p) (ap (λ (r : Place). r.y) q) s.y t.y in
      let v = same_axis m.z m'.z (u / 8 / 4) (w / 8 / 4) (u' / 8 / 4) (w' / 8 / 4)
      (ap (λ (r : Place). r.z) p) (ap (λ (r : Place). r.z) q) s.z t.z in
      record {
        place = λ i. place (x.0 i) (y.0 i) (v.0 i);
        first = same_code u u' k x.1 y.1 v.1;
        second = same_code w w' l x.2 y.2 v.2;
      }
