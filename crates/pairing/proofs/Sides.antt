-- Where a directed edge occurs: in one cube, or in one of the two that share its face; its reverse there too. Assumes nothing.
use mathlib.Core.Path.{◌≡◌, refl, sym, ap, ◌∙◌, subst}
use mathlib.Core.Bool.{Bool}
use mathlib.Core.List.{Memᴰ as In}
use mathlib.Core.Logic.{inl, inr}
use Prim.Native.Nat.{ℕ, ◌+◌, ◌/◌, ◌%◌}
use native.Mathlib.Omega.{arith}
use lib.Dec.{T}
use Rattle.lists.specs.Lists.{each, count}
use Rattle.lists.proofs.Closure.{bool_same}
use Rattle.paper.specs.declared.Sizes.{Sizes}
use Rattle.paper.specs.declared.Place.{Place}
use Rattle.paper.specs.Lattice.{place, corner}
use Rattle.paper.specs.Within.{SampleIn, CubeIn}
use Rattle.paper.specs.Sheet.{row_of, triangles_at}
use Rattle.paper.proofs.Numbers.{corner_inside}
use Rattle.pairing.specs.Pairing.{Arrow, around, is_arrow}
use Rattle.lists.proofs.Counts.{pick, count_map, count_same}
use Rattle.pairing.proofs.Arrows.{is_arrow_law, arrow_is}
use Rattle.pairing.proofs.Table.{Side, side_of, same, is_same, same_is, sides, arrows_in, sides_are, Good}
use Rattle.pairing.proofs.Table.{good_at, Moved, Shape, Neat, neat_at, flat, Axis, across, low_row, high_row}
use Rattle.pairing.proofs.Names.{named_arrow}
use Rattle.pairing.proofs.Edges.{number, arrows_are, number_moved, corner_moved, Edge, One, one_of}

-- ── corners as steps ──

pub corner_zero : (p : Place) → corner p 0 ≡ p
unfolding corner
corner_zero p =
    let x : p.x + 0 ≡ p.x = omega arith in
    let y : p.y + 0 ≡ p.y = omega arith in
    let w : p.z + 0 ≡ p.z = omega arith in
    λ i. place (x i) (y i) (w i)

pub corner_inj : (o : ℕ) (p q : Place) → corner p o ≡ corner q o → p ≡ q
unfolding corner
corner_inj o p q e =
    let a : p.x + o % 2 ≡ q.x + o % 2 = ap (λ (r : Place). r.x) e in
    let b : p.y + o / 2 % 2 ≡ q.y + o / 2 % 2 = ap (λ (r : Place). r.y) e in
    let c : p.z + o / 4 ≡ q.z + o / 4 = ap (λ (r : Place). r.z) e in
    let x : p.x ≡ q.x = omega arith in
    let y : p.y ≡ q.y = omega arith in
    let w : p.z ≡ q.z = omega arith in
    λ i. place (x i) (y i) (w i)

corner_code : (p : Place) (o k : ℕ) → corner p o ≡ corner p k → o ≡ k
unfolding corner
corner_code p o k e =
    let a : p.x + o % 2 ≡ p.x + k % 2 = ap (λ (r : Place). r.x) e in
    let b : p.y + o / 2 % 2 ≡ p.y + k / 2 % 2 = ap (λ (r : Place). r.y) e in
    let c : p.z + o / 4 ≡ p.z + k / 4 = ap (λ (r : Place). r.z) e in
    omega arith

corner_add : (p : Place) (a b c : ℕ) → a % 2 + b % 2 ≡ c % 2 → a / 2 % 2 + b / 2 % 2 ≡ c / 2 % 2
    → a / 4 + b / 4 ≡ c / 4 → corner (corner p a) b ≡ corner p c
unfolding corner
corner_add p a b c h k l =
    let x : p.x + a % 2 + b % 2 ≡ p.x + c % 2 = omega arith in
    let y : p.y + a / 2 % 2 + b / 2 % 2 ≡ p.y + c / 2 % 2 = omega arith in
    let w : p.z + a / 4 + b / 4 ≡ p.z + c / 4 = omega arith in
    λ i. place (x i) (y i) (w i)

-- a side that a cube has
pub side_good : (s : ℕ → Bool) (o u w : ℕ) → (count (same o u w) (sides s) ≡ 0 → ⊥) → Good s o u w
side_good s o u w n =
    let l = arrows_in s in
    let q =
    pick (λ d. same o u w (side_of d)) l (λ y. n (sym (ap (count (same o u w)) (sides_are s)) ∙ count_map (same o u w) side_of l ∙ y)) in
    let e = side_of q.0 in
    let r = is_same o u w e q.2 in
    subst (λ (x : ℕ). Good s x u w) (sym r.offset)
    (subst (λ (x : ℕ). Good s e.o x w) (sym r.first)
    (subst (λ (x : ℕ). Good s e.o e.u x) (sym r.second) (good_at s q.0 q.1)))

module _ (z : Sizes) (air : Place → Bool) where
  -- the sides of a cube's corners
  abbrev pub at : Place → ℕ → Bool
  at p c = air (corner p c)

  -- how often a directed edge occurs in the cube at p
  unfoldable pub hits : ℕ → ℕ → Place → ℕ
  hits e f p = count (is_arrow e f) (each around (triangles_at z air p))

  -- the edges e and f are those with the codes u and w from m, the least of their anchors
  pub record Known (e f : ℕ) (m : Place) (u w : ℕ) : Type 0 where
    pub first : Edge z m u
    pub second : Edge z m w
    pub shape : Shape u w
    pub reverse : Shape w u
    pub e_is : e ≡ number z m u
    pub f_is : f ≡ number z m w

  pub turn_known : {e f : ℕ} {m : Place} {u w : ℕ} → Known e f m u w → Known f e m w u
  turn_known k = record { first = k.second; second = k.first; shape = k.reverse; reverse = k.shape; e_is = k.f_is; f_is = k.e_is }

  edge_at : (p : Place) → CubeIn z p → {o u c : ℕ} → Moved o u c → Edge z (corner p o) u
  edge_at p h {o} {u} {c} m = record {
    anchor = subst (SampleIn z) (corner_moved p m) (corner_inside z p h (c / 8) (omega (arith, m.small)));
    seven = m.seven;
  }

  num_arrow : (e f : ℕ) (p : Place) (d : Arrow) → number z p d.from ≡ e
      → number z p d.to ≡ f → T (is_arrow e f (named_arrow (number z p) d))
  unfolding named_arrow
  num_arrow e f p d a b = arrow_is a b

  known_at : {e f : ℕ} (p : Place) → CubeIn z p → (d : Arrow) → Neat d
      → T (is_arrow e f (named_arrow (number z p) d)) → Known e f (corner p (side_of d).o) (side_of d).u (side_of d).w
  unfolding named_arrow
  known_at {e} {f} p h d n t =
      let q = is_arrow_law e f (named_arrow (number z p) d) t in
      record {
        first = edge_at p h n.from;
        second = edge_at p h n.to;
        shape = n.shape;
        reverse = n.reverse;
        e_is = sym q.0 ∙ number_moved z p n.from;
        f_is = sym q.1 ∙ number_moved z p n.to;
      }

  known_one : {e f : ℕ} {m m' : Place} {u w u' w' : ℕ} → Known e f m u w → Known e f m' u' w' → One z m u w m' u' w'
  known_one a b =
      one_of z a.first a.second a.shape b.first b.second b.shape (sym a.e_is ∙ b.e_is) (sym a.f_is ∙ b.f_is)

  -- where a cube's corner o is m, it has the edge as often as the side (o, u, w)
  pub hits_at : {e f : ℕ} {m : Place} {u w : ℕ} → Known e f m u w → (p : Place) → CubeIn z p → (o : ℕ) → corner p o ≡ m
      → hits e f p ≡ count (same o u w) (sides (at p))
  unfolding hits
  hits_at {e} {f} {m} {u} {w} k p h o c =
      ap (count (is_arrow e f)) (arrows_are z air p)
      ∙ count_map (is_arrow e f) (named_arrow (number z p)) (arrows_in (at p))
      ∙ count_same (λ d. is_arrow e f (named_arrow (number z p) d)) (λ d. same o u w (side_of d)) (arrows_in (at p)) agree
      ∙ sym (count_map (same o u w) side_of (arrows_in (at p)))
      ∙ ap (count (same o u w)) (sides_are (at p))
    where
      agree : (d : Arrow) → In d (arrows_in (at p)) → is_arrow e f (named_arrow (number z p) d) ≡ same o u w (side_of d)
      agree d i = bool_same (is_arrow e f (named_arrow (number z p) d)) (same o u w s) to from
        where
          s : Side
          s = side_of d

          to : T (is_arrow e f (named_arrow (number z p) d)) → T (same o u w s)
          to q =
              let r = known_one k (known_at p h d (neat_at (at p) d i) q) in
              same_is o u w s (record { offset = corner_code p o s.o (c ∙ r.place); first = r.first; second = r.second })

          from : T (same o u w s) → T (is_arrow e f (named_arrow (number z p) d))
          from q =
              let r = is_same o u w s q in
              let n = neat_at (at p) d i in
              let em : corner p s.o ≡ m = ap (corner p) (sym r.offset) ∙ c in
              num_arrow e f p d (number_moved z p n.from ∙ (λ i. number z (em i) (sym r.first i)) ∙ sym k.e_is)
              (number_moved z p n.to ∙ (λ i. number z (em i) (sym r.second i)) ∙ sym k.f_is)

  -- a cube that has the edge: its side there
  pub record Found (e f : ℕ) (p : Place) : Type 0 where
    pub o : ℕ
    pub u : ℕ
    pub w : ℕ
    pub known : Known e f (corner p o) u w
    pub good : Good (at p) o u w

  pub found : (e f : ℕ) (p : Place) → CubeIn z p → (hits e f p ≡ 0 → ⊥) → Found e f p
  unfolding hits
  found e f p h n =
      let l = arrows_in (at p) in
      let q = pick (λ d. is_arrow e f (named_arrow (number z p) d)) l
      (λ y. n (ap (count (is_arrow e f)) (arrows_are z air p) ∙ count_map (is_arrow e f) (named_arrow (number z p)) l ∙ y)) in
      let s = side_of q.0 in
      record {
        o = s.o;
        u = s.u;
        w = s.w;
        known = known_at p h q.0 (neat_at (at p) q.0 q.1) q.2;
        good = good_at (at p) q.0 q.1;
      }

  -- the same of an edge that is known already
  pub record Spot (m : Place) (u w : ℕ) (p : Place) : Type 0 where
    pub o : ℕ
    pub there : corner p o ≡ m
    pub good : Good (at p) o u w

  pub spot : {e f : ℕ} {m : Place} {u w : ℕ} → Known e f m u w → (p : Place) → CubeIn z p → (hits e f p ≡ 0 → ⊥) → Spot m u w p
  spot {e} {f} {m} {u} {w} k p h n =
      let g = found e f p h n in
      let r = known_one g.known k in
      record {
        o = g.o;
        there = r.place;
        good =
            subst (λ (x : ℕ). Good (at p) g.o x w) r.first (subst (λ (x : ℕ). Good (at p) g.o g.u x) r.second g.good);
      }

  -- the cube along an axis has as its low face the other's high face
  beside : (f : ℕ) → Axis f → (p : Place) → low_row f (at (corner p f)) ≡ high_row f (at p)
  unfolding low_row high_row
  beside f (inl e) p =
      subst (λ (k : ℕ). low_row k (at (corner p k)) ≡ high_row k (at p)) (sym e)
      (λ i. row_of (air (corner_add p 1 0 1 refl refl refl i)) (air (corner_add p 1 2 3 refl refl refl i))
      (air (corner_add p 1 4 5 refl refl refl i)) (air (corner_add p 1 6 7 refl refl refl i)))
  beside f (inr (inl e)) p =
      subst (λ (k : ℕ). low_row k (at (corner p k)) ≡ high_row k (at p)) (sym e)
      (λ i. row_of (air (corner_add p 2 0 2 refl refl refl i)) (air (corner_add p 2 1 3 refl refl refl i))
      (air (corner_add p 2 4 6 refl refl refl i)) (air (corner_add p 2 5 7 refl refl refl i)))
  beside f (inr (inr e)) p =
      subst (λ (k : ℕ). low_row k (at (corner p k)) ≡ high_row k (at p)) (sym e)
      (λ i. row_of (air (corner_add p 4 0 4 refl refl refl i)) (air (corner_add p 4 1 5 refl refl refl i))
      (air (corner_add p 4 2 6 refl refl refl i)) (air (corner_add p 4 3 7 refl refl refl i)))

  -- ── an edge that is known, with an axis: it stands in a face with the low corner m ──
  module _ {e f : ℕ} {m : Place} {u w : ℕ} (k : Known e f m u w) (ax : Axis (flat u w)) where
    -- it is as often in the cube before the face as its reverse in the cube after it
    pub hits_before : (p : Place) → CubeIn z p → corner p (flat u w) ≡ m → hits e f p ≡ count (same 0 w u) (sides (at m))
    hits_before p h c =
        hits_at k p h (flat u w) c
        ∙ across (flat u w) ax u w k.shape.turn (at p) (at (corner p (flat u w))) (beside (flat u w) ax p)
        ∙ ap (λ (q : Place). count (same 0 w u) (sides (at q))) c

    pub hits_after : (p : Place) → CubeIn z p → p ≡ m → hits e f p ≡ count (same 0 u w) (sides (at m))
    hits_after p h c = hits_at k p h 0 (corner_zero p ∙ c) ∙ ap (λ (q : Place). count (same 0 u w) (sides (at q))) c
