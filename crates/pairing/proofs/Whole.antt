-- The pairing over any list of cubes that is closed under steps through mixed faces into cubes that may be visited, for any sides of the
-- samples. Assumes nothing.
use mathlib.Core.Path.{◌≡◌, refl, sym, ap, ◌∙◌, subst}
use mathlib.Core.Bool.{Bool, true, false, not, cond, ◌&&◌}
use mathlib.Core.List.Memᴰ
use mathlib.Core.List.Memᴰ.{head as here}
use mathlib.Core.List.Memᴰ.{tail as there}
use mathlib.Core.List.{List, map, Memᴰ as In}
use mathlib.Core.Logic.{◌⊎◌, inl, inr}
use Prim.Native.Nat.{ℕ, ◌+◌, ◌-◌, ◌/◌, ◌%◌}
use native.Mathlib.Omega.{arith}
use lib.Dec.{T, eqb, eqb→eq, lt→ltb}
use Rattle.lists.specs.Lists.{each, count}
use Rattle.lists.proofs.Member.{t_to_eq, eq_to_t, or_cases, and_both, and_left, and_right}
use Rattle.paper.specs.declared.Sizes.{Sizes}
use Rattle.paper.specs.declared.Place.{Place}
use Rattle.paper.specs.Lattice.{place, corner, mixed, Face, faces}
use Rattle.paper.specs.Within.{CubeIn}
use Rattle.pairing.specs.Pairing.{around, is_arrow, times}
use Rattle.paper.specs.Sheet.{triangles_at}
use Rattle.pairing.specs.Visitable.{same_place, shared}
use Rattle.lists.proofs.Within.{same3, of_same3, t_to_false, each_each}
use Rattle.lists.proofs.Counts.{count_each, sum, sum_one, sum_none, sum_some, Unique}
use Rattle.pairing.proofs.Table.{same, sides, Good, flat, flat_cases, Axis, low_face, high_face}
use Rattle.pairing.proofs.Sides.{side_good, at, hits, Known, turn_known, Found, found, Spot, spot}
use Rattle.pairing.proofs.Sides.{hits_at, hits_before, hits_after, corner_zero, corner_inj}

-- cubes, each once, all of which may be visited; and with a cube those that a step through a mixed face leads to, if they may be visited
pub record Spread (air may : Place → Bool) (vs : List Place) : Type 0 where
  pub distinct : Unique vs
  pub inside : (p : Place) → In p vs → T (may p)
  pub step : (p : Place) (f : Face) → In p vs → In f (faces p) → T f.there
      → T (mixed (map (λ c. air (corner p c)) f.corners)) → T (may f.beyond) → In f.beyond vs

-- the reverse of a side is not there
abbrev pub lone : (Place → Bool) → ℕ → Place → Bool
lone may f m = not (eqb f 0) && not (shared may f m)

not_zero : {f : ℕ} → Axis f → f ≡ 0 → ⊥
not_zero (inl e) q = omega arith
not_zero (inr (inl e)) q = omega arith
not_zero (inr (inr e)) q = omega arith

lone_is : (may : Place → Bool) (f : ℕ) (m : Place) (b : Bool) → Axis f
    → shared may f m ≡ b → cond {A = ℕ} (lone may f m) 0 1 ≡ cond {A = ℕ} b 1 0
lone_is may f m true ax e = λ i. cond {A = ℕ} (not (t_to_false (eqb f 0) (λ t. not_zero ax (eqb→eq f 0 t)) i) && not (e i)) 0 1
lone_is may f m false ax e = λ i. cond {A = ℕ} (not (t_to_false (eqb f 0) (λ t. not_zero ax (eqb→eq f 0 t)) i) && not (e i)) 0 1

-- a cube that may be visited, before the face with the low corner m
pub record Before (may : Place → Bool) (f : ℕ) (m : Place) : Type 0 where
  pub cube : Place
  pub there : corner cube f ≡ m
  pub may_be : T (may cube)

-- places by their coordinates
at_place : (p : Place) (x y w : ℕ) → p.x ≡ x → p.y ≡ y → p.z ≡ w → p ≡ place x y w
at_place p x y w a b c = λ i. place (a i) (b i) (c i)

pub along : (o : ℕ) (p : Place) (x y w : ℕ) → p.x + o % 2 ≡ x → p.y + o / 2 % 2 ≡ y → p.z + o / 4 ≡ w → corner p o ≡ place x y w
unfolding corner
along o p x y w a b c = λ i. place (a i) (b i) (c i)

pub off : (o : ℕ) (d p : Place) → corner d o ≡ p → (d.x + o % 2 ≡ p.x) × (d.y + o / 2 % 2 ≡ p.y) × (d.z + o / 4 ≡ p.z)
unfolding corner
off o d p e = (ap (λ (r : Place). r.x) e, ap (λ (r : Place). r.y) e, ap (λ (r : Place). r.z) e)

pub same_place_law : (p q : Place) → T (same_place p q) → p ≡ q
unfolding same_place
same_place_law p q t =
    let e = same3 p.x p.y p.z q.x q.y q.z t in
    at_place p q.x q.y q.z e.0 e.1 e.2

pub place_same : {p q : Place} → p ≡ q → T (same_place p q)
unfolding same_place
place_same {p} {q} e =
    of_same3 (ap (λ (r : Place). r.x) e) (ap (λ (r : Place). r.y) e) (ap (λ (r : Place). r.z) e)

module _ (may : Place → Bool) (f : ℕ) (m : Place) where
  abbrev back : Place
  back = place (m.x - f % 2) (m.y - f / 2 % 2) (m.z - f / 4)

  pub shared_after : T (shared may f m) → T (may m)
  unfolding shared
  shared_after t = and_left (may m) (same_place (corner back f) m && may back) t

  pub shared_before : T (shared may f m) → Before may f m
  unfolding shared
  shared_before t =
      let r = and_right (may m) (same_place (corner back f) m && may back) t in
      record {
        cube = back;
        there = same_place_law (corner back f) m (and_left (same_place (corner back f) m) (may back) r);
        may_be = and_right (same_place (corner back f) m) (may back) r;
      }

  pub is_shared : T (may m) → (d : Place) → corner d f ≡ m → T (may d) → T (shared may f m)
  unfolding shared
  is_shared t d c s =
      let b = off f d m c in
      let e : d ≡ back =
      at_place d (m.x - f % 2) (m.y - f / 2 % 2) (m.z - f / 4) (omega (arith, b)) (omega (arith, b)) (omega (arith, b)) in
      and_both (may m) (same_place (corner back f) m && may back) t
      (and_both (same_place (corner back f) m) (may back)
      (place_same (ap (λ (p : Place). corner p f) (sym e) ∙ c)) (subst (λ (p : Place). T (may p)) e s))

module _ {air may : Place → Bool} {vs : List Place} (sp : Spread air may vs) where
  enter : (p q : Place) (g : Face) → In p vs → In g (faces p) → T g.there
      → T (mixed (map (λ c. air (corner p c)) g.corners)) → q ≡ g.beyond → T (may q) → In q vs
  enter p q g i j h t e k = Memᴰ.cast e (sp.step p g i j h t (subst (λ (r : Place). T (may r)) e k))

  -- a step over the high face across an axis
  up : (f : ℕ) → Axis f → (p : Place) → In p vs → T (high_face f (λ c. air (corner p c))) → T (may (corner p f)) → In (corner p f) vs
  unfolding high_face faces
  up f (inl e) p i t k =
      enter p (corner p f) _ i (there (here refl)) tt
      (subst (λ (n : ℕ). T (high_face n (λ c. air (corner p c)))) e t)
      (ap (corner p) e ∙ along 1 p (p.x + 1) p.y p.z (omega arith) (omega arith) (omega arith)) k
  up f (inr (inl e)) p i t k =
      enter p (corner p f) _ i (there (there (there (here refl)))) tt
      (subst (λ (n : ℕ). T (high_face n (λ c. air (corner p c)))) e t)
      (ap (corner p) e ∙ along 2 p p.x (p.y + 1) p.z (omega arith) (omega arith) (omega arith)) k
  up f (inr (inr e)) p i t k =
      enter p (corner p f) _ i (there (there (there (there (there (here refl)))))) tt
      (subst (λ (n : ℕ). T (high_face n (λ c. air (corner p c)))) e t)
      (ap (corner p) e ∙ along 4 p p.x p.y (p.z + 1) (omega arith) (omega arith) (omega arith)) k

  -- and over the low face
  down : (f : ℕ) → Axis f → (p d : Place) → corner d f ≡ p → In p vs → T (low_face f (λ c. air (corner p c))) → T (may d) → In d vs
  unfolding low_face faces
  down f (inl e) p d c i t k =
      let b = off 1 d p (ap (corner d) (sym e) ∙ c) in
      enter p d _ i (here refl) (lt→ltb 0 p.x (omega (arith, b)))
      (subst (λ (n : ℕ). T (low_face n (λ c. air (corner p c)))) e t)
      (at_place d (p.x - 1) p.y p.z (omega (arith, b)) (omega (arith, b)) (omega (arith, b))) k
  down f (inr (inl e)) p d c i t k =
      let b = off 2 d p (ap (corner d) (sym e) ∙ c) in
      enter p d _ i (there (there (here refl))) (lt→ltb 0 p.y (omega (arith, b)))
      (subst (λ (n : ℕ). T (low_face n (λ c. air (corner p c)))) e t)
      (at_place d p.x (p.y - 1) p.z (omega (arith, b)) (omega (arith, b)) (omega (arith, b))) k
  down f (inr (inr e)) p d c i t k =
      let b = off 4 d p (ap (corner d) (sym e) ∙ c) in
      enter p d _ i (there (there (there (there (here refl))))) (lt→ltb 0 p.z (omega (arith, b)))
      (subst (λ (n : ℕ). T (low_face n (λ c. air (corner p c)))) e t)
      (at_place d p.x p.y (p.z - 1) (omega (arith, b)) (omega (arith, b)) (omega (arith, b))) k

-- m is the low corner of a cube of the lattice, or stands across it along an axis
pub record Near (z : Sizes) (f : ℕ) (m : Place) : Type 0 where
  pub o : ℕ
  pub own : (o ≡ 0) ⊎ (o ≡ f)
  pub cube : Place
  pub inside : CubeIn z cube
  pub there : corner cube o ≡ m

-- ── how often an edge occurs in all cubes of the list ──

module _ (z : Sizes) (air may : Place → Bool) (within : (p : Place) → T (may p) → CubeIn z p)
    (vs : List Place) (sp : Spread air may vs) where
  abbrev pub total : ℕ → ℕ → ℕ
  total e f = sum (hits z air e f) vs

  pub times_are : (e f : ℕ) → times (each (triangles_at z air) vs) e f ≡ total e f
  unfolding times hits
  times_are e f =
      ap (count (is_arrow e f)) (each_each around (triangles_at z air) vs)
      ∙ count_each (is_arrow e f) (λ p. each around (triangles_at z air p)) vs

  cube_in : (p : Place) → In p vs → CubeIn z p
  cube_in p i = within p (sp.inside p i)

  spot_at : {e f : ℕ} {m : Place} {u w : ℕ} → Known z air e f m u w
      → (p : Place) → In p vs → (hits z air e f p ≡ 0 → ⊥) → Spot z air m u w p
  spot_at k p i n = spot z air k p (cube_in p i) n

  -- a side that occurs, and how often it and its reverse do
  pub record Settled (e f : ℕ) : Type 0 where
    pub m : Place
    pub u : ℕ
    pub w : ℕ
    pub known : Known z air e f m u w
    pub once : total e f ≡ 1
    pub reverse : total f e ≡ cond (lone may (flat u w) m) 0 1
    pub near : Near z (flat u w) m

  -- with no axis: it and its reverse are in the cube at m
  inner : {e f : ℕ} {m : Place} {u w : ℕ} → Known z air e f m u w → flat u w ≡ 0 → In m vs → Good (at z air m) 0 u w → Settled e f
  inner {e} {f} {m} {u} {w} k a i g = record {
    m = m;
    u = u;
    w = w;
    known = k;
    once = sum_one (hits z air e f) sp.distinct m i (only k a) ∙ hits_at z air k m (cube_in m i) 0 (corner_zero m) ∙ g.once;
    reverse =
        sum_one (hits z air f e) sp.distinct m i (only (turn_known z air k) (k.shape.turn ∙ a))
        ∙ hits_at z air (turn_known z air k) m (cube_in m i) 0 (corner_zero m)
        ∙ g.turn
        ∙ (λ j. cond (eqb (a j) 0) 1 0)
        ∙ sym (λ j. cond (lone may (a j) m) 0 1);
    near = record { o = 0; own = inl refl; cube = m; inside = cube_in m i; there = corner_zero m };
  }
    where
      only : {e f u w : ℕ} → Known z air e f m u w → flat u w ≡ 0 → (p : Place) → In p vs → (hits z air e f p ≡ 0 → ⊥) → p ≡ m
      only {u = u} {w = w} k a p i n =
          let s = spot_at k p i n in
          sym (corner_zero p) ∙ ap (corner p) (sym (elim s.good.own [ inl c ↦ c | inr c ↦ c ∙ a ])) ∙ s.there

  -- ── with an axis: it stands in the face with the low corner m, in the cube after it or in the cube before it ──
  module _ {e f : ℕ} {m : Place} {u w : ℕ} (k : Known z air e f m u w) (ax : Axis (flat u w)) where
    turn : flat w u ≡ flat u w
    turn = k.shape.turn

    k' : Known z air f e m w u
    k' = turn_known z air k

    ax' : Axis (flat w u)
    ax' = subst Axis (sym turn) ax

    stands : (p : Place) → In p vs → (hits z air e f p ≡ 0 → ⊥) → (p ≡ m) ⊎ (corner p (flat u w) ≡ m)
    stands p i n =
        let s = spot_at k p i n in
        elim s.good.own [
          | inl c ↦ inl (sym (corner_zero p) ∙ ap (corner p) (sym c) ∙ s.there)
          | inr c ↦ inr (ap (corner p) (sym c) ∙ s.there)
        ]

    stands' : (p : Place) → In p vs → (hits z air f e p ≡ 0 → ⊥) → (p ≡ m) ⊎ (corner p (flat u w) ≡ m)
    stands' p i n =
        let s = spot_at k' p i n in
        elim s.good.own [
          | inl c ↦ inl (sym (corner_zero p) ∙ ap (corner p) (sym c) ∙ s.there)
          | inr c ↦ inr (ap (corner p) (sym (c ∙ turn)) ∙ s.there)
        ]

    -- how often the cube after and the cube before have the edge and its reverse
    abbrev here_count : ℕ
    here_count = count (same 0 u w) (sides (at z air m))

    abbrev back_count : ℕ
    back_count = count (same 0 w u) (sides (at z air m))

    after : (p : Place) → In p vs → p ≡ m → hits z air e f p ≡ here_count
    after p i c = hits_after z air k ax p (cube_in p i) c

    after' : (p : Place) → In p vs → p ≡ m → hits z air f e p ≡ back_count
    after' p i c = hits_after z air k' ax' p (cube_in p i) c

    prior : (p : Place) → In p vs → corner p (flat u w) ≡ m → hits z air e f p ≡ back_count
    prior p i c = hits_before z air k ax p (cube_in p i) c

    prior' : (p : Place) → In p vs → corner p (flat u w) ≡ m → hits z air f e p ≡ here_count
    prior' p i c = hits_before z air k' ax' p (cube_in p i) (ap (corner p) turn ∙ c)

    not_axis : cond {A = ℕ} (eqb (flat u w) 0) 1 0 ≡ 0
    not_axis = ap (λ (b : Bool). cond {A = ℕ} b 1 0) (t_to_false (eqb (flat u w) 0) (λ t. not_zero ax (eqb→eq (flat u w) 0 t)))

    -- the cube after the face has it: the cube before has the reverse, if it may be visited
    in_after : In m vs → Good (at z air m) 0 u w → Settled e f
    in_after i g = record {
      m = m;
      u = u;
      w = w;
      known = k;
      once = sum_one (hits z air e f) sp.distinct m i only ∙ after m i refl ∙ g.once;
      reverse = go (shared may (flat u w) m) refl;
      near = record { o = 0; own = inl refl; cube = m; inside = cube_in m i; there = corner_zero m };
    }
      where
        no_back : back_count ≡ 0
        no_back = g.turn ∙ not_axis

        only : (p : Place) → In p vs → (hits z air e f p ≡ 0 → ⊥) → p ≡ m
        only p j n = elim (stands p j n) [ inl c ↦ c | inr c ↦ absurd (n (prior p j c ∙ no_back)) ]

        only' : (p : Place) → In p vs → (hits z air f e p ≡ 0 → ⊥) → corner p (flat u w) ≡ m
        only' p j n = elim (stands' p j n) [ inl c ↦ absurd (n (after' p j c ∙ no_back)) | inr c ↦ c ]

        mixes : T (low_face (flat u w) (at z air m))
        mixes =
            elim (or_cases (eqb (flat u w) 0) (low_face (flat u w) (at z air m)) g.face) [
              | inl t ↦ absurd (not_zero ax (eqb→eq (flat u w) 0 t))
              | inr t ↦ t
            ]

        go : (b : Bool) → shared may (flat u w) m ≡ b → total f e ≡ cond (lone may (flat u w) m) 0 1
        go true q =
            let b = shared_before may (flat u w) m (eq_to_t q) in
            let j = down sp (flat u w) ax m b.cube b.there i mixes b.may_be in
            sum_one (hits z air f e) sp.distinct b.cube j (λ p l n. corner_inj (flat u w) p b.cube (only' p l n ∙ sym b.there))
            ∙ prior' b.cube j b.there
            ∙ g.once
            ∙ sym (lone_is may (flat u w) m true ax q)
        go false q =
            sum_none (hits z air f e) vs
            (λ p l n. subst T q (is_shared may (flat u w) m (sp.inside m i) p (only' p l n) (sp.inside p l)))
            ∙ sym (lone_is may (flat u w) m false ax q)

    -- the cube before the face has it: the cube after has the reverse, if it may be visited
    in_before : (d : Place) → In d vs → corner d (flat u w) ≡ m → Good (at z air d) (flat u w) u w → Settled e f
    in_before d i c g = record {
      m = m;
      u = u;
      w = w;
      known = k;
      once = sum_one (hits z air e f) sp.distinct d i only ∙ prior d i c ∙ one_back;
      reverse = go (may m) refl;
      near = record { o = flat u w; own = inr refl; cube = d; inside = cube_in d i; there = c };
    }
      where
        one_back : back_count ≡ 1
        one_back = sym (prior d i c) ∙ hits_at z air k d (cube_in d i) (flat u w) c ∙ g.once

        none_here : here_count ≡ 0
        none_here =
            (side_good (at z air m) 0 w u (λ y. omega (arith, one_back, y))).turn
            ∙ ap (λ (n : ℕ). cond {A = ℕ} (eqb n 0) 1 0) turn ∙ not_axis

        only : (p : Place) → In p vs → (hits z air e f p ≡ 0 → ⊥) → p ≡ d
        only p j n = elim (stands p j n) [ inl q ↦ absurd (n (after p j q ∙ none_here)) | inr q ↦ corner_inj (flat u w) p d (q ∙ sym c) ]

        only' : (p : Place) → In p vs → (hits z air f e p ≡ 0 → ⊥) → p ≡ m
        only' p j n = elim (stands' p j n) [ inl q ↦ q | inr q ↦ absurd (n (prior' p j q ∙ none_here)) ]

        mixes : T (high_face (flat u w) (at z air d))
        mixes =
            let low = low_face (flat u w) (at z air d) in
            let high = high_face (flat u w) (at z air d) in
            elim (or_cases (eqb (flat u w) 0) (cond (eqb (flat u w) 0) low high) g.face) [
              | inl t ↦ absurd (not_zero ax (eqb→eq (flat u w) 0 t))
              | inr t ↦ subst (λ (b : Bool). T (cond b low high)) (t_to_false (eqb (flat u w) 0) (λ y. not_zero ax (eqb→eq (flat u w) 0 y))) t
            ]

        go : (b : Bool) → may m ≡ b → total f e ≡ cond (lone may (flat u w) m) 0 1
        go true q =
            let j : In m vs = Memᴰ.cast (sym c) (up sp (flat u w) ax d i mixes (subst (λ (p : Place). T (may p)) (sym c) (eq_to_t q))) in
            sum_one (hits z air f e) sp.distinct m j only'
            ∙ after' m j refl
            ∙ one_back
            ∙ sym (lone_is may (flat u w) m true ax
            (t_to_eq (shared may (flat u w) m) (is_shared may (flat u w) m (eq_to_t q) d c (sp.inside d i))))
        go false q =
            sum_none (hits z air f e) vs (λ p l n. subst T (ap may (only' p l n) ∙ q) (sp.inside p l))
            ∙ sym (lone_is may (flat u w) m false ax (t_to_false (shared may (flat u w) m) (λ t. subst T q (shared_after may (flat u w) m t))))

  pub settled : (e f : ℕ) → (total e f ≡ 0 → ⊥) → Settled e f
  settled e f n =
      let q = sum_some (hits z air e f) vs n in
      by q.0 q.1 (found z air e f q.0 (cube_in q.0 q.1) q.2)
    where
      by : (p : Place) → In p vs → Found z air e f p → Settled e f
      by p i g =
          elim g.good.own [
            | inl c ↦ at_zero c (flat_cases g.u g.w)
            | inr c ↦ across_it c (flat_cases g.u g.w)
          ]
        where
          at_zero : g.o ≡ 0 → (flat g.u g.w ≡ 0) ⊎ Axis (flat g.u g.w) → Settled e f
          at_zero c a =
              let k = subst (λ (q : Place). Known z air e f q g.u g.w) (ap (corner p) c ∙ corner_zero p) g.known in
              let h = subst (λ (o : ℕ). Good (at z air p) o g.u g.w) c g.good in
              elim a [ inl y ↦ inner k y i h | inr y ↦ in_after k y i h ]

          across_it : g.o ≡ flat g.u g.w → (flat g.u g.w ≡ 0) ⊎ Axis (flat g.u g.w) → Settled e f
          across_it c (inl a) = at_zero (c ∙ a) (inl a)
          across_it c (inr a) =
              in_before g.known a p i (ap (corner p) (sym c)) (subst (λ (o : ℕ). Good (at z air p) o g.u g.w) c g.good)
