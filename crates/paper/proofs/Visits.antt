-- The visited cubes: a cube is in the list exactly when steps from the start lead to it. Assumes nothing.
use mathlib.Core.Path.{◌≡◌, refl, sym, ap, subst, ◌∙◌}
use mathlib.Core.Bool.{Bool, ◌&&◌}
use Prim.Native.Nat.{ℕ, ◌+◌, ◌≤◌, ◌<◌}
use native.Mathlib.Omega.{arith}
use lib.Dec.{T, ltb, leb, eqb, ltb→lt, lt→ltb, leb→le}
use Rattle.lists.specs.Lists.{range, keep, is_in}
use Rattle.lists.specs.Reach.{here, step}
use Rattle.lists.proofs.Member.{t_to_eq, and_both, and_left, and_right, and3, both3, any_each, any_some, in_cons_if}
use Rattle.lists.proofs.Closure.{sound, complete, reached_kept, reached_lt}
use Rattle.paper.specs.declared.Sizes.{Sizes}
use Rattle.paper.specs.declared.Place.{Place}
use Rattle.paper.specs.Lattice.{Lattice, axis, axes, cubes, cube_no, cube_at, in_lattice, free, visitable}
use Rattle.paper.specs.Lattice.{crossed, mixed_at, faces, step_over, steps, Visited, visited}
use Rattle.paper.specs.Within.{Sized, CubeIn}
use Rattle.paper.proofs.Numbers.{cube_lt, cube_place}

-- what test 1 and the test of a cube's place say
first_le : (a b c d : ℕ) → T (leb a b && leb c d) → a ≤ b
first_le a b c d t = leb→le a b (and_left (leb a b) (leb c d) t)

second_le : (a b c d : ℕ) → T (leb a b && leb c d) → c ≤ d
second_le a b c d t = leb→le c d (and_right (leb a b) (leb c d) t)

axis_of : (n : ℕ) → T (axis n) → (2 ≤ n) × (n ≤ 64)
unfolding axis
axis_of n t = (omega (arith, first_le), omega (arith, second_le))

pub sized : (z : Sizes) → T (axes z) → Sized z
unfolding axes
sized z t =
    let e = and3 (axis z.nx) (axis z.ny) (axis z.nz) t in
    let x = axis_of z.nx e.0 in
    let y = axis_of z.ny e.1 in
    let w = axis_of z.nz e.2 in
    record { x_low = x.0; x_high = x.1; y_low = y.0; y_high = y.1; z_low = w.0; z_high = w.1 }

pub in_lattice_law : (z : Sizes) (p : Place) → T (in_lattice z p) → CubeIn z p
unfolding in_lattice
in_lattice_law z p t =
    let e = and3 (ltb (p.x + 1) z.nx) (ltb (p.y + 1) z.ny) (ltb (p.z + 1) z.nz) t in
    record {
      x = ltb→lt (p.x + 1) z.nx e.0;
      y = ltb→lt (p.y + 1) z.ny e.1;
      z = ltb→lt (p.z + 1) z.nz e.2;
    }

pub lattice_in : (z : Sizes) (p : Place) → CubeIn z p → T (in_lattice z p)
unfolding in_lattice
lattice_in z p h =
    both3 (ltb (p.x + 1) z.nx) (ltb (p.y + 1) z.ny) (ltb (p.z + 1) z.nz) (lt→ltb _ _ h.x) (lt→ltb _ _ h.y)
    (lt→ltb _ _ h.z)

-- a cube that may be visited is one of the lattice and free of the fill
pub visitable_is : (L : Lattice) (p : Place) → visitable L p ≡ (in_lattice L.size p && free L p)
unfolding visitable
visitable_is L p = refl

pub visitable_in : (L : Lattice) (p : Place) → T (visitable L p) → CubeIn L.size p
unfolding visitable
visitable_in L p t = in_lattice_law L.size p (and_left (in_lattice L.size p) (free L p) t)

pub visitable_free : (L : Lattice) (p : Place) → T (visitable L p) → T (free L p)
unfolding visitable
visitable_free L p t = and_right (in_lattice L.size p) (free L p) t

pub free_visitable : (L : Lattice) (p : Place) → CubeIn L.size p → T (free L p) → T (visitable L p)
unfolding visitable
free_visitable L p h t = and_both (in_lattice L.size p) (free L p) (lattice_in L.size p h) t

-- in the lattice, one that is free of the fill
pub visitable_at : (L : Lattice) (p : Place) → CubeIn L.size p → visitable L p ≡ free L p
unfolding visitable
visitable_at L p h = ap (λ (b : Bool). b && free L p) (t_to_eq (in_lattice L.size p) (lattice_in L.size p h))

-- the cube at a place of the lattice is crossed where it is free of the fill and its corners are mixed
pub crossed_at_law : (L : Lattice) (p : Place) → CubeIn L.size p → crossed L (cube_no L.size p) ≡ (free L p && mixed_at L p (range 0 8))
unfolding crossed
crossed_at_law L p h =
    let q = cube_place L.size p (omega (arith, h.x)) (omega (arith, h.y)) in
    (λ i. visitable L (q i) && mixed_at L (q i) (range 0 8)) ∙ ap (λ (b : Bool). b && mixed_at L p (range 0 8)) (visitable_at L p h)

-- a crossed cube may be visited
pub crossed_visitable : (L : Lattice) (k : ℕ) → T (crossed L k) → T (visitable L (cube_at L.size k))
unfolding crossed
crossed_visitable L k t = let p = cube_at L.size k in and_left (visitable L p) (mixed_at L p (range 0 8)) t

-- a step leads to a cube that may be visited, and so to one of the lattice
step_to : (L : Lattice) (j k : ℕ) → T (is_in (steps L j) k) → (q : Place) × T (visitable L q) × (k ≡ cube_no L.size q)
unfolding steps step_over
step_to L j k t =
    let p = cube_at L.size j in
    let w = any_some (λ f. is_in (step_over L p f) k) (faces p) (subst T (any_each (eqb k) (step_over L p) (faces p)) t) in
    let f = w.0 in
    let n = f.there in
    let i = visitable L f.beyond in
    let m = mixed_at L p f.corners in
    let e = in_cons_if (n && i && m) (cube_no L.size f.beyond) k w.1 in
    (f.beyond, (and3 n i m e.0).1, e.1)

pub step_lt : (L : Lattice) (j k : ℕ) → T (is_in (steps L j) k) → k < cubes L.size
step_lt L j k t =
    let s = step_to L j k t in
    subst (λ (q : ℕ). q < cubes L.size) (sym s.2) (cube_lt L.size s.0 (visitable_in L s.0 s.1))

pub step_visitable : (L : Lattice) (j k : ℕ) → T (is_in (steps L j) k) → T (visitable L (cube_at L.size k))
step_visitable L j k t =
    let z = L.size in
    let s = step_to L j k t in
    let h = visitable_in L s.0 s.1 in
    let e : cube_at z k ≡ s.0 = ap (cube_at z) s.2 ∙ cube_place z s.0 (omega (arith, h.x)) (omega (arith, h.y)) in
    subst (λ (q : Place). T (visitable L q)) (sym e) s.1

-- "The visited cubes are the start cube and every cube reached from it": the list holds exactly these
pub record Exactly (L : Lattice) (start k : ℕ) : Type 0 where
  pub listed : Visited L start k → T (is_in (visited L start) k)
  pub reached : T (is_in (visited L start) k) → Visited L start k

pub visited_exactly : (L : Lattice) (start : ℕ) → start < cubes L.size → (k : ℕ) → Exactly L start k
unfolding visited
visited_exactly L start h k = record {
  listed = complete (steps L) (cubes L.size) (λ i j g. step_lt L i j) start h;
  reached = sound (steps L) (cubes L.size) start k;
}

-- from a start that may be visited, all of them may be
reach_visitable : (L : Lattice) (start : ℕ) → T (visitable L (cube_at L.size start)) → {k : ℕ} → Visited L start k
    → T (visitable L (cube_at L.size k))
reach_visitable L start t here = t
reach_visitable L start t (step {j} {k} r s) = step_visitable L j k s

pub visited_visitable : (L : Lattice) (start : ℕ) → start < cubes L.size → T (visitable L (cube_at L.size start)) → (k : ℕ)
    → T (is_in (visited L start) k) → T (visitable L (cube_at L.size k))
visited_visitable L start h t k i = reach_visitable L start t ((visited_exactly L start h k).reached i)

-- they are listed by rising number
pub visited_kept : (L : Lattice) (start : ℕ) → visited L start ≡ keep (is_in (visited L start)) (range 0 (cubes L.size))
unfolding visited
visited_kept L start = reached_kept (steps L) (cubes L.size) start

pub visited_lt : (L : Lattice) (start k : ℕ) → T (is_in (visited L start) k) → k < cubes L.size
unfolding visited
visited_lt L start k t = reached_lt (steps L) (cubes L.size) start k t
