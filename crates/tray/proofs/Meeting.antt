-- Steps from crossed cubes lead to crossed cubes and back: two pieces that meet are one. Assumes nothing.
use mathlib.Core.Path.{◌≡◌, sym, ap, subst, ◌∙◌}
use mathlib.Core.Bool.{Bool, not, ◌&&◌}
use mathlib.Core.List.{List, map}
use Prim.Native.Nat.{ℕ, ◌<◌}
use native.Mathlib.Omega.{arith}
use lib.Dec.{T, eqb, T_not, not_T}
use Rattle.lists.specs.Lists.{range, any, all, is_in}
use Rattle.lists.specs.Reach.{Reach, here, step}
use Rattle.lists.proofs.Member.{and_both, and_left, and_right, and3, any_each, any_in, in_any, any_some, in_cons_if}
use Rattle.lists.proofs.Every.{All, any_with, any_map}
use Rattle.lists.proofs.Within.{all_in, in_all_test, in_list, all_map}
use Rattle.paper.specs.declared.Place.{Place}
use Rattle.paper.specs.Lattice.{Lattice, Face, air_at, cubes, cube_no, cube_at, corner, mixed}
use Rattle.paper.specs.Lattice.{mixed_at, visitable, crossed, faces, step_over, steps, Visited, visited}
use Rattle.paper.specs.Within.{Sized}
use Rattle.paper.proofs.Numbers.{cube_place}
use Rattle.paper.proofs.Visits.{visitable_in, crossed_visitable, step_lt, visited_exactly}
use Rattle.paper.proofs.Steps.{step_back}

-- what comes after what was reached is reached
pub reach_on : {next : ℕ → List ℕ} {a b c : ℕ} → Reach next a b → Reach next b c → Reach next a c
reach_on r here = r
reach_on r (step s t) = step (reach_on r s) t

-- more corners of a cube whose corners are mixed
mixed_more : (f : ℕ → Bool) (cs ds : List ℕ) → T (all (is_in ds) cs) → T (mixed (map f cs)) → T (mixed (map f ds))
unfolding mixed
mixed_more f cs ds h t =
    let some = any (λ b. b) (map f cs) in
    let every = all (λ b. b) (map f cs) in
    let a = any_in f cs (subst T (any_map (λ b. b) f cs) (and_left some (not every) t)) in
    and_both (any (λ b. b) (map f ds)) (not (all (λ b. b) (map f ds)))
    (subst T (sym (any_map (λ b. b) f ds)) (in_any f ds a.0 (all_in (is_in ds) h (in_list a.0 cs a.1.0)) a.1.1))
    (not_T (all (λ b. b) (map f ds))
    (λ u.
    T_not every (and_right some (not every) t)
    (subst T (sym (all_map (λ b. b) f cs))
    (in_all_test f cs (λ c i. all_in f (subst T (all_map (λ b. b) f ds) u) (in_list c ds (all_in (is_in ds) h i)))))))

-- the corners of a face are corners of the cube
abbrev Cornered : Face → Type 0
Cornered f = T (all (is_in (range 0 8)) f.corners)

cornered : (p : Place) → All Cornered (faces p)
unfolding faces
cornered p = (tt, (tt, (tt, (tt, (tt, (tt, tt))))))

module _ (L : Lattice) where
  -- a cube that a step leaves has mixed corners
  leaves_mixed : (k j : ℕ) → T (is_in (steps L k) j) → T (mixed_at L (cube_at L.size k) (range 0 8))
  unfolding steps step_over mixed_at
  leaves_mixed k j t =
      let p = cube_at L.size k in
      let u = subst T (any_each (eqb j) (step_over L p) (faces p)) t in
      let w = any_with Cornered (λ f. is_in (step_over L p f) j) (faces p) (cornered p) u in
      let f = w.0 in
      let m = mixed_at L p f.corners in
      let e = in_cons_if (f.there && visitable L f.beyond && m) (cube_no L.size f.beyond) j w.2 in
      mixed_more (λ c. air_at L (corner p c)) f.corners (range 0 8) w.1 (and3 f.there (visitable L f.beyond) m e.0).2

  -- a cube that a step leads to may be visited
  step_free : (j k : ℕ) → T (is_in (steps L j) k) → T (visitable L (cube_at L.size k))
  unfolding steps step_over
  step_free j k t =
      let z = L.size in
      let p = cube_at z j in
      let w = any_some (λ f. is_in (step_over L p f) k) (faces p) (subst T (any_each (eqb k) (step_over L p) (faces p)) t) in
      let f = w.0 in
      let m = mixed_at L p f.corners in
      let e = in_cons_if (f.there && visitable L f.beyond && m) (cube_no z f.beyond) k w.1 in
      let v = (and3 f.there (visitable L f.beyond) m e.0).1 in
      let i = visitable_in L f.beyond v in
      let q : cube_at z k ≡ f.beyond = ap (cube_at z) e.1 ∙ cube_place z f.beyond (omega (arith, i.x)) (omega (arith, i.y)) in
      subst (λ (b : Place). T (visitable L b)) (sym q) v

  module _ (s : Sized L.size) where
    -- a step from a crossed cube leads back
    back : (j k : ℕ) → j < cubes L.size → T (crossed L j) → T (is_in (steps L j) k) → T (is_in (steps L k) j)
    back j k h c t = step_back L s j k h (crossed_visitable L j c) t

    -- and to a crossed cube
    step_crossed : (j k : ℕ) → j < cubes L.size → T (crossed L j) → T (is_in (steps L j) k) → T (crossed L k)
    unfolding crossed
    step_crossed j k h c t =
        let p = cube_at L.size k in
        and_both (visitable L p) (mixed_at L p (range 0 8)) (step_free j k t) (leaves_mixed k j (back j k h c t))

    module _ (a : ℕ) (h : a < cubes L.size) (c : T (crossed L a)) where
      -- what is visited from a crossed cube
      pub all_crossed : {k : ℕ} → Visited L a k → T (crossed L k) × (k < cubes L.size)
      all_crossed here = (c, h)
      all_crossed (step {j} {k} r t) =
          let i = all_crossed r in
          (step_crossed j k i.1 i.0 t, step_lt L j k t)

      pub visited_back : {k : ℕ} → Visited L a k → Visited L k a
      visited_back here = here
      visited_back (step {j} {k} r t) =
          let i = all_crossed r in
          reach_on (step here (back j k i.1 i.0 t)) (visited_back r)

      -- its piece holds it; a cube of its piece is crossed; and each other crossed cube whose piece holds one of them is of its piece
      pub holds_own : T (is_in (visited L a) a)
      holds_own = (visited_exactly L a h a).listed here

      pub piece_crossed : (k : ℕ) → T (is_in (visited L a) k) → T (crossed L k) × (k < cubes L.size)
      piece_crossed k t = all_crossed ((visited_exactly L a h k).reached t)

    pub pieces_meet : (a b k : ℕ) → a < cubes L.size → T (crossed L a) → b < cubes L.size → T (crossed L b)
        → T (is_in (visited L a) k) → T (is_in (visited L b) k) → T (is_in (visited L a) b)
    pieces_meet a b k ha ca hb cb ta tb =
        (visited_exactly L a ha b).listed
        (reach_on ((visited_exactly L a ha k).reached ta) (visited_back b hb cb ((visited_exactly L b hb k).reached tb)))
