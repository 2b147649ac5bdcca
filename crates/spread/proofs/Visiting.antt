-- Where the gates and doors of a plan mean document 01's faces, a flood along it leaves document 01's visited cubes. Assumes nothing.
use mathlib.Core.Path.{◌≡◌, refl, sym, ap, ap₂, subst, ◌∙◌}
use mathlib.Core.Bool.{Bool, true, false, not, ◌&&◌, ◌||◌, and-false}
use mathlib.Core.List.{List, [], ◌∷◌, ◌++◌, map, map-map, Memᴰ as In}
use mathlib.Core.Logic.{⊎_elim}
use Prim.Native.Nat.{ℕ, zero, suc, ◌+◌, ◌-◌, ◌*◌, ◌/◌, ◌%◌, ◌≤◌, ◌<◌}
use native.Mathlib.Nat.{mul_comm}
use native.Mathlib.Omega.{arith}
use lib.Dec.{T, eqb, ltb, ltb→lt, lt→ltb, eqb→eq, eqb_refl}
use lib.Arith.{digits_mod, digits_div}
use lib.ListN.{length, get_or}
use Rattle.lists.specs.Lists.{range, cons_if, keep, each, is_in, any, count}
use Rattle.lists.specs.Reach.{Reach, here, step, reached}
use Rattle.lists.proofs.Member.{t_to_eq, or_cases, or_left, or_right, and3, both3, and_both, and_left}
use Rattle.lists.proofs.Member.{and_right, any_append, any_each, in_any, in_cons_if, cons_if_in}
use Rattle.lists.proofs.Every.{any_at, at_any}
use Rattle.lists.proofs.Closure.{bool_same, sound, complete, reached_kept, reached_lt}
use Rattle.lists.proofs.Rising.{keep_rising}
use Rattle.lists.proofs.Within.{list_in, in_list, eqb_of, in_all_test}
use Rattle.lists.proofs.Counts.{Unique, rising_unique, count_unique, few, matched}
use Rattle.paper.specs.declared.Sizes.{Sizes}
use Rattle.paper.specs.declared.Place.{Place}
use Rattle.paper.specs.Lattice.{Lattice, place, face, air_at, cubes, cube_no, cube_at, corner, mixed, mixed_at}
use Rattle.paper.specs.Lattice.{in_lattice, visitable, faces, face_at, step_over, steps, Visited, visited}
use Rattle.paper.specs.Within.{Sized, CubeIn}
use Rattle.paper.proofs.Numbers.{cube_inside, cube_back, cube_place, cube_lt}
use Rattle.paper.proofs.Visits.{in_lattice_law, lattice_in, visitable_in, Exactly, visited_exactly, visited_kept, visited_lt}
use Rattle.paper.proofs.Steps.{face_shared}
use Rattle.bits.specs.Words.{bit, On}
use Rattle.bits.proofs.Bits.{bit_of_0, bit_lt}
use Rattle.rows.specs.Rows.{row_no, is_one_of, HasCubes}
use Rattle.ways.specs.Plan.{Plan}
use Rattle.spread.specs.Flooded.{Empty, Room, cell, steps as row_steps, marks, Flooded, Visits}
use Rattle.spread.proofs.Finish.{cell_row, cell_place, Stepped, rose, fell, went, from_cell, by_cell, steps_lt}

-- ── steps over faces ──

six : (p : Place) → length (faces p) ≡ 6
unfolding faces
six p = refl

module _ (L : Lattice) where
  -- there is a step over face f of the cube at p
  abbrev pub open_at : Place → ℕ → Bool
  open_at p f = (face_at p f).there && visitable L (face_at p f).beyond && mixed_at L p (face_at p f).corners

  place_of_law : (p : Place) → CubeIn L.size p → cube_at L.size (cube_no L.size p) ≡ p
  place_of_law p h = cube_place L.size p (omega (arith, h.x)) (omega (arith, h.y))

  step_over_law : (p : Place) (f : ℕ) → CubeIn L.size p → f < 6 → T (open_at p f)
      → T (is_in (steps L (cube_no L.size p)) (cube_no L.size (face_at p f).beyond))
  unfolding steps step_over face_at
  step_over_law p f h l t =
      let j = cube_no L.size (face_at p f).beyond in
      subst (λ (q : Place). T (is_in (each (step_over L q) (faces q)) j)) (sym (place_of_law p h))
      (subst T (sym (any_each (eqb j) (step_over L p) (faces p)))
      (at_any (λ g. is_in (step_over L p g) j) (faces p) (face [] false p) f (omega (arith, six p)) (cons_if_in (open_at p f) j t)))

  step_of : (p : Place) (j : ℕ) → CubeIn L.size p → T (is_in (steps L (cube_no L.size p)) j)
      → (f : ℕ) × (f < 6) × T (open_at p f) × (j ≡ cube_no L.size (face_at p f).beyond)
  unfolding steps step_over face_at
  step_of p j h t =
      let u = subst (λ (q : Place). T (is_in (each (step_over L q) (faces q)) j)) (place_of_law p h) t in
      let w = any_at (λ g. is_in (step_over L p g) j) (faces p) (face [] false p) (subst T (any_each (eqb j) (step_over L p) (faces p)) u) in
      let e = in_cons_if (open_at p w.0) (cube_no L.size (face_at p w.0).beyond) j w.2 in
      (w.0, omega (arith, w.1, six p), e.0, e.1)

  open_in : (p : Place) (f : ℕ) → T (open_at p f) → CubeIn L.size (face_at p f).beyond
  open_in p f t =
      visitable_in L (face_at p f).beyond
      (and3 (face_at p f).there (visitable L (face_at p f).beyond) (mixed_at L p (face_at p f).corners) t).1

  -- the face at the low x end is the other cube's at the high x end
  mixed_samples : (p : Place) (cs : List ℕ) → mixed_at L p cs ≡ mixed (map (air_at L) (map (corner p) cs))
  unfolding mixed_at
  mixed_samples p cs = ap mixed (sym (map-map (air_at L) (corner p) cs))

  low_is_high : (p : Place) → T (face_at p 0).there → mixed_at L (face_at p 0).beyond (face_at (face_at p 0).beyond 1).corners
      ≡ mixed_at L p (face_at p 0).corners
  low_is_high p t =
      let b = (face_at p 0).beyond in
      let r = face_shared p 0 (omega arith) t in
      mixed_samples b (face_at b 1).corners ∙ (ap (λ (l : List Place). mixed (map (air_at L) l)) r.samples
      ∙ sym (mixed_samples p (face_at p 0).corners))

-- ── the row of a place ──

module _ (z : Sizes) (p : Place) (h : p.y < z.ny) where
  turned : row_no z p ≡ p.z * z.ny + p.y
  turned = omega (arith, mul_comm z.ny p.z)

  pub row_y : row_no z p % z.ny ≡ p.y
  row_y = ap (λ (n : ℕ). n % z.ny) turned ∙ digits_mod p.z h

  pub row_z : row_no z p / z.ny ≡ p.z
  row_z = ap (λ (n : ℕ). n / z.ny) turned ∙ digits_div p.z h

-- places of one row
same_row : (z : Sizes) (p q : Place) → p.y < z.ny → q.y < z.ny → row_no z p ≡ row_no z q → p.x ≡ q.x → p ≡ q
same_row z p q h i er ex =
    let ey : p.y ≡ q.y = sym (row_y z p h) ∙ (ap (λ (r : ℕ). r % z.ny) er ∙ row_y z q i) in
    let ez : p.z ≡ q.z = sym (row_z z p h) ∙ (ap (λ (r : ℕ). r / z.ny) er ∙ row_z z q i) in
    λ i. place (ex i) (ey i) (ez i)

-- ── cubes and cells ──

-- place x + 1 of a row's gates says whether there is a step between cubes x and x + 1 of it, and place x of its doors whether there is
-- one from cube x over the faces 2 to 5
pub record Joined (L : Lattice) (P : Plan) : Type 0 where
  pub gates : (p : Place) → CubeIn L.size p
      → bit (P.gate (row_no L.size p)) (suc p.x)
      ≡ (visitable L p && visitable L (face_at p 1).beyond && mixed_at L p (face_at p 1).corners)
  pub doors : (p : Place) (k : ℕ) → CubeIn L.size p → k < 4 → bit (P.door (row_no L.size p) k) p.x ≡ open_at L p (k + 2)
  pub beside : (p : Place) (k : ℕ) → CubeIn L.size p → k < 4 → T (open_at L p (k + 2))
      → P.beside (row_no L.size p) k ≡ row_no L.size (face_at p (k + 2)).beyond
  pub within : (y z : ℕ) → y < L.size.ny → z < L.size.nz → y + L.size.ny * z < P.size
  pub into : (r k : ℕ) → r < P.size → k < 4 → P.beside r k < P.size

pub same_x : (p : Place) (k : ℕ) → k < 4 → (face_at p (k + 2)).beyond.x ≡ p.x
unfolding face_at faces
same_x p zero l = refl
same_x p (suc zero) l = refl
same_x p (suc (suc zero)) l = refl
same_x p (suc (suc (suc zero))) l = refl
same_x p (suc (suc (suc (suc k)))) l = absurd (omega arith)

module _ (L : Lattice) (s : Sized L.size) (P : Plan) (J : Joined L P) where
  abbrev z : Sizes
  z = L.size

  abbrev next : ℕ → List ℕ
  next = row_steps P

  abbrev cell_of : Place → ℕ
  cell_of p = cell (row_no z p) p.x

  x_lt : (p : Place) → CubeIn z p → p.x < 64
  x_lt p h = omega (arith, h.x, s.x_high)

  -- a cube that may be visited, at a cell, and there is a step to it
  record Leads (from k : ℕ) : Type 0 where
    to : Place
    free : T (visitable L to)
    at : k ≡ cell_of to
    by : T (is_in (steps L from) (cube_no z to))

  -- a step between cells of cubes is a step between cubes
  module _ (p : Place) (v : T (visitable L p)) where
    h : CubeIn z p
    h = visitable_in L p v

    cube_step : (k : ℕ) → Stepped P (row_no z p) p.x k → Leads (cube_no z p) k
    unfolding face_at faces
    cube_step k (rose l g e) =
        let b = visitable L (face_at p 1).beyond in
        let m = mixed_at L p (face_at p 1).corners in
        let w = and3 (visitable L p) b m (subst T (J.gates p h) g) in
        record {
          to = (face_at p 1).beyond;
          free = w.1;
          at = e ∙ omega arith;
          by = step_over_law L p 1 h (omega arith) (both3 true b m tt w.1 w.2);
        }
    cube_step k (fell y d g e) =
        let q : Place = place y p.y p.z in
        let i : CubeIn z q = record { x = omega (arith, h.x); y = h.y; z = h.z } in
        let t = subst T (J.gates q i) (subst (λ (x : ℕ). On (P.gate (row_no z p)) x) d g) in
        let w = and3 (visitable L q) (visitable L (face_at q 1).beyond) (mixed_at L q (face_at q 1).corners) t in
        let there : T (ltb 0 p.x) = lt→ltb 0 p.x (omega arith) in
        let f : y ≡ p.x - 1 = omega arith in
        let b : Place = (face_at p 0).beyond in
        let free : T (visitable L b) = subst (λ (x : ℕ). T (visitable L (place x p.y p.z))) f w.0 in
        let m = subst (λ (x : ℕ). T (mixed_at L (place x p.y p.z) (face_at q 1).corners)) f w.2 in
        record {
          to = b;
          free = free;
          at = e ∙ omega arith;
          by =
              step_over_law L p 0 h (omega arith)
              (both3 (ltb 0 p.x) (visitable L b) (mixed_at L p (face_at p 0).corners) there free (subst T (low_is_high L p there) m));
        }
    cube_step k (went j l g e) =
        let t = subst T (J.doors p j h l) g in
        let w = and3 (face_at p (j + 2)).there (visitable L (face_at p (j + 2)).beyond) (mixed_at L p (face_at p (j + 2)).corners) t in
        record {
          to = (face_at p (j + 2)).beyond;
          free = w.1;
          at = e ∙ ap₂ cell (J.beside p j h l t) (sym (same_x p j l));
          by = step_over_law L p (j + 2) h (omega arith) t;
        }

    high_over : T (open_at L p 1) → Stepped P (row_no z p) p.x (cell_of (face_at p 1).beyond)
    unfolding face_at faces
    high_over t =
        let b = visitable L (face_at p 1).beyond in
        let m = mixed_at L p (face_at p 1).corners in
        let w = and3 (face_at p 1).there b m t in
        let i = open_in L p 1 t in
        rose (omega (arith, i.x, s.x_high)) (subst T (sym (J.gates p h)) (both3 (visitable L p) b m v w.1 w.2)) (omega arith)

    low_over : T (open_at L p 0) → Stepped P (row_no z p) p.x (cell_of (face_at p 0).beyond)
    unfolding face_at faces
    low_over t =
        let w = and3 (face_at p 0).there (visitable L (face_at p 0).beyond) (mixed_at L p (face_at p 0).corners) t in
        let q : Place = (face_at p 0).beyond in
        let a = ltb→lt 0 p.x w.0 in
        let f : p.x ≡ p.x - 1 + 1 = omega arith in
        let e : suc (p.x - 1) ≡ p.x = omega arith in
        let i : T (visitable L (face_at q 1).beyond) = subst (λ (x : ℕ). T (visitable L (place x p.y p.z))) f v in
        let m = subst T (sym (low_is_high L p w.0)) w.2 in
        let g = both3 (visitable L q) (visitable L (face_at q 1).beyond) (mixed_at L q (face_at q 1).corners) w.1 i m in
        fell (p.x - 1) (sym e) (subst (λ (x : ℕ). On (P.gate (row_no z p)) x) e (subst T (sym (J.gates q (open_in L p 0 t))) g)) refl

    door_over : (k : ℕ) → k < 4 → T (open_at L p (k + 2)) → Stepped P (row_no z p) p.x (cell_of (face_at p (k + 2)).beyond)
    door_over k l t =
        went k l (subst T (sym (J.doors p k h l)) t) (sym (ap₂ cell (J.beside p k h l t) (sym (same_x p k l))))

    over : (f : ℕ) → f < 6 → T (open_at L p f) → Stepped P (row_no z p) p.x (cell_of (face_at p f).beyond)
    over zero l t = low_over t
    over (suc zero) l t = high_over t
    over (suc (suc k)) l t =
        let e : k + 2 ≡ suc (suc k) = omega arith in
        subst (λ (f : ℕ). T (open_at L p f) → Stepped P (row_no z p) p.x (cell_of (face_at p f).beyond)) e (door_over k (omega arith)) t

    at_cell : (k : ℕ) → T (is_in (next (cell_of p)) k) → Stepped P (row_no z p) p.x k
    at_cell k t =
        subst (λ (a : ℕ). Stepped P a p.x k) (cell_row (row_no z p) p.x (x_lt p h))
        (subst (λ (a : ℕ). Stepped P (cell_of p / 64) a k) (cell_place (row_no z p) p.x (x_lt p h)) (by_cell P (cell_of p) k t))

    -- a step between cubes is a step between their cells
    cell_step : (j : ℕ) → T (is_in (steps L (cube_no z p)) j)
        → (q : Place) × T (visitable L q) × (j ≡ cube_no z q) × T (is_in (next (cell_of p)) (cell_of q))
    cell_step j t =
        let w = step_of L p j h t in
        let f = face_at p w.0 in (
          f.beyond,
          (and3 f.there (visitable L f.beyond) (mixed_at L p f.corners) w.2).1,
          w.3,
          from_cell P (row_no z p) p.x (cell_of f.beyond) (x_lt p h) (over w.0 w.1 w.2),
        )

  -- what is reached by rows is visited
  abbrev Came : Place → ℕ → Type 0
  Came p k = (q : Place) × T (visitable L q) × (k ≡ cell_of q) × Visited L (cube_no z p) (cube_no z q)

  to_cubes : (p : Place) → T (visitable L p) → {k : ℕ} → Reach next (cell_of p) k → Came p k
  to_cubes p h here = (p, h, refl, here)
  to_cubes p h (step {j} {k} a t) = go (to_cubes p h a)
    where
      go : Came p j → Came p k
      go (q, i, e, v) =
          let w = cube_step q i k (at_cell q i k (subst (λ (c : ℕ). T (is_in (next c) k)) e t)) in
          (w.to, w.free, w.at, step v w.by)

  -- what is visited is reached by rows
  abbrev Went : Place → ℕ → Type 0
  Went p k = (q : Place) × T (visitable L q) × (k ≡ cube_no z q) × Reach next (cell_of p) (cell_of q)

  to_rows : (p : Place) → T (visitable L p) → {k : ℕ} → Visited L (cube_no z p) k → Went p k
  to_rows p h here = (p, h, refl, here)
  to_rows p h (step {j} {k} a t) = go (to_rows p h a)
    where
      go : Went p j → Went p k
      go (q, i, e, v) =
          let w = cell_step q i k (subst (λ (c : ℕ). T (is_in (steps L c) k)) e t) in
          (w.0, w.1, w.2, step v w.3)

  cell_same : (p q : Place) → CubeIn z p → CubeIn z q → cell_of p ≡ cell_of q → p ≡ q
  cell_same p q h i e =
      let a = x_lt p h in
      let b = x_lt q i in
      same_row z p q (omega (arith, h.y)) (omega (arith, i.y)) (omega arith) (omega arith)

  cube_same : (p q : Place) → CubeIn z p → CubeIn z q → cube_no z p ≡ cube_no z q → p ≡ q
  cube_same p q h i e = sym (place_of_law L p h) ∙ (ap (cube_at z) e ∙ place_of_law L q i)

  -- ── what a flood leaves ──

  module _ (p : Place) (free : T (visitable L p)) (before after : Room) (n : ℕ) (F : Flooded P (cell_of p) before after n) where
    abbrev start : ℕ
    start = cube_no z p

    start_in : CubeIn z p
    start_in = visitable_in L p free

    abbrev vis : List ℕ
    vis = after.vis

    row_in : (q : Place) → CubeIn z q → row_no z q < P.size
    row_in q i = J.within q.y q.z (omega (arith, i.y)) (omega (arith, i.z))

    -- the words had the cubes of vs before: they have those and the visited ones
    module _ (vs : List ℕ) (old : HasCubes z vs before.vis) where
      abbrev both : List ℕ
      both = vs ++ visited L start

      both_is : (k : ℕ) → is_in both k ≡ (is_in vs k || is_in (visited L start) k)
      both_is k = any_append (eqb k) vs (visited L start)

      old_is : (q : Place) → CubeIn z q → bit (get_or before.vis (row_no z q) 0) q.x ≡ is_in vs (cube_no z q)
      unfolding is_one_of
      old_is q i =
          old.at q.y q.z q.x (omega (arith, i.y)) (omega (arith, i.z))
          ∙ ap (λ (b : Bool). b && is_in vs (cube_no z q)) (t_to_eq (in_lattice z q) (lattice_in z q i))

      bit_is : (q : Place) → CubeIn z q → bit (get_or vis (row_no z q) 0) q.x ≡ is_in both (cube_no z q)
      bit_is q i =
          let k = cube_no z q in
          let f = F.marked (row_no z q) q.x (row_in q i) (x_lt q i) in
          let v = visited_exactly L start (cube_lt z p start_in) k in
          bool_same (bit (get_or vis (row_no z q) 0) q.x) (is_in vs k || is_in (visited L start) k)
          (λ t.
          ⊎_elim (λ o. or_left (is_in vs k) (is_in (visited L start) k) (subst T (old_is q i) o))
          (λ r.
          let a = to_cubes p free r in
          let e = cell_same q a.0 i (visitable_in L a.0 a.1) a.2 in
          or_right (is_in vs k) (is_in (visited L start) k)
          (v.listed (subst (λ (c : Place). Visited L start (cube_no z c)) (sym e) a.3))) (f.within t))
          (λ t.
          ⊎_elim (λ o. f.older (subst T (sym (old_is q i)) o))
          (λ r.
          let a = to_rows p free (v.reached r) in
          let e = cube_same q a.0 i (visitable_in L a.0 a.1) a.2 in
          f.whole (subst (λ (c : Place). Reach next (cell_of p) (cell_of c)) (sym e) a.3))
          (or_cases (is_in vs k) (is_in (visited L start) k) t))
          ∙ sym (both_is k)

      -- a place of a word is that of a cube
      only_is : (y w x : ℕ) → y < z.ny → w < z.nz → On (get_or vis (y + z.ny * w) 0) x → CubeIn z (place x y w)
      unfolding is_one_of
      only_is y w x hy hw t =
          let r = y + z.ny * w in
          let hr = J.within y w hy hw in
          let hx = bit_lt (get_or vis r 0) 64 x (F.closed.words r hr) t in
          ⊎_elim (λ o. in_lattice_law z (place x y w) (and_left (in_lattice z (place x y w)) (is_in vs (cube_no z (place x y w)))
          (subst T (old.at y w x hy hw) o)))
          (λ m.
          let a = to_cubes p free m in
          let q = a.0 in
          let i = visitable_in L q a.1 in
          let e = a.2 in
          let l = x_lt q i in
          subst (CubeIn z) (same_row z q (place x y w) (omega (arith, i.y)) hy (omega arith) (omega arith)) i)
          ((F.marked r x hr hx).within t)

      at_place : (y w x : ℕ) → y < z.ny → w < z.nz → bit (get_or vis (y + z.ny * w) 0) x ≡ is_one_of z both (place x y w)
      unfolding is_one_of
      at_place y w x hy hw =
          let q = place x y w in
          let a = in_lattice z q in
          let b = is_in both (cube_no z q) in
          bool_same (bit (get_or vis (y + z.ny * w) 0) x) (a && b)
          (λ t. let i = only_is y w x hy hw t in and_both a b (lattice_in z q i) (subst T (bit_is q i) t))
          (λ t. let i = in_lattice_law z q (and_left a b t) in subst T (sym (bit_is q i)) (and_right a b t))

      pub has_more : HasCubes z both vis
      has_more = record { at = at_place }

    -- the cells that are reached match the visited cubes
    abbrev cells : List ℕ
    cells = reached next (64 * P.size) (cell_of p)

    abbrev cell_no : ℕ → ℕ
    cell_no k = cell_of (cube_at z k)

    first_lt : cell_of p < 64 * P.size
    first_lt = omega (arith, row_in p start_in, x_lt p start_in)

    bounded : (j k : ℕ) → j < 64 * P.size → T (is_in (next j) k) → k < 64 * P.size
    bounded = steps_lt P J.into

    cells_unique : Unique cells
    cells_unique =
        subst Unique (sym (reached_kept next (64 * P.size) (cell_of p)))
        (rising_unique 0 (keep (is_in cells) (range 0 (64 * P.size))) (keep_rising (is_in cells) 0 (64 * P.size)))

    visits_unique : Unique (visited L start)
    visits_unique =
        subst Unique (sym (visited_kept L start))
        (rising_unique 0 (keep (is_in (visited L start)) (range 0 (cubes z))) (keep_rising (is_in (visited L start)) 0 (cubes z)))

    exactly : (k : ℕ) → Exactly L start k
    exactly = visited_exactly L start (cube_lt z p start_in)

    one_cell : (k : ℕ) → In k (visited L start) → count (eqb (cell_no k)) cells ≡ 1
    one_cell k i =
        let a = to_rows p free ((exactly k).reached (list_in i)) in
        let e : cube_at z k ≡ a.0 = ap (cube_at z) a.2 ∙ place_of_law L a.0 (visitable_in L a.0 a.1) in
        count_unique cells_unique
        (in_list (cell_no k) cells
        (subst (λ (c : Place). T (is_in cells (cell_of c))) (sym e) (complete next (64 * P.size) bounded (cell_of p) first_lt a.3)))

    one_cube : (u : ℕ) → In u cells → count (λ k. eqb (cell_no k) u) (visited L start) ≤ 1
    one_cube u _ =
        few (λ k. eqb (cell_no k) u) visits_unique
        (λ a b i j t v.
        let ha = visited_lt L start a (list_in i) in
        let hb = visited_lt L start b (list_in j) in
        let e = cell_same (cube_at z a) (cube_at z b) (cube_inside z s a ha) (cube_inside z s b hb)
        (eqb→eq (cell_no a) u t ∙ sym (eqb→eq (cell_no b) u v)) in
        sym (cube_back z s a ha) ∙ (ap (cube_no z) e ∙ cube_back z s b hb))

    each_met : (u : ℕ) → In u cells → T (any (λ k. eqb (cell_no k) u) (visited L start))
    each_met u i =
        let a = to_cubes p free (sound next (64 * P.size) (cell_of p) u (list_in i)) in
        let e : cell_no (cube_no z a.0) ≡ u = ap cell_of (place_of_law L a.0 (visitable_in L a.0 a.1)) ∙ sym a.2 in
        in_any (λ k. eqb (cell_no k) u) (visited L start) (cube_no z a.0) ((exactly (cube_no z a.0)).listed a.3) (eqb_of e)

    same_number_law : length (visited L start) ≡ length cells
    same_number_law =
        eqb→eq (length (visited L start)) (length cells)
        (subst T (sym (matched (λ k u. eqb (cell_no k) u) (visited L start) cells one_cell one_cube))
        (in_all_test (λ u. any (λ k. eqb (cell_no k) u) (visited L start)) cells each_met))

    -- the words marked nothing before
    module _ (none : Empty P.size before.vis) where
      no_cubes : HasCubes z [] before.vis
      unfolding is_one_of
      no_cubes = record {
        at = λ y w x hy hw.
            ap (λ (v : ℕ). bit v x) (none.none (y + z.ny * w) (J.within y w hy hw))
            ∙ (bit_of_0 x ∙ sym (and-false (in_lattice z (place x y w))));
      }

      all_new : (l : List ℕ) → ((k : ℕ) → T (is_in l k) → k < 64 * P.size) → keep (λ k. not (marks before.vis k)) l ≡ l
      all_new [] h = refl
      all_new (k ∷ l) h =
          let m = h k (or_left (eqb k k) (is_in l k) (eqb_refl k)) in
          let e : marks before.vis k ≡ false =
          ap (λ (v : ℕ). bit v (k % 64)) (none.none (k / 64) (omega arith)) ∙ bit_of_0 (k % 64) in
          ap (λ (b : Bool). cons_if (not b) k (keep (λ k. not (marks before.vis k)) l)) e
          ∙ ap (λ (m : List ℕ). k ∷ m) (all_new l (λ j t. h j (or_right (eqb j k) (is_in l j) t)))

      pub visits : Visits L start vis n
      visits = record {
        cubes = has_more [] no_cubes;
        number =
            F.number
            ∙ (ap length (all_new cells (reached_lt next (64 * P.size) (cell_of p))) ∙ sym same_number_law);
      }
