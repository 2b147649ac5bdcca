-- Demand 3 of a sheet's triangles by lattice edges: of any cubes that may be visited, and of those of a lattice. Assumes nothing.
use mathlib.Core.Path.{◌≡◌, refl, sym, ap, ◌∙◌, subst}
use mathlib.Core.Bool.{Bool, false, cond, ◌&&◌}
use mathlib.Core.List.Memᴰ
use mathlib.Core.List.Memᴰ.{map as in_map}
use mathlib.Core.List.{List, [], map, Memᴰ as In}
use Prim.Native.Nat.{ℕ, ◌≤◌, ◌<◌}
use native.Mathlib.Omega.{arith}
use lib.Dec.{T, eqb, eqb_refl}
use Rattle.lists.specs.Lists.{range, cons_if, keep, any, each, is_in}
use Rattle.lists.proofs.Every.{each_map}
use Rattle.lists.proofs.Member.{t_to_eq, or_left, both3, any_each}
use Rattle.lists.proofs.Rising.{keep_rising}
use Rattle.lists.proofs.Closure.{closed}
use Rattle.paper.specs.declared.Sizes.{Sizes}
use Rattle.paper.specs.declared.Place.{Place}
use Rattle.paper.specs.declared.Rule.{Rule}
use Rattle.paper.specs.Lattice.{Lattice, air_at, no_fill, cubes, cube_no, cube_at, corner, mixed}
use Rattle.paper.specs.Lattice.{mixed_at, visitable, Face, faces, step_over, steps, visited}
use Rattle.paper.specs.Within.{Sized, CubeIn}
use Rattle.paper.specs.Tables.{Tri}
use Rattle.paper.specs.Sheet.{triangles_at, cube_triangles, sheet_of}
use Rattle.paper.proofs.Numbers.{cube_place, cube_inside, cube_back}
use Rattle.paper.proofs.Listing.{parts}
use Rattle.paper.proofs.Visits.{visitable_in, free_visitable, step_lt, visited_kept, visited_lt, visited_visitable}
use Rattle.paper.proofs.Fill.{no_fill_free, no_fill_visitable}
use Rattle.pairing.specs.Pairing.{times, apart, Paired}
use Rattle.pairing.specs.Visitable.{outer, same_place, unshared}
use Rattle.lists.proofs.Within.{list_in, in_list, member_any, any_member, map_in}
use Rattle.lists.proofs.Counts.{map_unique, rising_unique, Unique}
use Rattle.pairing.proofs.Names.{few_times}
use Rattle.pairing.proofs.Table.{flat}
use Rattle.pairing.proofs.Whole.{Spread, Settled, same_place_law, place_same, times_are, settled, lone}
use Rattle.pairing.proofs.Outer.{unshared_is, outer_is}

-- ── any cubes that may be visited ──
module _ (z : Sizes) (air may : Place → Bool) (within : (p : Place) → T (may p) → CubeIn z p)
    (vs : List Place) (sp : Spread air may vs) where
  abbrev sheet : List Tri
  sheet = each (triangles_at z air) vs

  settle : (e f : ℕ) → 0 < times sheet e f → Settled z air may within vs sp e f
  settle e f h = settled z air may within vs sp e f (λ y. omega (arith, times_are z air may within vs sp e f, y))

  pub paired_where : (apart : ℕ → ℕ → Bool)
      → ((e f : ℕ) (s : Settled z air may within vs sp e f) → apart e f ≡ lone may (flat s.u s.w) s.m) → Paired apart sheet
  paired_where apart h = record {
    once = λ e f n. times_are z air may within vs sp e f ∙ (settle e f n).once;
    reverse =
        λ e f n. times_are z air may within vs sp f e ∙ (settle e f n).reverse
        ∙ sym (ap (λ (b : Bool). cond {A = ℕ} b 0 1) (h e f (settle e f n)));
  }

  -- the reverse of a directed edge is missing just where both edges lie in a face that two visitable cubes do not share
  pub paired_unshared : Paired (unshared z may) sheet
  paired_unshared = paired_where (unshared z may) (λ e f s. unshared_is z air s.known may)

-- ── any cubes of a lattice, each once: a directed edge occurs at most once ──

-- these cubes alone may be visited
module _ (z : Sizes) (air : Place → Bool) (vs : List Place) (distinct : Unique vs) (within : (p : Place) → In p vs → CubeIn z p) where
  abbrev listed : Place → Bool
  listed p = any (same_place p) vs

  listed_in : (p : Place) → T (listed p) → In p vs
  listed_in p t = let m = any_member (same_place p) vs t in Memᴰ.cast (same_place_law p m.0 m.2) m.1

  alone : Spread air listed vs
  alone = record {
    distinct = distinct;
    inside = λ p i. member_any (same_place p) i (place_same refl);
    step = λ p f i j h t k. listed_in f.beyond k;
  }

  pub few : (e f : ℕ) → times (each (triangles_at z air) vs) e f ≤ 1
  few = few_times (paired_unshared z air listed (λ p t. within p (listed_in p t)) vs alone)

-- ── the cubes of a lattice ──

module _ (L : Lattice) (sized : Sized L.size) (start : ℕ) (inside : start < cubes L.size) where
  abbrev z : Sizes
  z = L.size

  seen : (k : ℕ) → In k (visited L start) → k < cubes z
  seen k i = visited_lt L start k (list_in i)

  visited_unique : Unique (visited L start)
  visited_unique =
      subst Unique (sym (visited_kept L start))
      (rising_unique 0 (keep (is_in (visited L start)) (range 0 (cubes z))) (keep_rising (is_in (visited L start)) 0 (cubes z)))

  abbrev places : List Place
  places = map (cube_at z) (visited L start)

  step_in : (n : ℕ) (f : Face) → In f (faces (cube_at z n)) → T f.there
      → T (mixed (map (λ c. air_at L (corner (cube_at z n) c)) f.corners))
      → T (visitable L f.beyond) → T (is_in (steps L n) (cube_no z f.beyond))
  unfolding steps step_over mixed_at
  step_in n f i h t k =
      let p = cube_at z n in
      let q = cube_no z f.beyond in
      let b = f.there && visitable L f.beyond && mixed_at L p f.corners in
      subst T (sym (any_each (eqb q) (step_over L p) (faces p)))
      (member_any (λ g. is_in (step_over L p g) q) i
      (subst (λ (c : Bool). T (is_in (cons_if c q []) q))
      (sym (t_to_eq b (both3 f.there (visitable L f.beyond) (mixed_at L p f.corners) h k t))) (or_left (eqb q q) false (eqb_refl q))))

  visited_step : (n k : ℕ) → In n (visited L start) → T (is_in (steps L n) k) → In k (visited L start)
  unfolding visited
  visited_step n k i t =
      in_list k (visited L start) (closed (steps L) (cubes z) start inside n k (list_in i) t (step_lt L n k t))

  places_unique : Unique places
  places_unique =
      map_unique (cube_at z)
      (λ a b i j e. sym (cube_back z sized a (seen a i)) ∙ ap (cube_no z) e ∙ cube_back z sized b (seen b j)) visited_unique

  place_in : (p : Place) → In p places → CubeIn z p
  place_in p i =
      let m = map_in (cube_at z) (visited L start) p i in
      subst (CubeIn z) (sym m.2) (cube_inside z sized m.0 (seen m.0 m.1))

  -- they are as the general theorem asks, where the start may be visited
  spread : T (visitable L (cube_at z start)) → Spread (air_at L) (visitable L) places
  spread v = record {
    distinct = places_unique;
    inside = λ p i.
        let m = map_in (cube_at z) (visited L start) p i in
        subst (λ (q : Place). T (visitable L q)) (sym m.2) (visited_visitable L start inside v m.0 (list_in m.1));
    step = over;
  }
    where
      over : (p : Place) (f : Face) → In p places → In f (faces p) → T f.there
          → T (mixed (map (λ c. air_at L (corner p c)) f.corners)) → T (visitable L f.beyond) → In f.beyond places
      over p f i j h t k =
          let m = map_in (cube_at z) (visited L start) p i in
          let n = m.0 in
          let e : p ≡ cube_at z n = m.2 in
          let c = visitable_in L f.beyond k in
          let g = step_in n f (subst (λ (q : Place). In f (faces q)) e j) h
          (subst (λ (q : Place). T (mixed (map (λ c. air_at L (corner q c)) f.corners))) e t) k in
          Memᴰ.cast (sym (cube_place z f.beyond (omega (arith, c.x)) (omega (arith, c.y))))
          (in_map (cube_at z) (visited_step n (cube_no z f.beyond) m.1 g))

  triangles_are : (rule : Rule) → (sheet_of rule L start).by_edge ≡ each (triangles_at z (air_at L)) places
  unfolding cube_triangles
  triangles_are rule = (parts rule L start).by_edge_law ∙ sym (each_map (triangles_at z (air_at L)) (cube_at z) (visited L start))

  -- document 01's sheet by lattice edges: none of its directed edges occurs twice, whatever its start
  pub few_by_edge : (rule : Rule) (e f : ℕ) → times (sheet_of rule L start).by_edge e f ≤ 1
  few_by_edge rule e f =
      subst (λ (ts : List Tri). times ts e f ≤ 1) (sym (triangles_are rule)) (few z (air_at L) places places_unique place_in e f)

  -- and where the start may be visited, they pair up
  pub by_edge_law : (rule : Rule) → T (visitable L (cube_at z start)) → Paired (apart L) (sheet_of rule L start).by_edge
  by_edge_law rule v =
      subst (Paired (apart L)) (sym (triangles_are rule)) (paired_unshared z (air_at L) (visitable L) (visitable_in L) places (spread v))

  -- ── where no sample is the fill ──
  module _ (n : T (no_fill L)) where
    start_free : T (visitable L (cube_at z start))
    start_free = free_visitable L (cube_at z start) (cube_inside z sized start inside) (no_fill_free L n (cube_at z start))

    -- a reverse is missing in the outer faces of the lattice, as document 01 has it
    apart_outer : (e f : ℕ) → Settled z (air_at L) (visitable L) (visitable_in L) places (spread start_free) e f → apart L e f ≡ outer z e f
    apart_outer e f s =
        let m = flat s.u s.w in
        unshared_is z (air_at L) s.known (visitable L)
        ∙ (λ i. lone (λ p. no_fill_visitable L n p i) m s.m)
        ∙ sym (outer_is z (air_at L) s.known s.near)

    pub apart_is : (rule : Rule) (e f : ℕ) → 0 < times (sheet_of rule L start).by_edge e f → apart L e f ≡ outer z e f
    apart_is rule e f h =
        apart_outer e f
        (settle z (air_at L) (visitable L) (visitable_in L) places (spread start_free) e f
        (subst (λ (ts : List Tri). 0 < times ts e f) (triangles_are rule) h))

    pub by_edge_outer : (rule : Rule) → Paired (outer z) (sheet_of rule L start).by_edge
    by_edge_outer rule =
        let p = by_edge_law rule start_free in
        record {
          once = p.once;
          reverse = λ e f h. p.reverse e f h ∙ ap (λ (b : Bool). cond {A = ℕ} b 0 1) (apart_is rule e f h);
        }
