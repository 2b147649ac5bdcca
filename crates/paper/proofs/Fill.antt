-- Document 02 (iii): the fill, the cubes that are free of it, and what stays where no sample is the fill. Assumes nothing.
use mathlib.Core.Path.{◌≡◌, refl, sym, ap, subst, ◌∙◌}
use mathlib.Core.Bool.{Bool, false, ◌&&◌, and-true}
use mathlib.Core.List.{List, [], ◌∷◌, ◌++◌}
use Prim.Native.Nat.{ℕ, ◌<◌}
use native.Mathlib.Omega.{arith}
use lib.IntN.{ℤ, pos, negsuc}
use lib.Dec.{T, eqb→eq, T_not, not_T}
use lib.ListN.{length}
use Rattle.lists.specs.Lists.{range, any, is_in}
use Rattle.lists.proofs.Member.{t_to_eq, and_left, any_in, in_any, in_range, range_in}
use Rattle.lists.proofs.Every.{all_get_d}
use Rattle.lists.proofs.Within.{t_to_false, members, member_any}
use Rattle.paper.specs.declared.Place.{Place}
use Rattle.paper.specs.declared.Start.TheVariants.{Cube}
use Rattle.paper.specs.declared.Verdict.{Verdict}
use Rattle.paper.specs.declared.Rule.{Rule}
use Rattle.paper.specs.Lattice.{Lattice, value_at, fill, is_fill, fill_at, no_fill, sample_no, cubes, cube_no}
use Rattle.paper.specs.Lattice.{cube_at, corner, mixed_at, in_lattice, free, visitable, crossed, visited}
use Rattle.paper.specs.Within.{CubeIn}
use Rattle.paper.specs.Sheet.{sheet_of}
use Rattle.paper.specs.Tests.{test, verdict, judge}
use Rattle.paper.specs.Room.{Lengths, lengths, vertex_room, triangle_room, room_tests}
use Rattle.paper.specs.Build.{Lent, start_of, sheet_from, starts, shape_tests, start_tests, sample_tests, build_number, uncounted, built}
use Rattle.paper.specs.File.{file_tests}
use Rattle.paper.specs.Check.{sheet_tests, checked}
use Rattle.paper.proofs.Judged.{judge_past, judge_stop}
use Rattle.paper.proofs.Passing.{shape_numbered, built_at}
use Rattle.paper.proofs.Visits.{lattice_in, visitable_is, visitable_free, crossed_at_law, crossed_visitable, visited_visitable}

-- −32768 is the fill, and nothing else is
pub fill_is : T (is_fill fill)
unfolding is_fill
fill_is = tt

pub fill_only : (v : ℤ) → T (is_fill v) → v ≡ fill
unfolding is_fill
fill_only (pos n) t = absurd t
fill_only (negsuc n) t = ap negsuc (eqb→eq n 32767 t)

zero_is_none : is_fill (pos 0) ≡ false
unfolding is_fill
zero_is_none = refl

-- ── the corners of a cube ──

module _ (L : Lattice) (p : Place) where
  abbrev filled : ℕ → Bool
  filled c = fill_at L (corner p c)

  -- it is free of the fill where none of the eight is the fill
  pub free_at : T (free L p) → (c : ℕ) → c < 8 → fill_at L (corner p c) ≡ false
  unfolding free
  free_at t c h =
      t_to_false (filled c)
      (λ f. T_not (any filled (range 0 8)) t (in_any filled (range 0 8) c (in_range 0 8 c (omega arith) (omega arith)) f))

  pub at_free : ((c : ℕ) → c < 8 → fill_at L (corner p c) ≡ false) → T (free L p)
  unfolding free
  at_free h =
      not_T (any filled (range 0 8))
      (λ t.
      let w = any_in filled (range 0 8) t in
      let b = range_in 0 8 w.0 w.1.0 in
      subst T (h w.0 (omega (arith, b))) w.1.1)

-- ── "Refusals: 5 for a start that holds the fill." ──

module _ (L : Lattice) (p : Place) (h : CubeIn L.size p) (c : ℕ) (l : c < 8) (f : T (fill_at L (corner p c))) where
  pub fill_refused : starts L (Cube p) ≡ false
  fill_refused =
      t_to_false (crossed L (cube_no L.size p))
      (λ t.
      let g = and_left (free L p) (mixed_at L p (range 0 8)) (subst T (crossed_at_law L p h) t) in
      subst T (free_at L p g c l) f)

  -- where 1 to 3 pass
  module _ (m : Lengths) (e : (judge (shape_tests L m)).number ≡ 0) where
    pub fill_tests : judge (sample_tests L (Cube p) m) ≡ verdict 5 0
    unfolding sample_tests start_tests
    fill_tests =
        judge_past (shape_tests L m) (start_tests L (Cube p)) (shape_numbered L m) e
        ∙ (λ i. judge (test 4 (t_to_eq (in_lattice L.size p) (lattice_in L.size p h) i) ∷ test 5 (fill_refused i) ∷ []))

    stops : (judge (sample_tests L (Cube p) m)).number ≡ 0 → ⊥
    stops z = absurd (omega (arith, z, ap (λ (v : Verdict). v.number) fill_tests))

    -- a check of any file
    pub fill_checked : (rule : Rule) (bs : List ℕ) → checked rule L (Cube p) bs m ≡ verdict 5 0
    unfolding checked
    fill_checked rule bs =
        let a = sample_tests L (Cube p) m in
        let b = file_tests bs in
        let c = sheet_tests L.size (sheet_of rule L (start_of L (Cube p))) bs in
        let d = judge_stop a b stops in
        judge_stop (a ++ b) c (λ z. stops (ap (λ (v : Verdict). v.number) (sym d) ∙ z))
        ∙ d
        ∙ fill_tests

  -- a build
  pub fill_built : (t : Lent) → (judge (shape_tests L (lengths t.work))).number ≡ 0 → built L (Cube p) t ≡ uncounted 5
  unfolding build_number
  fill_built t e =
      let S = sheet_from L (Cube p) in
      let m = lengths t.work in
      built_at L (Cube p) t 5 false
      (ap (λ (v : Verdict). v.number)
      (judge_stop (sample_tests L (Cube p) m)
      (room_tests (length S.edges) (length S.triangles) (vertex_room t.vertices) (triangle_room t.triangles)) (stops m e)
      ∙ fill_tests m e)) refl

-- ── ".. and is never visited" ──

-- from a crossed start, no visited cube has a corner that is the fill
pub visited_free : (L : Lattice) (start : ℕ) → start < cubes L.size → T (crossed L start) → (k : ℕ) → T (is_in (visited L start) k)
    → (c : ℕ) → c < 8 → fill_at L (corner (cube_at L.size k) c) ≡ false
visited_free L start h t k i =
    free_at L (cube_at L.size k)
    (visitable_free L (cube_at L.size k) (visited_visitable L start h (crossed_visitable L start t) k i))

-- ── where no sample is the fill, document 01's words are as they were ──

module _ (L : Lattice) (n : T (no_fill L)) where
  pub no_fill_at : (p : Place) → fill_at L p ≡ false
  unfolding no_fill fill_at value_at
  no_fill_at p =
      let none = members L.values (λ v i. t_to_false (is_fill v) (λ t. T_not (any is_fill L.values) n (member_any is_fill i t))) in
      all_get_d (λ v. is_fill v ≡ false) L.values (pos 0) zero_is_none none (sample_no L.size p)

  pub no_fill_free : (p : Place) → T (free L p)
  no_fill_free p = at_free L p (λ c h. no_fill_at (corner p c))

  -- each cube of the lattice may be visited
  pub no_fill_visitable : (p : Place) → visitable L p ≡ in_lattice L.size p
  no_fill_visitable p =
      visitable_is L p ∙ ap (λ (b : Bool). in_lattice L.size p && b) (t_to_eq (free L p) (no_fill_free p)) ∙ and-true (in_lattice L.size p)

  -- and is crossed where its corners are mixed
  pub no_fill_crossed : (p : Place) → CubeIn L.size p → crossed L (cube_no L.size p) ≡ mixed_at L p (range 0 8)
  no_fill_crossed p h = crossed_at_law L p h ∙ ap (λ (b : Bool). b && mixed_at L p (range 0 8)) (t_to_eq (free L p) (no_fill_free p))
