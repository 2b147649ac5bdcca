-- Both lists, or neither. Assumes nothing.
use borrow.Author.Tests.{ne_eqb, eq-eqb}
use mathlib.Core.Path.{◌≡◌, sym, ap, subst, ◌∙◌}
use mathlib.Core.List.{List}
use Prim.Native.Nat.{ℕ}
use native.Mathlib.Omega.{arith}
use Rattle.std.specs.Prelude.{Result, Err}
use Rattle.lists.specs.Lists.{over, Beyond}
use Rattle.lists.proofs.Stores.{beyond_refl}
use Rattle.paper.specs.declared.BuildError.{BuildError}
use Rattle.paper.specs.declared.BuildError.TheVariants.{Refused, VertexRoom, TriangleRoom}
use Rattle.paper.specs.declared.SheetCounts.{SheetCounts}
use Rattle.paper.specs.Lattice.{Lattice, lattice}
use Rattle.paper.specs.Refused.{built_told}
use Rattle.paper.specs.Room.{output_after, needed_slots}
use Rattle.paper.specs.Within.{Full}
use Rattle.patterns.specs.Table.{steps_by, Tabled}
use Rattle.paper.proofs.Refusals.{some_number}
use Rattle.build_output.proofs.Output.{crossed, edges_length, vertices_are, past_slots, triangles_are, triangles_length}
use Rattle.build_output.proofs.put_sheet.Goals as goal
use Rattle.build_output.proofs.put_sheet.Goals.{After-pattern_table, Start}

-- a refused build's number is not 0
refused : (e : BuildError) → (built_told (Err e)).number ≡ 0 → ⊥
refused (Refused e) z = omega (arith, some_number e, z)
refused (VertexRoom d) z = omega (arith, z)
refused (TriangleRoom d) z = omega (arith, z)

module _ (s : goal.Start) where
  abbrev rows : List ℕ
  rows = s.args.surface.now.rows.sides.now

  abbrev vis : List ℕ
  vis = s.args.surface.now.rows.cubes.now

  abbrev L : Lattice
  L = lattice s.args.surface.now.rows.sizes s.args.surface.now.samples.now

  abbrev full : Full L
  full = s.args.surface.now.full

-- the table is this lattice's
made : (c : goal.After-pattern_table) → Tabled (steps_by c.args.surface.now.rows.sizes) 256 c.pattern_table.new.steps c.pattern_table.new.counts
made c = c.pattern_table.ensures

-- tests 6 and 7 have passed
passed : (c : goal.After-pattern_table) → (built_told c.args.built).number ≡ 0
passed c = ap (λ (r : Result SheetCounts BuildError). (built_told r).number) c.in_default.is

pub returns-in-Err : goal.returns-in-Err
unfolding output_after
returns-in-Err c =
    let e = ap (λ (r : Result SheetCounts BuildError). (built_told r).number) c.in-Err.is in
    let n : (built_told c.args.built).number ≡ 0 → ⊥ = λ z. refused c.in-Err.field-0 (sym e ∙ z) in (
      record { written = λ k h. record { vertices = rw (ne_eqb _ 0 n); triangles = rw (ne_eqb _ 0 n) } },
      beyond_refl _ _,
    )

pub put_vertices-requires-clause-crossed : goal.put_vertices-requires-clause-crossed
put_vertices-requires-clause-crossed c =
    let s = (goal.at.put_vertices-requires-clause-crossed c).Start in
    let p = c.requires.standing in
    crossed (L s) (full s) _ _ p.start p.stands

pub put_vertices-requires-clause-vertices_in_bounds : goal.put_vertices-requires-clause-vertices_in_bounds
put_vertices-requires-clause-vertices_in_bounds c =
    let s = (goal.at.put_vertices-requires-clause-vertices_in_bounds c).Start in
    let p = c.requires.standing in
    let fit = c.requires.fits (passed (goal.at.put_vertices-requires-clause-vertices_in_bounds c).After-pattern_table) in
    omega (arith, fit.vertices_fit p.start p.stands, edges_length (L s) (full s) _ _ p.start p.stands)

pub put_triangles-requires : goal.put_triangles-requires
put_triangles-requires c =
    let s = (goal.at.put_triangles-requires c).Start in
    let p = c.requires.standing in
    let fit = c.requires.fits (passed (goal.at.put_triangles-requires c).After-pattern_table) in
    let long = triangles_length (L s) (full s) _ _ p.start p.stands c.args.slots.now c.requires.slots_in_bounds _ _ (made (goal.at.put_triangles-requires c).After-pattern_table) _ c.put_vertices.ensures.slots in
    omega (arith, long, fit.triangles_fit p.start p.stands)

pub returns : goal.returns
unfolding output_after
returns c =
    let s = (goal.at.returns c).Start in
    let p = c.requires.standing in
    let d = c.put_vertices.ensures in
    let z = passed (goal.at.returns c).After-pattern_table in
    let fit = c.requires.fits z in
    let slots = c.args.slots.now in (
      record {
        written = λ k h.
            record {
              vertices = rw (eq-eqb _ 0 z) (d.vertices ∙ vertices_are (L s) (full s) _ _ k h _ (fit.vertices_fit k h));
              triangles =
                  rw (eq-eqb _ 0 z)
                  (c.put_triangles.ensures
                  ∙ ap (λ (l : List ℕ). over l c.args.triangles.now)
                  (triangles_are (L s) (full s) _ _ k h slots c.requires.slots_in_bounds _ _ (made (goal.at.returns c).After-pattern_table) _ d.slots));
            };
      },
      subst (Beyond (needed_slots c.args.surface.now.rows.sizes) slots) (sym d.slots) (past_slots (L s) (full s) _ _ p.start p.stands slots),
    )
