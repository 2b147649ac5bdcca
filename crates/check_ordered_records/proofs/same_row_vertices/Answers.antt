-- By whether there are cubes around the row, and whether the file has its vertices. Assumes nothing.
use mathlib.Core.Path.{◌≡◌, sym, subst, ◌∙◌}
use mathlib.Core.List.{List}
use Prim.Native.Nat.{ℕ, ◌+◌, ◌*◌}
use native.Mathlib.Omega.{arith}
use lib.IntN.{ℤ}
use Rattle.paper.specs.Lattice.{Lattice, lattice}
use Rattle.paper.specs.File.{file_vertices}
use Rattle.dots.specs.Dots.{row_edges, edges_of, Crossed}
use Rattle.dots.proofs.Rows.{edges_are, no_edges}
use Rattle.check_ordered.specs.Ordered.{Listing}
use Rattle.check_ordered_records.proofs.Dots.{listing_none, listing_same, kept_few}
use Rattle.check_ordered_records.proofs.same_row_vertices.Goals as goal
use Rattle.check_ordered_records.proofs.same_row_vertices.Goals.{After-new-k, Start}

abbrev space : goal.Start → Lattice
space s = lattice s.args.surface.now.rows.sizes s.args.surface.now.samples.now

abbrev numbers : goal.Start → List ℤ
numbers s = file_vertices s.args.file.now.bytes.now

abbrev edges : goal.Start → List ℕ
edges s = let r = s.args.surface.now.rows in edges_of r.sizes r.sides.now r.cubes.now s.args.y s.args.z

-- the row's edges are those of its kinds
row_is : (c : goal.After-new-k) → let n = c.args.surface.now.rows.sizes in
    row_edges c.new-k.result (7 * (n.nx * (c.args.y + n.ny * c.args.z))) n.nx ≡ edges (goal.at.After-new-k c).Start
row_is c =
    let r = c.args.surface.now.rows in
    edges_are r.sizes r.sides.now r.cubes.now c.args.y c.args.z c.sides_around.result c.cubes_around-v.result
    c.new-k.result c.sides_around.ensures c.cubes_around-v.ensures c.new-k.ensures

pub returns-then-either-eq0-clause-listing : goal.returns-then-either-eq0-clause-listing
returns-then-either-eq0-clause-listing c =
    let a = c.args in
    let r = a.surface.now.rows in
    let s = (goal.at.returns-then-either-eq0-clause-listing c).Start in
    let nv = a.file.now.vertices in
    subst (λ (es : List ℕ). Listing a.rule (space s) es (numbers s) nv a.at a.slots.now a.at a.slots.now)
    (no_edges r.sizes r.sides.now r.cubes.now a.y a.z c.cubes_around-v.result c.cubes_around-v.ensures
    (sym c.either.ensures ∙ c.if-either-eq0.true) r.sized.x_high)
    (listing_none a.rule (space s) (numbers s) nv a.at a.slots.now)

pub same_row-requires-clause-crossed : goal.same_row-requires-clause-crossed
same_row-requires-clause-crossed c =
    subst (Crossed (space (goal.at.same_row-requires-clause-crossed c).Start)) (sym (row_is (goal.at.same_row-requires-clause-crossed c).After-new-k)) c.requires.crossed

pub same_row-requires-clause-room : goal.same_row-requires-clause-room
same_row-requires-clause-room c =
    let n = c.args.surface.now.rows in (
      c.requires.room,
      c.if-at-n.true,
      omega (arith, c.count-n.ensures.0, kept_few c.new-k.result (7 * n.sizes.nx) (omega (arith, n.sized.x_high))),
    )

pub returns-then-same_row-clause-listing : goal.returns-then-same_row-clause-listing
returns-then-same_row-clause-listing c =
    let a = c.args in
    let s = (goal.at.returns-then-same_row-clause-listing c).Start in
    let r = c.same_row.ensures in
    listing_same a.rule (space s) (numbers s) a.file.now.vertices a.at (edges s) a.slots.now _ _ _
    (row_is (goal.at.returns-then-same_row-clause-listing c).After-new-k) (r.0 c.if-same_row.true) r.1
