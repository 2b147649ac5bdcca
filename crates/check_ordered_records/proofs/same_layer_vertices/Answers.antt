-- After y rows the file has their vertices. Assumes nothing.
use mathlib.Core.List.{List}
use Prim.Native.Nat.{ℕ}
use native.Mathlib.Omega.{arith}
use Rattle.paper.specs.Lattice.{lattice}
use Rattle.dots.specs.Dots.{edges_of, layer_edges}
use Rattle.dots.proofs.Laws.{crossed_part}
use Rattle.check_ordered_records.proofs.Dots.{going_more, going_all}
use Rattle.check_ordered_records.proofs.same_layer_vertices.Goals as goal

pub same_row_vertices-requires-clause-crossed : goal.same_row_vertices-requires-clause-crossed
unfolding layer_edges
same_row_vertices-requires-clause-crossed c =
    let r = c.args.surface.now.rows in
    let edges : ℕ → List ℕ = λ y. edges_of r.sizes r.sides.now r.cubes.now y c.args.z in
    crossed_part (lattice r.sizes c.args.surface.now.samples.now) edges r.sizes.ny c.loop-y.y c.loop-y-test.true c.requires.crossed

pub loop-y-preserved : goal.loop-y-preserved
loop-y-preserved c =
    let e = c.in_ok-next.ensures in
    going_more _ _ _ _ _ _ _ _ _ _ _ c.loop-y.invariant _ _ c.loop-y-test.true e.few e.listing

pub returns-clause-listing : goal.returns-clause-listing
unfolding layer_edges
returns-clause-listing c = going_all _ _ _ _ _ _ _ _ _ _ _ c.loop-y.invariant (omega arith)
