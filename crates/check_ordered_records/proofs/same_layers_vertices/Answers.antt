-- After z layers the file has their vertices. Assumes nothing.
use native.Mathlib.Omega.{arith}
use Rattle.paper.specs.Lattice.{lattice}
use Rattle.dots.specs.Dots.{layer_edges, edges_by}
use Rattle.dots.proofs.Laws.{crossed_part}
use Rattle.check_ordered_records.proofs.Dots.{going_more, going_all}
use Rattle.check_ordered_records.proofs.same_layers_vertices.Goals as goal

pub same_layer_vertices-requires-clause-crossed : goal.same_layer_vertices-requires-clause-crossed
unfolding edges_by
same_layer_vertices-requires-clause-crossed c =
    let r = c.args.surface.now.rows in
    crossed_part (lattice r.sizes c.args.surface.now.samples.now) (layer_edges r.sizes r.sides.now r.cubes.now) r.sizes.nz c.loop-z.z c.loop-z-test.true c.requires.crossed

pub loop-z-preserved : goal.loop-z-preserved
loop-z-preserved c =
    let e = c.in_ok-next.ensures in
    going_more _ _ _ _ _ _ _ _ _ _ _ c.loop-z.invariant _ _ c.loop-z-test.true e.few e.listing

pub returns-clause-listing : goal.returns-clause-listing
unfolding edges_by
returns-clause-listing c = going_all _ _ _ _ _ _ _ _ _ _ _ c.loop-z.invariant (omega arith)
