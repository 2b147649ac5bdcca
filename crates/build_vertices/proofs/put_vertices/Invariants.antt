-- After each layer its vertices stand behind those before it. Assumes nothing.
use Rattle.paper.specs.Lattice.{lattice}
use Rattle.dots.specs.Dots.{layer_edges, drawn}
use Rattle.dots.proofs.Laws.{Drawing}
use Rattle.build_vertices.proofs.put_vertices.Given as goal

abbrev pub invariant-loop-z : goal.invariant-loop-z
invariant-loop-z l =
    let r = l.surface.rows in
    Drawing l.rule (lattice r.sizes l.surface.samples.now) (layer_edges r.sizes r.sides.now r.cubes.now) r.sizes.nz 0 0 l.z l.next
    (drawn l.initial.vertices l.initial.slots) (drawn l.vertices l.slots)
