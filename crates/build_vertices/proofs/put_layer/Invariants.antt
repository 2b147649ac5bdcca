-- After each row its vertices stand behind those before it. Assumes nothing.
use Rattle.paper.specs.Lattice.{lattice}
use Rattle.dots.specs.Dots.{edges_of, drawn}
use Rattle.dots.proofs.Laws.{Drawing}
use Rattle.build_vertices.proofs.put_layer.Given as goal

abbrev pub invariant-loop-y : goal.invariant-loop-y
invariant-loop-y l =
    let r = l.surface.rows in
    Drawing l.rule (lattice r.sizes l.surface.samples.now) (λ y. edges_of r.sizes r.sides.now r.cubes.now y l.z) r.sizes.ny l.first l.at l.y l.next
    (drawn l.initial.vertices l.initial.slots) (drawn l.vertices l.slots)
