-- After y rows the file has their vertices. Assumes nothing.
use Rattle.paper.specs.Lattice.{lattice}
use Rattle.paper.specs.File.{file_vertices}
use Rattle.dots.specs.Dots.{edges_of}
use Rattle.check_ordered_records.proofs.Dots.{Going}
use Rattle.check_ordered_records.proofs.same_layer_vertices.Given as goal

abbrev pub invariant-loop-y : goal.invariant-loop-y
invariant-loop-y l =
    let r = l.surface.rows in
    Going l.rule (lattice r.sizes l.surface.samples.now) (λ y. edges_of r.sizes r.sides.now r.cubes.now y l.z) (file_vertices l.file.bytes.now) l.file.vertices l.at
    r.sizes.ny l.y l.next l.initial.slots l.slots
