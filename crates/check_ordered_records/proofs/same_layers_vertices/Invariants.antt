-- After z layers the file has their vertices. Assumes nothing.
use Rattle.paper.specs.Lattice.{lattice}
use Rattle.paper.specs.File.{file_vertices}
use Rattle.dots.specs.Dots.{layer_edges}
use Rattle.check_ordered_records.proofs.Dots.{Going}
use Rattle.check_ordered_records.proofs.same_layers_vertices.Given as goal

abbrev pub invariant-loop-z : goal.invariant-loop-z
invariant-loop-z l =
    let r = l.surface.rows in
    Going l.rule (lattice r.sizes l.surface.samples.now) (layer_edges r.sizes r.sides.now r.cubes.now) (file_vertices l.file.bytes.now) l.file.vertices 0
    r.sizes.nz l.z l.next l.initial.slots l.slots
