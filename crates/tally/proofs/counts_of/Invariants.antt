-- After z layers theirs are summed. Assumes nothing.
use Rattle.tally.specs.Tally.{layer_vertices, layer_triangles, Summed}
use Rattle.tally.proofs.counts_of.Given as goal

-- a layer has at most 64 rows, of 448 vertices and 768 triangles each
abbrev pub invariant-loop-z : goal.invariant-loop-z
invariant-loop-z l =
    let r = l.rows in
    let ws = r.sides.now in
    let vs = r.cubes.now in
    Summed (layer_vertices r.sizes ws vs) (layer_triangles r.sizes ws vs) 28672 49152 l.z l.vertices l.triangles
