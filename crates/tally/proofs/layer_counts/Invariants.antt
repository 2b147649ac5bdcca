-- After y rows theirs are summed. Assumes nothing.
use Rattle.tally.specs.Tally.{vertices_by, triangles_by, Summed}
use Rattle.tally.proofs.layer_counts.Given as goal

abbrev pub invariant-loop-y : goal.invariant-loop-y
invariant-loop-y l =
    let r = l.rows in
    let ws = r.sides.now in
    let vs = r.cubes.now in
    Summed (vertices_by r.sizes ws vs l.z) (triangles_by r.sizes ws vs l.z) 448 768 l.y l.vertices l.triangles
