-- After z layers their triangles are stored. Assumes nothing.
use Rattle.tiles.specs.Tiles.{source, layer_tiles}
use Rattle.tiles.proofs.Laws.{Laid}
use Rattle.tiles.proofs.put_triangles.Given as goal

abbrev pub invariant-loop-z : goal.invariant-loop-z
invariant-loop-z l =
    let w = l.tiling.rows in
    let S = source l.tiling.table.now l.tiling.counts.now l.tiling.slots.now in
    Laid (layer_tiles S w.sizes w.sides.now w.cubes.now) 0 l.n l.z l.at l.initial.triangles l.triangles
