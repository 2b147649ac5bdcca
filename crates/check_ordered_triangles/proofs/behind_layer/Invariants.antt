-- After y rows the file has their triangles. Assumes nothing.
use Prim.Native.Nat.{◌-◌, ◌*◌}
use Rattle.paper.specs.File.{file_triangles}
use Rattle.tiles.specs.Tiles.{source, row_tiles_at}
use Rattle.check_ordered.proofs.Laws.{Found}
use Rattle.check_ordered_triangles.proofs.behind_layer.Given as goal

abbrev pub invariant-loop-y : goal.invariant-loop-y
invariant-loop-y l =
    let w = l.tiling.rows in
    let f = l.file in
    let S = source l.tiling.table.now l.tiling.counts.now l.tiling.slots.now in
    let n = w.sizes.ny - 1 in
    Found (λ y. row_tiles_at S w.sizes w.sides.now w.cubes.now y l.z) (file_triangles f.bytes.now) l.at (3 * f.triangles) n l.y l.next
