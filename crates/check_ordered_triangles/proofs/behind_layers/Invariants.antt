-- After z layers the file has their triangles. Assumes nothing.
use Prim.Native.Nat.{◌-◌, ◌*◌}
use Rattle.paper.specs.File.{file_triangles}
use Rattle.tiles.specs.Tiles.{source, layer_tiles}
use Rattle.check_ordered.proofs.Laws.{Found}
use Rattle.check_ordered_triangles.proofs.behind_layers.Given as goal

abbrev pub invariant-loop-z : goal.invariant-loop-z
invariant-loop-z l =
    let w = l.tiling.rows in
    let f = l.file in
    let S = source l.tiling.table.now l.tiling.counts.now l.tiling.slots.now in
    Found (layer_tiles S w.sizes w.sides.now w.cubes.now) (file_triangles f.bytes.now) 0 (3 * f.triangles) (w.sizes.nz - 1) l.z l.next
