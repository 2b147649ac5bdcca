-- After y rows their triangles are stored. Assumes nothing.
use Rattle.tiles.specs.Tiles.{source, row_tiles_at}
use Rattle.tiles.proofs.Laws.{Laid}
use Rattle.tiles.proofs.Tiling.put_layer.Given as goal

abbrev pub invariant-loop-y : goal.invariant-loop-y
invariant-loop-y l =
    let w = l.self.rows in
    let S = source l.self.table.now l.self.counts.now l.self.slots.now in
    Laid (λ y. row_tiles_at S w.sizes w.sides.now w.cubes.now y l.z) l.at l.n l.y l.next l.initial.out l.out
