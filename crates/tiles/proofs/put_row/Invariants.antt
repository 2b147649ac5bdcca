-- After x cubes their triangles are stored. Assumes nothing.
use Rattle.tiles.specs.Tiles.{source, tile_at}
use Rattle.tiles.proofs.Laws.{Laid}
use Rattle.tiles.proofs.put_row.Given as goal

abbrev pub invariant-loop-x : goal.invariant-loop-x
invariant-loop-x l = Laid (tile_at (source l.table l.counts l.slots) l.q l.v l.base) l.at l.n l.x l.next l.initial.out l.out
