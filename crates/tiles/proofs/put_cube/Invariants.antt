-- After i numbers the first i are stored. Assumes nothing.
use Rattle.tiles.specs.Tiles.{source}
use Rattle.tiles.proofs.Laws.{Storing}
use Rattle.tiles.proofs.put_cube.Given as goal

abbrev pub invariant-loop-i : goal.invariant-loop-i
invariant-loop-i l = Storing (source l.table l.counts l.slots) l.m l.base l.at l.n l.i l.initial.out l.out
