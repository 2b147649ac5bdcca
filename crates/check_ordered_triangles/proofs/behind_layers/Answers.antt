-- After z layers the file has their triangles. Assumes nothing.
use native.Mathlib.Omega.{arith}
use Rattle.tiles.specs.Tiles.{tiles_by}
use Rattle.check_ordered.proofs.Laws.{found_more, found_all}
use Rattle.check_ordered_triangles.proofs.behind_layers.Goals as goal

pub loop-z-preserved : goal.loop-z-preserved
loop-z-preserved c =
    let w = c.in_ok-next in found_more _ _ _ _ _ _ _ _ c.loop-z.invariant (omega arith) w.ensures.0 w.ensures.1

pub returns : goal.returns
unfolding tiles_by
returns c = found_all _ _ _ _ _ _ _ c.loop-z.invariant (omega arith)
