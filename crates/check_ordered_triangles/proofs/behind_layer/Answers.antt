-- After y rows the file has their triangles. Assumes nothing.
use native.Mathlib.Omega.{arith}
use Rattle.tiles.specs.Tiles.{layer_tiles}
use Rattle.check_ordered.proofs.Laws.{found_more, found_all}
use Rattle.check_ordered_triangles.proofs.behind_layer.Goals as goal

pub loop-y-preserved : goal.loop-y-preserved
loop-y-preserved c =
    let w = c.in_ok-next in found_more _ _ _ _ _ _ _ _ c.loop-y.invariant (omega arith) w.ensures.0 w.ensures.1

pub returns : goal.returns
unfolding layer_tiles
returns c = (c.loop-y.invariant.within, found_all _ _ _ _ _ _ _ c.loop-y.invariant (omega arith))
