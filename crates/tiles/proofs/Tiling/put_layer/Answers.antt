-- After y rows their triangles are stored. Assumes nothing.
use mathlib.Core.List.{List}
use Prim.Native.Nat.{ℕ, ◌-◌}
use native.Mathlib.Omega.{arith}
use Rattle.tiles.specs.Tiles.{source, row_tiles_at, layer_tiles}
use Rattle.tiles.proofs.Laws.{laid_fit, laid_more, laid_all}
use Rattle.tiles.proofs.Tiling.put_layer.Goals as goal
use Rattle.tiles.proofs.Tiling.put_layer.Goals.{Start}

-- the numbers of a row
abbrev one : goal.Start → ℕ → List ℕ
one s y =
    let t = s.args.self.now in
    let w = s.args.self.now.rows in
    row_tiles_at (source t.table.now t.counts.now s.args.self.now.slots.now) w.sizes w.sides.now w.cubes.now y s.args.z

abbrev end : goal.Start → ℕ
end s = s.args.self.now.rows.sizes.ny - 1

pub put_row_at-next-requires-clause-z_in_bounds : goal.put_row_at-next-requires-clause-z_in_bounds
unfolding layer_tiles
put_row_at-next-requires-clause-z_in_bounds c =
    let a = c.args in
    let w = c.loop-y in
    let s = (goal.at.put_row_at-next-requires-clause-z_in_bounds c).Start in
    laid_fit (one s) a.at (end s) w.y w.next a.out.now w.out w.invariant (omega arith) c.requires.z_in_bounds

pub loop-y-preserved : goal.loop-y-preserved
loop-y-preserved c =
    let a = c.args in
    let w = c.loop-y in
    let s = (goal.at.loop-y-preserved c).Start in
    let e = c.put_row_at-next.ensures in
    laid_more (one s) a.at (end s) w.y w.next a.out.now w.out w.invariant _ _ (omega arith) e.0 e.1

pub returns : goal.returns
unfolding layer_tiles
returns c =
    let a = c.args in
    let w = c.loop-y in
    let s = (goal.at.returns c).Start in
    laid_all (one s) a.at (end s) w.y w.next a.out.now w.out w.invariant (omega arith)
