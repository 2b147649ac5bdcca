-- After x cubes their triangles are stored. Assumes nothing.
use mathlib.Core.List.{List}
use Prim.Native.Nat.{ℕ}
use native.Mathlib.Omega.{arith}
use Rattle.tiles.specs.Tiles.{source, tile_at, row_tiles}
use Rattle.tiles.proofs.Laws.{laid_fit, laid_more, laid_all}
use Rattle.tiles.proofs.put_row.Goals as goal
use Rattle.tiles.proofs.put_row.Goals.{Start}

-- the numbers of a cube
abbrev one : goal.Start → ℕ → List ℕ
one s = tile_at (source s.args.table.now s.args.counts.now s.args.slots.now) s.args.q s.args.v s.args.base

pub put_place-next-requires-clause-fact : goal.put_place-next-requires-clause-fact
unfolding row_tiles
put_place-next-requires-clause-fact c =
    let a = c.args in
    let w = c.loop-x in
    let f = one (goal.at.put_place-next-requires-clause-fact c).Start in (
      record { cube = λ y h t. c.requires.fact.0.cube y (omega arith) t },
      laid_fit f a.at a.n w.x w.next a.out.now w.out w.invariant (omega arith) c.requires.fact.1,
    )

pub loop-x-preserved : goal.loop-x-preserved
loop-x-preserved c =
    let a = c.args in
    let w = c.loop-x in
    let s = c.put_place-next.ensures in
    laid_more (one (goal.at.loop-x-preserved c).Start) a.at a.n w.x w.next a.out.now w.out w.invariant _ _ (omega arith) s.0 s.1

pub returns : goal.returns
unfolding row_tiles
returns c =
    let a = c.args in
    let w = c.loop-x in
    laid_all (one (goal.at.returns c).Start) a.at a.n w.x w.next a.out.now w.out w.invariant (omega arith)
