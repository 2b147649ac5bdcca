-- After z layers their triangles are stored. Assumes nothing.
use mathlib.Core.Path.{◌∙◌}
use mathlib.Core.List.{List}
use Prim.Native.Nat.{ℕ, ◌+◌, ◌-◌, ◌≤◌}
use native.Mathlib.Omega.{arith}
use lib.ListN.{length}
use Rattle.lists.specs.Lists.{range, each}
use Rattle.lists.proofs.Stores.{sets_front}
use Rattle.tiles.specs.Tiles.{source, layer_tiles, tiles_by}
use Rattle.tiles.proofs.Laws.{laid_fit, laid_more, laid_all}
use Rattle.tiles.proofs.put_triangles.Goals as goal
use Rattle.tiles.proofs.put_triangles.Goals.{Start}

-- the numbers of a layer
abbrev one : goal.Start → ℕ → List ℕ
one s =
    let t = s.args.tiling.now in
    let w = s.args.tiling.now.rows in
    layer_tiles (source t.table.now t.counts.now s.args.tiling.now.slots.now) w.sizes w.sides.now w.cubes.now

abbrev end : goal.Start → ℕ
end s = s.args.tiling.now.rows.sizes.nz - 1

pub put_layer-at-requires-clause-z_in_bounds : goal.put_layer-at-requires-clause-z_in_bounds
unfolding tiles_by
put_layer-at-requires-clause-z_in_bounds c =
    let old = c.args.triangles.now in
    let w = c.loop-z in
    let s = (goal.at.put_layer-at-requires-clause-z_in_bounds c).Start in
    let room : 0 + length (each (one s) (range 0 (end s))) ≤ length old = omega (arith, c.requires.cubes_in_bounds) in
    laid_fit (one s) 0 (end s) w.z w.at old w.triangles w.invariant (omega arith) room

pub loop-z-preserved : goal.loop-z-preserved
loop-z-preserved c =
    let w = c.loop-z in
    let s = (goal.at.loop-z-preserved c).Start in
    let e = c.put_layer-at.ensures in
    laid_more (one s) 0 (end s) w.z w.at c.args.triangles.now w.triangles w.invariant _ _ (omega arith) e.0 e.1

pub returns : goal.returns
unfolding tiles_by
returns c =
    let old = c.args.triangles.now in
    let w = c.loop-z in
    let s = (goal.at.returns c).Start in
    (laid_all (one s) 0 (end s) w.z w.at old w.triangles w.invariant (omega arith)).0
    ∙ sets_front old (each (one s) (range 0 (end s))) c.requires.cubes_in_bounds
