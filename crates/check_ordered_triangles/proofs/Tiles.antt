-- A row of triangles fits a slice of 2304 numbers. Assumes nothing.
use mathlib.Core.Bool.{Bool, true, false, cond}
use mathlib.Core.List.{List, []}
use Prim.Native.Nat.{ℕ, ◌+◌, ◌-◌, ◌*◌, ◌≤◌}
use native.Mathlib.Omega.{arith}
use lib.ListN.{length, get_or}
use Rattle.lists.specs.Lists.{range}
use Rattle.lists.proofs.Every.{each_le}
use Rattle.lists.proofs.Closure.{length_range}
use Rattle.paper.specs.declared.Sizes.{Sizes}
use Rattle.paper.specs.Within.{Sized}
use Rattle.bits.specs.Words.{bit}
use Rattle.rows.specs.declared.Quad.{Quad}
use Rattle.rows.specs.Rows.{quad_at, pattern_in}
use Rattle.patterns.specs.Table.{steps_by, Tabled}
use Rattle.patterns.proofs.Laws.{steps_few}
use Rattle.tiles.specs.Tiles.{Source, tile_of, tile_at, row_tiles, row_tiles_at}
use Rattle.tiles.proofs.Laws.{tile_length, pattern_lt}

module _ (z : Sizes) (s : Sized z) (S : Source) (T : Tabled (steps_by z) 256 S.table S.counts) where
  -- a cube has at most 36 numbers
  cube_few : (q : Quad) (v base x : ℕ) → length (tile_at S q v base x) ≤ 36
  unfolding tile_at
  cube_few q v base x = go (bit v x)
    where
      go : (b : Bool) → length (cond b (tile_of S (pattern_in q x) (base + 7 * x)) []) ≤ 36
      go true =
          let m = pattern_in q x in
          omega (arith, tile_length S m (base + 7 * x), T.count m (pattern_lt q x), steps_few z m)
      go false = omega arith

  pub row_few : (rows vis : List ℕ) (y w : ℕ) → length (row_tiles_at S z rows vis y w) ≤ 2304
  unfolding row_tiles_at row_tiles
  row_few rows vis y w =
      let r = y + z.ny * w in
      let q = quad_at rows z.ny r in
      let v = get_or vis r 0 in
      let b = 7 * (z.nx * r) in
      omega (arith, each_le (tile_at S q v b) 36 (cube_few q v b) (range 0 (z.nx - 1)), length_range 0 (z.nx - 1), s.x_low, s.x_high)
