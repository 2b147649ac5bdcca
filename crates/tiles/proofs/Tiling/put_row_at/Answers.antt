-- By whether the row has a cube. Assumes nothing.
use mathlib.Core.Path.{◌≡◌, sym, ap, ◌∙◌}
use mathlib.Core.List.{List}
use Prim.Native.Nat.{ℕ, ◌+◌, ◌-◌, ◌*◌}
use native.Mathlib.Omega.{arith}
use lib.ListN.{length, get_or}
use lib.Seq.{sets}
use Rattle.rows.specs.declared.Quad.{Quad}
use Rattle.rows.specs.Rows.{quad_at}
use Rattle.rows.proofs.Cubes.{quad_within}
use Rattle.tiles.specs.Tiles.{Source, source, row_tiles, row_tiles_at}
use Rattle.tiles.proofs.Laws.{row_empty, row_reaching}
use Rattle.tiles.proofs.Tiling.put_row_at.Goals as goal
use Rattle.tiles.proofs.Tiling.put_row_at.Goals.{After-quad-q, Start}

abbrev from : goal.Start → Source
from s = let t = s.args.self.now in source t.table.now t.counts.now s.args.self.now.slots.now

-- the row's number, its word of cubes, and 7 × the number of its first sample
abbrev row_no : goal.Start → ℕ
row_no s = s.args.y + s.args.self.now.rows.sizes.ny * s.args.z

abbrev cubes_in : goal.Start → ℕ
cubes_in s = get_or s.args.self.now.rows.cubes.now (row_no s) 0

abbrev base : goal.Start → ℕ
base s = 7 * (s.args.self.now.rows.sizes.nx * row_no s)

-- the row's numbers
abbrev whole : goal.Start → List ℕ
whole s = let w = s.args.self.now.rows in row_tiles_at (from s) w.sizes w.sides.now w.cubes.now s.args.y s.args.z

-- by the quad that the call gives
same : (c : goal.After-quad-q) → let s = (goal.at.After-quad-q c).Start in
    row_tiles (from s) c.quad-q.result (cubes_in s) (base s) (c.args.self.now.rows.sizes.nx - 1) ≡ whole s
unfolding row_tiles_at
same c =
    let s = (goal.at.After-quad-q c).Start in
    ap (λ (q : Quad). row_tiles (from s) q (cubes_in s) (base s) (c.args.self.now.rows.sizes.nx - 1)) c.quad-q.ensures

pub returns-then-v-eq0 : goal.returns-then-v-eq0
unfolding row_tiles_at
returns-then-v-eq0 c =
    let a = c.args in
    let s = (goal.at.returns-then-v-eq0 c).Start in
    let n = a.self.now.rows.sizes in
    let q = quad_at a.self.now.rows.sides.now n.ny (row_no s) in
    let e : whole s ≡ _ = row_empty (from s) q (cubes_in s) (base s) (n.nx - 1) c.if-v-eq0.true in
    (sym (ap (sets a.out.now a.at) e), omega (arith, ap length e))

pub quad-q-requires : goal.quad-q-requires
quad-q-requires c =
    let n = c.args.self.now.rows.sizes in quad_within n.ny n.nz c.args.y c.args.z c.requires.fact.0 c.requires.fact.1

pub put_row-requires-clause-fact : goal.put_row-requires-clause-fact
put_row-requires-clause-fact c =
    let a = c.args in
    let n = a.self.now.rows.sizes in
    let t = a.self.now in
    let s = (goal.at.put_row-requires-clause-fact c).Start in (
      row_reaching n (from s) t.tabled (length a.self.now.slots.now) a.self.now.room c.quad-q.result (cubes_in s) a.y a.z c.requires.fact.0
          c.requires.fact.1,
      omega (arith, c.requires.z_in_bounds, ap length (same (goal.at.put_row-requires-clause-fact c).After-quad-q)),
    )

pub returns : goal.returns
returns c =
    let a = c.args in
    let e = same (goal.at.returns c).After-quad-q in
    (c.put_row.ensures.0 ∙ ap (sets a.out.now a.at) e, c.put_row.ensures.1 ∙ ap (λ (l : List ℕ). a.at + length l) e)
