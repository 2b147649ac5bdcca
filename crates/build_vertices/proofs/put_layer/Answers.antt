-- After each row its vertices stand behind those before it. Assumes nothing.
use mathlib.Core.List.{List}
use Prim.Native.Nat.{ℕ}
use native.Mathlib.Omega.{arith}
use Rattle.paper.specs.Lattice.{Lattice, lattice}
use Rattle.dots.specs.Dots.{edges_of, layer_edges, Drawn, drawn}
use Rattle.dots.proofs.Laws.{drawing_room, drawing_more, drawing_all, crossed_part}
use Rattle.build_vertices.proofs.put_layer.Goals as goal
use Rattle.build_vertices.proofs.put_layer.Goals.{At-loop-y, Start}

abbrev lent : goal.Start → Drawn
lent s = drawn s.args.vertices.now s.args.slots.now

abbrev left : goal.At-loop-y → Drawn
left l = drawn l.loop-y.vertices l.loop-y.slots

abbrev space : goal.Start → Lattice
space s = lattice s.args.surface.now.rows.sizes s.args.surface.now.samples.now

-- the edges of a row
abbrev edges : goal.Start → ℕ → List ℕ
edges s y = let r = s.args.surface.now.rows in edges_of r.sizes r.sides.now r.cubes.now y s.args.z

pub put_row_at-next-requires-clause-crossed : goal.put_row_at-next-requires-clause-crossed
unfolding layer_edges
put_row_at-next-requires-clause-crossed c =
    let s = (goal.at.put_row_at-next-requires-clause-crossed c).Start in
    crossed_part (space s) (edges s) c.args.surface.now.rows.sizes.ny c.loop-y.y (omega arith) c.requires.crossed

pub put_row_at-next-requires-clause-roomy : goal.put_row_at-next-requires-clause-roomy
unfolding layer_edges
put_row_at-next-requires-clause-roomy c =
    let a = c.args in
    let p = c.loop-y in
    let s = (goal.at.put_row_at-next-requires-clause-roomy c).Start in
    drawing_room a.rule (space s) (edges s) a.surface.now.rows.sizes.ny a.first a.at p.y p.next (lent s) (left (goal.at.put_row_at-next-requires-clause-roomy c).At-loop-y)
    p.invariant _ c.requires.roomy (omega arith)

pub loop-y-preserved : goal.loop-y-preserved
loop-y-preserved c =
    let a = c.args in
    let p = c.loop-y in
    let s = (goal.at.loop-y-preserved c).Start in
    drawing_more a.rule (space s) (edges s) a.surface.now.rows.sizes.ny a.first a.at p.y p.next (lent s) (left (goal.at.loop-y-preserved c).At-loop-y)
    p.invariant c.put_row_at-next.result _ c.requires.roomy.since (omega arith) c.put_row_at-next.ensures

pub returns : goal.returns
unfolding layer_edges
returns c =
    let a = c.args in
    let p = c.loop-y in
    let s = (goal.at.returns c).Start in
    drawing_all a.rule (space s) (edges s) a.surface.now.rows.sizes.ny a.first a.at p.y p.next (lent s) (left (goal.at.returns c).At-loop-y) p.invariant (omega arith)
