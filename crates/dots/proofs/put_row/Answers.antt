-- After each anchor its vertices stand behind those before it. Assumes nothing.
use mathlib.Core.List.{List}
use Prim.Native.Nat.{ℕ, ◌+◌, ◌*◌}
use native.Mathlib.Omega.{arith}
use Rattle.paper.specs.Lattice.{Lattice, lattice}
use Rattle.dots.specs.Dots.{anchor_edges, row_edges, Drawn, drawn}
use Rattle.dots.proofs.Laws.{drawing_room, drawing_more, drawing_all, crossed_part}
use Rattle.dots.proofs.put_row.Goals as goal
use Rattle.dots.proofs.put_row.Goals.{At-loop-x, Start}

abbrev lent : goal.Start → Drawn
lent s = drawn s.args.vertices.now s.args.slots.now

abbrev left : goal.At-loop-x → Drawn
left l = drawn l.loop-x.vertices l.loop-x.slots

abbrev space : goal.Start → Lattice
space s = lattice s.args.volume.now.sizes s.args.volume.now.samples.now

-- the edges of an anchor
abbrev edges : goal.Start → ℕ → List ℕ
edges s = let a = s.args in let n = a.volume.now.sizes in anchor_edges a.k.now (7 * (n.nx * (a.y + n.ny * a.z)))

pub put_place-next-requires-clause-crossed : goal.put_place-next-requires-clause-crossed
unfolding row_edges
put_place-next-requires-clause-crossed c =
    let s = (goal.at.put_place-next-requires-clause-crossed c).Start in
    crossed_part (space s) (edges s) c.args.volume.now.sizes.nx c.loop-x.x (omega arith) c.requires.crossed

pub put_place-next-requires-clause-roomy : goal.put_place-next-requires-clause-roomy
unfolding row_edges
put_place-next-requires-clause-roomy c =
    let a = c.args in
    let p = c.loop-x in
    let s = (goal.at.put_place-next-requires-clause-roomy c).Start in
    drawing_room a.rule (space s) (edges s) a.volume.now.sizes.nx a.first a.at p.x p.next (lent s) (left (goal.at.put_place-next-requires-clause-roomy c).At-loop-x)
    p.invariant _ c.requires.roomy (omega arith)

pub loop-x-preserved : goal.loop-x-preserved
loop-x-preserved c =
    let a = c.args in
    let p = c.loop-x in
    let s = (goal.at.loop-x-preserved c).Start in
    drawing_more a.rule (space s) (edges s) a.volume.now.sizes.nx a.first a.at p.x p.next (lent s) (left (goal.at.loop-x-preserved c).At-loop-x)
    p.invariant c.put_place-next.result _ c.requires.roomy.since (omega arith) c.put_place-next.ensures

pub returns : goal.returns
unfolding row_edges
returns c =
    let a = c.args in
    let p = c.loop-x in
    let s = (goal.at.returns c).Start in
    drawing_all a.rule (space s) (edges s) a.volume.now.sizes.nx a.first a.at p.x p.next (lent s) (left (goal.at.returns c).At-loop-x) p.invariant (omega arith)
