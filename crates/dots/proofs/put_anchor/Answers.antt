-- After each kind its vertex stands behind those before it. Assumes nothing.
use native.Mathlib.Omega.{arith}
use Rattle.paper.specs.Lattice.{Lattice, lattice}
use Rattle.dots.specs.Dots.{edge_at, edges_at, Drawn, drawn}
use Rattle.dots.proofs.Laws.{drawing_room, drawing_more, drawing_all}
use Rattle.dots.proofs.put_anchor.Goals as goal
use Rattle.dots.proofs.put_anchor.Goals.{At-loop-kind, Start}

abbrev lent : goal.Start → Drawn
lent s = drawn s.args.vertices.now s.args.slots.now

abbrev left : goal.At-loop-kind → Drawn
left l = drawn l.loop-kind.vertices l.loop-kind.slots

abbrev space : goal.Start → Lattice
space s = lattice s.args.volume.now.sizes s.args.volume.now.samples.now

pub put_kind-next-requires-clause-roomy : goal.put_kind-next-requires-clause-roomy
unfolding edges_at
put_kind-next-requires-clause-roomy c =
    let a = c.args in
    let p = c.loop-kind in
    let s = (goal.at.put_kind-next-requires-clause-roomy c).Start in
    drawing_room a.rule (space s) (edge_at a.ks a.base) 7 a.first a.at p.kind p.next (lent s) (left (goal.at.put_kind-next-requires-clause-roomy c).At-loop-kind)
    p.invariant _ c.requires.roomy (omega arith)

pub loop-kind-preserved : goal.loop-kind-preserved
loop-kind-preserved c =
    let a = c.args in
    let p = c.loop-kind in
    let s = (goal.at.loop-kind-preserved c).Start in
    drawing_more a.rule (space s) (edge_at a.ks a.base) 7 a.first a.at p.kind p.next (lent s) (left (goal.at.loop-kind-preserved c).At-loop-kind)
    p.invariant c.put_kind-next.result _ c.requires.roomy.since (omega arith) c.put_kind-next.ensures

pub returns : goal.returns
unfolding edges_at
returns c =
    let a = c.args in
    let p = c.loop-kind in
    let s = (goal.at.returns c).Start in
    drawing_all a.rule (space s) (edge_at a.ks a.base) 7 a.first a.at p.kind p.next (lent s) (left (goal.at.returns c).At-loop-kind) p.invariant (omega arith)
