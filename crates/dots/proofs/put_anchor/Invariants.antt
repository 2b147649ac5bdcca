-- After each kind its vertex stands behind those before it. Assumes nothing.
use Rattle.paper.specs.Lattice.{lattice}
use Rattle.dots.specs.Dots.{edge_at, drawn}
use Rattle.dots.proofs.Laws.{Drawing}
use Rattle.dots.proofs.put_anchor.Given as goal

abbrev pub invariant-loop-kind : goal.invariant-loop-kind
invariant-loop-kind l =
    Drawing l.rule (lattice l.volume.sizes l.volume.samples.now) (edge_at l.ks l.base) 7 l.first l.at l.kind l.next (drawn l.initial.vertices l.initial.slots) (drawn l.vertices l.slots)
