-- After each anchor its vertices stand behind those before it. Assumes nothing.
use Prim.Native.Nat.{◌+◌, ◌*◌}
use Rattle.paper.specs.Lattice.{lattice}
use Rattle.dots.specs.Dots.{anchor_edges, drawn}
use Rattle.dots.proofs.Laws.{Drawing}
use Rattle.dots.proofs.put_row.Given as goal

abbrev pub invariant-loop-x : goal.invariant-loop-x
invariant-loop-x l =
    let n = l.volume.sizes in
    Drawing l.rule (lattice n l.volume.samples.now) (anchor_edges l.k (7 * (n.nx * (l.y + n.ny * l.z)))) n.nx l.first l.at l.x l.next
    (drawn l.initial.vertices l.initial.slots) (drawn l.vertices l.slots)
