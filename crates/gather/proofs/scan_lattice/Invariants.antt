-- The pass has come to layer z. Assumes nothing.
use Rattle.gather.specs.Gathering.{held, row_start}
use Rattle.gather.proofs.Passes.{Walk}
use Rattle.gather.proofs.scan_lattice.Given as goal

abbrev pub invariant-loop-z : goal.invariant-loop-z
invariant-loop-z l =
    let r = l.rows in
    let s = r.sizes in
    let before = held l.initial.vis l.initial.waiting l.initial.list 0 in
    let after = held l.vis l.waiting l.list l.count in
    Walk s r.sides.now r.cubes.now 0 (row_start s 0 l.z) before after l.initial.due l.due
