-- The pass has come to row y of the layer. Assumes nothing.
use Rattle.gather.specs.Gathering.{held, row_start}
use Rattle.gather.proofs.Passes.{Walk}
use Rattle.gather.proofs.scan_layer.Given as goal

abbrev pub invariant-loop-y : goal.invariant-loop-y
invariant-loop-y l =
    let r = l.rows in
    let s = r.sizes in
    let before = held l.initial.vis l.initial.waiting l.initial.list l.n in
    let after = held l.vis l.waiting l.list l.count in
    Walk s r.sides.now r.cubes.now (row_start s 0 l.z) (row_start s l.y l.z) before after l.initial.due l.due
