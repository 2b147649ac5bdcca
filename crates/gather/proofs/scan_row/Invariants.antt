-- The pass has come to cube x of the row; a row of which nothing is left is passed at once. Assumes nothing.
use Prim.Native.Nat.{◌+◌}
use Rattle.gather.specs.Gathering.{held, row_start}
use Rattle.gather.proofs.Passes.{Walk}
use Rattle.gather.proofs.scan_row.Given as goal

abbrev pub invariant-loop-x : goal.invariant-loop-x
invariant-loop-x l =
    let r = l.rows in
    let s = r.sizes in
    let before = held l.initial.vis l.initial.waiting l.initial.list l.n in
    let after = held l.vis l.waiting l.list l.count in
    Walk s r.sides.now r.cubes.now (row_start s l.y l.z) (row_start s l.y l.z + l.x) before after l.initial.due l.due
