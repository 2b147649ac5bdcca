-- After k doors the state is that of k sends. Assumes nothing.
use mathlib.Core.Path.{◌≡◌}
use Rattle.ways.specs.Flow.{flow, sends}
use Rattle.ways.specs.Ways.{door_by, beside_by}
use Rattle.ways.proofs.pass_doors.Given as goal

abbrev pub invariant-loop-k : goal.invariant-loop-k
invariant-loop-k l =
    let z = l.rows.sizes in
    let before = flow l.initial.due l.initial.waiting l.height in
    flow l.due l.waiting l.h ≡ sends l.vis (door_by z l.rows.cubes.now l.q l.r) (beside_by z l.q l.r) l.f l.k before
