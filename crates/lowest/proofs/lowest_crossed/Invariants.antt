-- No cube before the row is wanted, and no cube of the row so far. Assumes nothing.
use Prim.Native.Nat.{◌+◌, ◌-◌, ◌*◌}
use Rattle.lowest.proofs.Search.{Seeking, Looking}
use Rattle.lowest.proofs.lowest_crossed.Given as goal

abbrev pub invariant-loop-x : goal.invariant-loop-x
invariant-loop-x l = Looking l.m l.found l.x

abbrev pub invariant-loop-y : goal.invariant-loop-y
invariant-loop-y l =
    let r = l.rows in
    Seeking l.off r.sizes r.sides.now r.cubes.now l.found ((r.sizes.nx - 1) * (l.y + (r.sizes.ny - 1) * l.z))

abbrev pub invariant-sought : goal.invariant-sought
invariant-sought l =
    let r = l.rows in
    Seeking l.off r.sizes r.sides.now r.cubes.now l.found ((r.sizes.nx - 1) * ((r.sizes.ny - 1) * l.z))
