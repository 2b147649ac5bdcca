-- The layers so far have their marks; each axis is cut off at the lattice's end. Assumes nothing.
use Prim.Native.Nat.{◌-◌}
use Rattle.blocks.specs.Blocks.{in_box, crossed_where, Marked}
use Rattle.marking.proofs.mark_cubes.Given as goal

abbrev pub invariant-loop-z : goal.invariant-loop-z
invariant-loop-z l =
    let r = l.rows in
    let box = in_box l.at l.n (l.y_end - l.at.y) (l.z - l.at.z) in
    Marked r.sizes (crossed_where r.sizes r.sides.now r.cubes.now box) l.initial.found l.found
