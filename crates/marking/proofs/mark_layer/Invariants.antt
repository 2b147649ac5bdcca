-- The rows so far have their marks. Assumes nothing.
use Prim.Native.Nat.{◌-◌}
use Rattle.blocks.specs.Blocks.{in_box, crossed_where, Marked}
use Rattle.marking.proofs.mark_layer.Given as goal

abbrev pub invariant-loop-y : goal.invariant-loop-y
invariant-loop-y l =
    let r = l.rows in
    Marked r.sizes (crossed_where r.sizes r.sides.now r.cubes.now (in_box l.at l.n (l.y - l.at.y) 1)) l.initial.found l.found
