-- The rows so far have their marks. Assumes nothing.
use Prim.Native.Nat.{◌+◌, ◌-◌}
use native.Mathlib.Omega.{arith}
use Rattle.blocks.proofs.Boxes.{rows_begin, rows_next}
use Rattle.marking.proofs.mark_layer.Goals as goal

pub loop-y-init : goal.loop-y-init
loop-y-init c =
    let a = c.args in
    let r = a.rows.now in
    rows_begin r.sizes r.sides.now r.cubes.now a.at a.n (a.at.y - a.at.y) 1 a.found.now (omega arith)

pub loop-y-preserved : goal.loop-y-preserved
loop-y-preserved c =
    let a = c.args in
    let r = a.rows.now in
    let l = c.loop-y in
    rows_next r.sizes r.sides.now r.cubes.now a.at a.n (l.y - a.at.y) (l.y + 1 - a.at.y) 1 l.y a.found.now l.found _
    (omega arith) (omega arith) l.invariant c.mark_part.ensures
