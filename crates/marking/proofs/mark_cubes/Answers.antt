-- The layers so far have their marks; each axis is cut off at the lattice's end. Assumes nothing.
use Prim.Native.Nat.{◌+◌, ◌-◌}
use native.Mathlib.Omega.{arith}
use Rattle.blocks.proofs.Alike.{lesser}
use Rattle.blocks.proofs.Parts.{some}
use Rattle.blocks.proofs.Boxes.{layers_begin, layers_next, layers_end, block_marked}
use Rattle.marking.proofs.mark_cubes.Goals as goal

pub loop-z-init : goal.loop-z-init
loop-z-init c =
    let a = c.args in
    let r = a.rows.now in
    layers_begin r.sizes r.sides.now r.cubes.now a.at c.min-n.result (c.min-y_end.result - a.at.y) (a.at.z - a.at.z) a.found.now
    (omega arith)

pub loop-z-preserved : goal.loop-z-preserved
loop-z-preserved c =
    let a = c.args in
    let r = a.rows.now in
    let l = c.loop-z in
    layers_next r.sizes r.sides.now r.cubes.now a.at c.min-n.result (c.min-y_end.result - a.at.y) (l.z - a.at.z) (l.z + 1 - a.at.z) l.z
    a.found.now l.found _ (omega arith) (omega arith) l.invariant c.mark_layer.ensures

pub returns : goal.returns
returns c =
    let a = c.args in
    let r = a.rows.now in
    let l = c.loop-z in
    let i = c.requires.cube_in.0 in
    let n = c.min-n.result in
    let ye = c.min-y_end.result in
    let ze = c.min-z_end.result in
    let s = some a.at a.size c.requires.cube_in.1 in
    block_marked r.sizes r.sides.now r.cubes.now a.at i a.size n ye ze (lesser c.min-n.ensures) (lesser c.min-y_end.ensures)
    (lesser c.min-z_end.ensures) (omega (arith, i.y, c.min-y_end.ensures)) (omega (arith, i.z, c.min-z_end.ensures)) a.found.now l.found
    (layers_end r.sizes r.sides.now r.cubes.now a.at n (ye - a.at.y) (l.z - a.at.z) (ze - a.at.z) a.found.now l.found
    (omega (arith, i.z, c.min-z_end.ensures)) l.invariant)
