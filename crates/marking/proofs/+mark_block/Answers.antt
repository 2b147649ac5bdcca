-- A block that reaches beyond the lattice or is on one side gets no mark; else its parts get theirs, one by one.
use mathlib.Core.Path.{refl}
use Prim.Native.Nat.{◌/◌, ◌<◌}
use native.Mathlib.Omega.{arith}
use Rattle.blocks.specs.Blocks.{in_block, crossed_where}
use Rattle.blocks.proofs.Marks.{marked_none}
use Rattle.blocks.proofs.Parts.{outside_quiet, one_side_quiet, quiet_none, halved, part_block, parts_begin, parts_next, parts_end}
use Rattle.marking.proofs.+mark_block.Goals as goal

pub returns-then-beyond : goal.returns-then-beyond
returns-then-beyond t c =
    let a = c.args in
    let r = a.rows.now in
    marked_none r.sizes (crossed_where r.sizes r.sides.now r.cubes.now (in_block a.at a.size)) a.found.now
    (quiet_none r.sizes r.sides.now r.cubes.now a.at a.size
    (outside_quiet r.sizes r.sides.now r.cubes.now a.at a.size (c.beyond.ensures.0 c.if-beyond.true)))

pub returns-then-one_side : goal.returns-then-one_side
returns-then-one_side t c =
    let a = c.args in
    let r = a.rows.now in
    marked_none r.sizes (crossed_where r.sizes r.sides.now r.cubes.now (in_block a.at a.size)) a.found.now
    (quiet_none r.sizes r.sides.now r.cubes.now a.at a.size
    (one_side_quiet r.sizes r.sides.now r.cubes.now a.at a.size (c.one_side.ensures.0 c.if-one_side.true)))

pub loop-k-init : goal.loop-k-init
loop-k-init t c =
    let a = c.args in
    let r = a.rows.now in
    parts_begin r.sizes r.sides.now r.cubes.now a.at (a.size / 2) a.found.now

pub mark_block-requires : goal.mark_block-requires
mark_block-requires t c =
    let a = c.args in
    let n = c.part.ensures.near in (
      omega arith,
      (part_block a.at a.size (a.size / 2) c.requires.0 (omega arith) refl c.part.result n.0 n.1 n.2, omega arith),
    )

pub loop-k-preserved : goal.loop-k-preserved
loop-k-preserved t c =
    let a = c.args in
    let r = a.rows.now in
    let l = c.loop-k in
    parts_next r.sizes r.sides.now r.cubes.now a.at (a.size / 2) l.k a.found.now l.found _ c.part.result c.part.ensures.is l.invariant
    c.mark_block.ensures

pub returns : goal.returns
returns t c =
    let a = c.args in
    let r = a.rows.now in
    let l = c.loop-k in
    let two : 1 < a.size = omega (arith, c.if-size-le4.false) in
    parts_end r.sizes r.sides.now r.cubes.now a.at (a.size / 2) l.k a.size a.found.now l.found (omega arith)
    (halved a.at a.size (a.size / 2) c.requires.0 two refl) l.invariant
