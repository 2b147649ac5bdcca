-- The first k parts of the block have their marks. The measure is the block's size.
use Rattle.blocks.specs.Blocks.{in_parts, crossed_where, Marked}
use Rattle.marking.proofs.+mark_block.Given as goal

abbrev pub decreases-mark_block : goal.decreases-mark_block
decreases-mark_block l = l.size

abbrev pub invariant-loop-k : goal.invariant-loop-k
invariant-loop-k l =
    let r = l.rows in
    Marked r.sizes (crossed_where r.sizes r.sides.now r.cubes.now (in_parts l.at l.h l.k)) l.initial.found l.found
