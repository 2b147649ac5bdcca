-- The block is the whole lattice. Assumes nothing.
use Rattle.paper.specs.Lattice.{lattice}
use Rattle.blocks.proofs.Whole.{whole_block, whole_cubes}
use Rattle.marking.proofs.mark_crossed.Goals as goal

pub mark_block-requires : goal.mark_block-requires
mark_block-requires c = (whole_block, c.requires.fit)

pub returns : goal.returns
returns c s h =
    let a = c.args in
    let r = a.rows.now in
    whole_cubes (lattice r.sizes s) r.sides.now r.cubes.now r.sized h a.found.now _ c.requires c.mark_block.ensures
