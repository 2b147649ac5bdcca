-- The bit of the cube in its row. Assumes nothing.
use mathlib.Core.Path.{◌∙◌}
use Rattle.paper.specs.Lattice.{lattice}
use Rattle.rows.proofs.Cubes.{crossed_is, row_bit}
use Rattle.rows.proofs.Rows.is_crossed.Goals as goal

pub returns : goal.returns
returns c s h =
    let n = c.args.self.now.sizes in
    let p = c.args.p in
    let ws = c.args.self.now.sides.now in
    let vs = c.args.self.now.cubes.now in
    c.has_bit.ensures
    ∙ (row_bit n ws vs c.crossed.result p.y p.z p.x c.crossed.ensures ∙ crossed_is (lattice n s) ws h.sides p c.requires vs h.free)
