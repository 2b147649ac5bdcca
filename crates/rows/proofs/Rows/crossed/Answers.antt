-- The quad of the four rows, and its crossed cubes. Assumes nothing.
use mathlib.Core.Path.{ap, ◌∙◌}
use Prim.Native.Nat.{◌+◌, ◌*◌}
use lib.ListN.{get_or}
use Rattle.rows.specs.declared.Quad.{Quad}
use Rattle.rows.specs.Rows.{crossed_row}
use Rattle.rows.proofs.Rows.crossed.Goals as goal

pub returns : goal.returns
returns c =
    let a = c.args in
    let w = a.self.now in
    c.crossed.ensures ∙ ap (λ (q : Quad). crossed_row q (get_or w.cubes.now (a.y + w.sizes.ny * a.z) 0)) c.quad.ensures
