-- No cube, no vertex. Assumes nothing.
use mathlib.Core.Path.{sym, ◌∙◌}
use native.Mathlib.Omega.{arith}
use Rattle.kinds.specs.Kinds.{sides_around}
use Rattle.tally.proofs.Empty.{no_vertices}
use Rattle.tally.proofs.row_vertices.Goals as goal

pub returns-then-either-eq0 : goal.returns-then-either-eq0
returns-then-either-eq0 c =
    let a = c.args in
    let f = sides_around a.rows.now.sizes a.rows.now.sides.now a.y a.z in
    (sym (no_vertices a.v (sym c.either.ensures ∙ c.if-either-eq0.true) f), omega arith)
