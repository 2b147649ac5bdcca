-- The six tetrahedra. Assumes nothing.
use native.Mathlib.Omega.{arith}
use Rattle.kinds.proofs.Triangles.{row_ones}
use borrow.Author.Rules.{rules}
use Rattle.kinds.proofs.count_row.Goals as goal

pub returns : goal.returns
returns c =
    (omega (arith, row_ones c.args.f c.args.v), search rules)
