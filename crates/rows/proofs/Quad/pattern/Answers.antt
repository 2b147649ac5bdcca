-- The four pairs with their weights. Assumes nothing.
use native.Mathlib.Omega.{arith}
use Rattle.rows.specs.Rows.{pairs, pattern_in}
use Rattle.rows.proofs.Quad.pattern.Goals as goal

pub returns : goal.returns
unfolding pattern_in pairs
returns c = (omega arith, omega arith)
