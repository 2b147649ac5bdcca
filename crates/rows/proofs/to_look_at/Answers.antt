-- By the test. Assumes nothing.
use borrow.Author.Tests.{eq-eqb, ne_eqb}
use Rattle.rows.specs.Rows.{looked_at}
use Rattle.rows.proofs.to_look_at.Goals as goal

pub returns-then-m-eq0 : goal.returns-then-m-eq0
unfolding looked_at
returns-then-m-eq0 c = rw (eq-eqb _ _ c.if-m-eq0.true)

pub returns-else-m-eq0 : goal.returns-else-m-eq0
unfolding looked_at
returns-else-m-eq0 c = rw (ne_eqb _ _ c.if-m-eq0.false)
