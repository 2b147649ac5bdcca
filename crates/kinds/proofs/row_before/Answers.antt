-- By the two tests. Assumes nothing.
use borrow.Author.Tests.{le-leb, lt-leb}
use Rattle.kinds.specs.Kinds.{row_before}
use Rattle.kinds.proofs.row_before.Goals as goal
use Rattle.kinds.proofs.row_before.Goals.{else-dy-y-via-then-dy-y+else-dz-z, else-dy-y-via-else-dy-y}

pub returns-then-dz-z : goal.returns-then-dz-z
unfolding row_before
returns-then-dz-z c =
    let a = c.args in
    rw (le-leb a.dy a.y c.if-dy-y.true, le-leb a.dz a.z c.if-dz-z.true)

pub returns-else-dy-y : goal.returns-else-dy-y
unfolding row_before
returns-else-dy-y c =
    let a = c.args in
    elim c.else-dy-y.branch [
      | else-dy-y-via-then-dy-y+else-dz-z w ↦ rw (le-leb a.dy a.y w.if-dy-y.true, lt-leb a.dz a.z w.if-dz-z.false)
      | else-dy-y-via-else-dy-y w ↦ rw (lt-leb a.dy a.y w.if-dy-y.false)
    ]
