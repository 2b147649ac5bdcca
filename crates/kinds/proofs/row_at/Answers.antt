-- By the two tests. Assumes nothing.
use borrow.Author.Tests.{lt-ltb, le-ltb}
use Rattle.kinds.specs.Kinds.{row_at}
use Rattle.kinds.proofs.row_at.Goals as goal
use Rattle.kinds.proofs.row_at.Goals.{else-y-sizes-via-then-y-sizes+else-z-sizes, else-y-sizes-via-else-y-sizes}

pub returns-then-z-sizes : goal.returns-then-z-sizes
unfolding row_at
returns-then-z-sizes c =
    let a = c.args in
    rw (lt-ltb a.y a.sizes.ny c.if-y-sizes.true, lt-ltb a.z a.sizes.nz c.if-z-sizes.true)

pub returns-else-y-sizes : goal.returns-else-y-sizes
unfolding row_at
returns-else-y-sizes c =
    let a = c.args in
    elim c.else-y-sizes.branch [
      | else-y-sizes-via-then-y-sizes+else-z-sizes w ↦ rw (lt-ltb a.y a.sizes.ny w.if-y-sizes.true, le-ltb a.z a.sizes.nz w.if-z-sizes.false)
      | else-y-sizes-via-else-y-sizes w ↦ rw (le-ltb a.y a.sizes.ny w.if-y-sizes.false)
    ]
