-- The rows so far are the lattice's, the rest as it was. Assumes nothing.
use mathlib.Core.Path.{◌∙◌}
use Prim.Native.Nat.{◌*◌}
use native.Mathlib.Omega.{arith}
use borrow.Author.Rules.{rules}
use Rattle.paper.specs.Lattice.{samples}
use Rattle.rows.specs.Rows.{pass_rows}
use Rattle.rows.proofs.Making.{front_more, front_all, row_within}
use Rattle.sampling.proofs.sample_rows.Goals as goal

pub sample_row-t-requires : goal.sample_row-t-requires
unfolding samples
sample_row-t-requires c =
    let v = c.args.volume.now in
    (omega (arith, row_within v.sizes.nx (v.sizes.ny * v.sizes.nz) c.loop-r.r (omega arith), v.full.count), v.full.sized.x_high)

pub loop-r-preserved : goal.loop-r-preserved
loop-r-preserved c =
    let l = c.loop-r in
    let e = c.sample_row-t.ensures in (
      rw l.invariant.0 (front_more _ l.r _ _ (search rules) e.0),
      rw l.invariant.1 (front_more _ l.r _ _ (search rules) e.1),
    )

pub returns : goal.returns
unfolding pass_rows
returns c =
    let l = c.loop-r in
    (l.invariant.0 ∙ front_all _ _ l.r _ (omega arith), l.invariant.1 ∙ front_all _ _ l.r _ (omega arith))
