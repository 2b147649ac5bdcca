-- The steps so far are the definition's. Assumes nothing.
use mathlib.Core.Path.{◌∙◌}
use Prim.Native.Nat.{◌+◌, ◌*◌, ◌/◌, ◌%◌}
use native.Mathlib.Omega.{arith}
use Rattle.lists.proofs.Filled.{filled_more, filled_all}
use Rattle.lattice.specs.Steps.{corner_step}
use Rattle.tetra.specs.Cut.{edge_step, tet_step, tet_steps}
use Rattle.tetra.proofs.Tables.{low_is, kind_is}
use Rattle.tetra.proofs.tet_steps.Goals as goal

pub loop-i-preserved : goal.loop-i-preserved
unfolding tet_step edge_step
loop-i-preserved c =
    let i = c.loop-i.i in
    let a = low_is (i / 6) (i % 6) (omega arith) (omega arith) in
    let b = kind_is (i / 6) (i % 6) (omega arith) (omega arith) in
    filled_more _ 36 i _ _ c.loop-i.invariant (omega arith) (c.step_of.ensures ∙ (λ k. 7 * corner_step c.args.sizes (a k) + b k))

pub returns : goal.returns
unfolding tet_steps
returns c = filled_all _ 36 c.loop-i.i _ (omega arith) c.loop-i.invariant
