-- The sum of three digits, which is below the count. Assumes nothing.
use native.Mathlib.Omega.{arith}
use Prim.Native.Nat.{◌-◌}
use mathlib.Core.Path.{refl}
use Rattle.paper.specs.Lattice.{cube_no}
use Rattle.paper.proofs.Numbers.{cube_lt}
use Rattle.lattice.proofs.Laws.{Parts, parts}
use Rattle.lattice.proofs.cube_no.Goals as goal
use Rattle.lattice.proofs.cube_no.Goals.{Start}

small : (c : goal.Start) → let p = c.args.p in let z = c.args.sizes in Parts (z.nx - 1) (z.ny - 1) p.y p.z
small c = parts _ _ _ _ (omega arith) (omega arith) (omega arith) (omega arith)

pub overflow_mul-result : goal.overflow_mul-result
overflow_mul-result c = omega (arith, small (goal.at.overflow_mul-result c).Start)

pub overflow_add-result : goal.overflow_add-result
overflow_add-result c = omega (arith, small (goal.at.overflow_add-result c).Start)

pub overflow_mul-result-2 : goal.overflow_mul-result-2
overflow_mul-result-2 c = omega (arith, small (goal.at.overflow_mul-result-2 c).Start)

pub overflow_add-result-2 : goal.overflow_add-result-2
overflow_add-result-2 c = omega (arith, small (goal.at.overflow_add-result-2 c).Start)

pub returns : goal.returns
unfolding cube_no
returns c = (refl, cube_lt _ _ c.before.before.before.before.before.requires.1)
