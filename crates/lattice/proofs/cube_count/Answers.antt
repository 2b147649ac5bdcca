-- The product of three axes of at most 63 cubes. Assumes nothing.
use native.Mathlib.Omega.{arith}
use mathlib.Core.Path.{refl}
use Rattle.paper.specs.Lattice.{cubes}
use Rattle.lattice.proofs.Laws.{cube_layer_few, cubes_few}
use Rattle.lattice.proofs.cube_count.Goals as goal

pub overflow_mul-result : goal.overflow_mul-result
overflow_mul-result c = omega (arith, cube_layer_few _ c.before.before.before.requires)

pub overflow_mul-result-2 : goal.overflow_mul-result-2
unfolding cubes
overflow_mul-result-2 c = omega (arith, cubes_few _ c.before.before.before.requires)

pub returns : goal.returns
unfolding cubes
returns c = (refl, cubes_few _ c.before.before.before.requires)
