-- The product of three axes of at most 64. Assumes nothing.
use native.Mathlib.Omega.{arith}
use mathlib.Core.Path.{refl}
use Rattle.paper.specs.Lattice.{samples}
use Rattle.lattice.proofs.Laws.{layer_few, samples_few}
use Rattle.lattice.proofs.sample_count.Goals as goal

pub overflow_mul-result : goal.overflow_mul-result
overflow_mul-result c = omega (arith, layer_few _ c.before.requires)

pub overflow_mul-result-2 : goal.overflow_mul-result-2
unfolding samples
overflow_mul-result-2 c = omega (arith, samples_few _ c.before.before.requires)

pub returns : goal.returns
unfolding samples
returns c = (refl, samples_few _ c.before.before.requires)
