-- The steps so far are the definition's. Assumes nothing.
use Prim.Native.Nat.{◌/◌, ◌%◌}
use Rattle.lists.proofs.Filled.{Filled}
use Rattle.tetra.specs.Cut.{tet_step}
use Rattle.tetra.proofs.tet_steps.Given as goal

abbrev pub invariant-loop-i : goal.invariant-loop-i
invariant-loop-i l = Filled (λ i. tet_step l.sizes (i / 6) (i % 6)) 36 l.i l.steps
