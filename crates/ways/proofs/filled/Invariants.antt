-- Rounds until one adds nothing: each other round makes a larger number. Assumes nothing.
use Prim.Native.Nat.{◌-◌, ◌^◌}
use Rattle.ways.proofs.Fill.{Filling}
use Rattle.ways.proofs.filled.Given as goal

abbrev pub invariant-loop-g : goal.invariant-loop-g
invariant-loop-g l = Filling l.from l.gate l.f l.g

abbrev pub decreases-loop-g : goal.decreases-loop-g
decreases-loop-g l = 2 ^ 64 - l.f
