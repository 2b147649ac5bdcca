-- A refusal's number is not that of success. Assumes nothing.
use Rattle.std.specs.Prelude.{◌≡◌, refl, Result, Ok, Err}
use Prim.Native.Nat.{◌<◌}
use native.Mathlib.Omega.{arith}
use Rattle.paper.specs.declared.Refusal.{Refusal}
use Rattle.paper.specs.declared.Refusal.TheVariants.{Axes, SampleCount, WorkRoom, NoCube, NotCrossed, VertexRoom, TriangleRoom, ByteRoom, CountLimit, ShortFile, Mark}
use Rattle.paper.specs.declared.Refusal.TheVariants.{Layout, Index, OtherSizes, Record, Triangle, Absent, Grey, LevelOrder, Coordinate, Scale}
use Rattle.paper.specs.Refused.{verdict_of, verdict_told}

pub some_number : (e : Refusal) → 0 < (verdict_of e).number
some_number Axes = omega arith
some_number SampleCount = omega arith
some_number WorkRoom = omega arith
some_number NoCube = omega arith
some_number NotCrossed = omega arith
some_number VertexRoom = omega arith
some_number TriangleRoom = omega arith
some_number ByteRoom = omega arith
some_number CountLimit = omega arith
some_number ShortFile = omega arith
some_number Mark = omega arith
some_number Layout = omega arith
some_number (Index i) = omega arith
some_number OtherSizes = omega arith
some_number (Record i) = omega arith
some_number (Triangle i) = omega arith
some_number Absent = omega arith
some_number (Grey i) = omega arith
some_number LevelOrder = omega arith
some_number (Coordinate i) = omega arith
some_number Scale = omega arith

-- what passes its test has number 0, and nothing else has
pub told_zero : (r : Result (Unit {0}) Refusal) → (verdict_told r).number ≡ 0 → r ≡ Ok tt
told_zero (Ok _) h = refl
told_zero (Err e) h = absurd (omega (arith, some_number e))
