-- `facets::float_of` meets its contract: a whole number below 2 ^ 23 divided by 2 ^ 16 is exact. Assumes nothing.
use mathlib.Core.Path.{◌≡◌, ◌∙◌}
use native.Mathlib.Omega.{arith}
use mir.Syntax.{w32}
use mir.Val.{to_z, of_z}
use mir.Facts.{to_z-of_z}
use lib.IntN.{pos}
use Rattle.facets.specs.Steps.{nat_of}
use Rattle.facets.proofs.Floats.{whole, steps}
use Rattle.facets.proofs.Images.{bounds_are}
use Rattle.facets.proofs.float_of.Goals as goal
use Rattle.facets.proofs.float_of.Goals.{Start}

-- the number as the machine has it is c coordinate
is : (c : goal.Start) → to_z w32 (of_z w32 c.args.w) ≡ pos (nat_of c.args.w)
is c = to_z-of_z c.ranges.w ∙ (bounds_are c.args.w c.requires).1

pub int_to_float-result : goal.int_to_float-result
int_to_float-result c = rw (is (goal.at.int_to_float-result c).Start) (whole _ (omega (arith, (bounds_are _ c.requires).0)))

pub returns : goal.returns
returns c = rw (is (goal.at.returns c).Start) (steps _ (omega (arith, (bounds_are _ c.requires).0)))
