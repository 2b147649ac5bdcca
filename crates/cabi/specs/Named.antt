-- A start as a number and a place, a rule as a number, a level as a flag and two greys. Assumes nothing.
use Rattle.std.specs.Prelude.{Bool, true, false, cond, ℕ, eqb, Float}
use Rattle.paper.specs.declared.Place.{Place}
use Rattle.paper.specs.declared.Start.{Start}
use Rattle.paper.specs.declared.Start.TheVariants.{Unnamed, Lowest, Cube}
use Rattle.paper.specs.declared.Rule.{Rule}
use Rattle.paper.specs.declared.Rule.TheVariants.{Down, Nearest}
use Rattle.greys.specs.declared.Level.{Level}
use Rattle.greys.specs.declared.Level.TheVariants.{Fixed, Halfway}

-- 0: the caller names no start; 1: the lowest crossed cube; any other number: the cube at the place
unfoldable pub start_if : ℕ → Place → Start
start_if from p = cond (eqb from 0) Unnamed (cond (eqb from 1) Lowest (Cube p))

-- 0: document 01's rule; any other number: nearest
unfoldable pub rule_if : ℕ → Rule
rule_if n = cond (eqb n 0) Down Nearest

-- a fixed grey, the other then not being looked at; or halfway between an air grey and a material grey
unfoldable pub level_if : Bool → Float → Float → Level
level_if true air material = Halfway air material
level_if false grey material = Fixed grey
