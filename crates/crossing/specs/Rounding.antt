-- Rounding by one quotient. Assumes nothing.
use Rattle.std.specs.Prelude.{ℕ, ◌-◌, ◌/◌}
use Rattle.paper.specs.declared.Rule.{Rule}
use Rattle.paper.specs.declared.Rule.TheVariants.{Down, Nearest}

-- what is added before a division by d that is rounded down
abbrev pub more_by : Rule → ℕ → ℕ
more_by Down d = 0
more_by Nearest d = (d - 1) / 2
