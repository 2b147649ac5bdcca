-- The answer of a search as document 02 numbers it. Assumes nothing.
use Rattle.std.specs.Prelude.{ℕ, Result, Ok, Err}
use Rattle.paper.specs.Refused.{verdict_of}
use Rattle.tray.specs.declared.FindError.{FindError}
use Rattle.tray.specs.declared.FindError.TheVariants.{Refused, ListRoom}
use Rattle.tray.specs.declared.Found.{Found}

abbrev pub found_told : Result ℕ FindError → Found
found_told (Ok n) = record { number = 0; pieces = n }
found_told (Err (Refused e)) = record { number = (verdict_of e).number; pieces = 0 }
found_told (Err (ListRoom n)) = record { number = 20; pieces = n }
