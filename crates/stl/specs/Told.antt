-- The answer of a reader as numbers. Assumes nothing.
use Rattle.std.specs.Prelude.{ℕ, Result, Ok, Err}
use Rattle.paper.specs.declared.Refusal.{Refusal}
use Rattle.paper.specs.Refused.{verdict_of}
use Rattle.stl.specs.declared.Loaded.{Loaded}

abbrev pub loaded_told : Result ℕ Refusal → Loaded
loaded_told (Ok n) = record { number = 0; place = 0; facets = n }
loaded_told (Err e) = record { number = (verdict_of e).number; place = (verdict_of e).place; facets = 0 }
