-- What tests 1 to 5 answer and leave known. Assumes nothing.
use Rattle.std.specs.Prelude.{◌≡◌, Bool, true, false, List, ℕ, ◌<◌, T, ℤ, Result, Ok, Err, OnOk, IfOk}
use Rattle.paper.specs.declared.Sizes.{Sizes}
use Rattle.paper.specs.declared.Start.{Start}
use Rattle.paper.specs.declared.Start.TheVariants.{Unnamed, Lowest}
use Rattle.paper.specs.declared.Refusal.{Refusal}
use Rattle.paper.specs.declared.Verdict.{Verdict}
use Rattle.paper.specs.Lattice.{Lattice, lattice, cubes, crossed}
use Rattle.paper.specs.Tests.{verdict, judge}
use Rattle.paper.specs.Refused.{verdict_of, verdict_told}
use Rattle.paper.specs.Room.{Lengths}
use Rattle.paper.specs.Build.{start_of, shape_tests, start_tests, sample_tests}
use Rattle.paper.specs.Within.{Full, Roomy}
use Rattle.rows.specs.Rows.{HasBoth}

-- the start without a place: none named, where cubes off the bounds are sought, or the lowest by name
abbrev pub unplaced : Bool → Start
unplaced true = Unnamed
unplaced false = Lowest

-- tests 1 to 3: the first that fails; n are the lengths of the work slices
pub record Shaped (L : Lattice) (n : Lengths) (r : Result (Unit {0}) Refusal) : Type 0 where
  pub answer : verdict_told r ≡ judge (shape_tests L n)
  pub full : OnOk r (Full L)
  pub roomy : OnOk r (Roomy L.size n)

-- what tests that leave a cube known answer
abbrev pub cube_told : Result ℕ Refusal → Verdict
cube_told (Ok _) = verdict 0 0
cube_told (Err e) = verdict_of e

-- tests 4 and 5: the first that fails, or the start cube
pub record Chosen (L : Lattice) (s : Start) (r : Result ℕ Refusal) : Type 0 where
  pub answer : cube_told r ≡ judge (start_tests L s)
  pub is : IfOk r (λ k. k ≡ start_of L s)
  pub below : IfOk r (λ k. k < cubes L.size)

-- of any lattice that has these rows, of sides and of cubes that may be visited
pub record ChosenBy (z : Sizes) (rows may : List ℕ) (s : Start) (r : Result ℕ Refusal) : Type 0 where
  pub of : (v : List ℤ) → HasBoth (lattice z v) rows may → Chosen (lattice z v) s r

-- all five are passed, these are the rows of sides and of cubes that may be visited, and k is the start cube, which is crossed
pub record Begins (L : Lattice) (s : Start) (n : Lengths) (rows may : List ℕ) (k : ℕ) : Type 0 where
  pub full : Full L
  pub both : HasBoth L rows may
  pub roomy : Roomy L.size n
  pub is : k ≡ start_of L s
  pub below : k < cubes L.size
  pub crosses : T (crossed L k)

-- the first test that fails, or the start cube
pub record Readied (L : Lattice) (s : Start) (n : Lengths) (rows may : List ℕ) (r : Result ℕ Refusal) : Type 0 where
  pub answer : cube_told r ≡ judge (sample_tests L s n)
  pub begins : IfOk r (λ k. Begins L s n rows may k)
