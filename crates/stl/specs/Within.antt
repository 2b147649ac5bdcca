-- What passes the tests, as inner functions need it. Assumes nothing.
use Rattle.std.specs.Prelude.{◌≡◌, true, List, ℕ, ◌+◌, ◌*◌, ◌≤◌, ◌<◌, ℤ, length, get_or}
use Rattle.paper.specs.Sheet.{record_length}
use Rattle.facets.specs.Facets.{facet_stands}
use Rattle.stl.specs.Stl.{triangle_within, stl_length, stl_count, stl_facet}

-- the records that triangle i names are there
pub record Named (vs : List ℤ) (ts : List ℕ) (i : ℕ) : Type 0 where
  pub inside : 3 * i + 3 ≤ length ts
  pub first : record_length * get_or ts (3 * i) 0 + record_length ≤ length vs
  pub second : record_length * get_or ts (3 * i + 1) 0 + record_length ≤ length vs
  pub third : record_length * get_or ts (3 * i + 2) 0 + record_length ≤ length vs

-- and their coordinates are within
pub record Ready (vs : List ℤ) (ts : List ℕ) (i : ℕ) : Type 0 where
  pub named : Named vs ts i
  pub within : triangle_within vs ts i ≡ true

abbrev pub AllNamed : ℕ → List ℤ → List ℕ → Type 0
AllNamed nt vs ts = (i : ℕ) → i < nt → Named vs ts i

abbrev pub AllWithin : ℕ → List ℤ → List ℕ → Type 0
AllWithin nt vs ts = (i : ℕ) → i < nt → triangle_within vs ts i ≡ true

-- what a writer stores
pub record Fine (nt : ℕ) (vs : List ℤ) (ts : List ℕ) (room : ℕ) : Type 0 where
  pub most : nt ≤ 4000000
  pub named : AllNamed nt vs ts
  pub within : AllWithin nt vs ts
  pub roomy : stl_length nt ≤ room

-- what a reader takes, of n facets
abbrev pub AllStand : List ℕ → ℕ → Type 0
AllStand bs n = (i : ℕ) → i < n → facet_stands (stl_facet bs i) ≡ true

pub record Sound (bs : List ℕ) (room : ℕ) : Type 0 where
  pub long : length bs ≡ stl_length (stl_count bs)
  pub stand : AllStand bs (stl_count bs)
  pub roomy : 9 * stl_count bs ≤ room
