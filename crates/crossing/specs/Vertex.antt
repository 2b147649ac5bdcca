-- A vertex record as a value, and what its edge must be. Assumes nothing.
use Rattle.std.specs.Prelude.{◌≡◌, true, List, [], ◌∷◌, ℕ, ◌+◌, ◌≤◌, ◌<◌, ℤ}
use Rattle.paper.specs.declared.Place.{Place}
use Rattle.paper.specs.Lattice.{Lattice, corner}
use Rattle.paper.specs.Sheet.{ends_of, split}
use Rattle.paper.specs.Within.{SampleIn}
use Rattle.crossing.specs.declared.Vertex.{Vertex}

-- the four numbers of a record
abbrev pub numbers : Vertex → List ℤ
numbers v = v.edge ∷ v.x ∷ v.y ∷ v.z ∷ []

-- two ends of an edge on one axis of at most 64 samples: the same, or one apart
pub record Near (s a : ℕ) : Type 0 where
  pub low : s < 64
  pub up : a ≤ s + 1
  pub down : s ≤ a + 1

pub record NearPlaces (s a : Place) : Type 0 where
  pub x : Near s.x a.x
  pub y : Near s.y a.y
  pub z : Near s.z a.z

-- an edge of a kind at the anchor p has both ends in the lattice, on different sides
pub record Crosses (L : Lattice) (p : Place) (k : ℕ) : Type 0 where
  pub kind : k < 7
  pub first : SampleIn L.size (corner p (ends_of k).a)
  pub second : SampleIn L.size (corner p (ends_of k).b)
  pub sides : split L p (ends_of k) ≡ true
