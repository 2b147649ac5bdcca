-- What inner functions ask of their arguments: sizes that pass test 1, room that passes test 3, places that are in the lattice, numbers
-- below a bound; and the cube that can hold a triangle. Assumes nothing.
use Rattle.std.specs.Prelude.{◌≡◌, ℕ, ◌+◌, ◌≤◌, ◌<◌, min, length}
use Rattle.paper.specs.declared.Sizes.{Sizes}
use Rattle.paper.specs.declared.Place.{Place}
use Rattle.paper.specs.Lattice.{Lattice, samples, place}
use Rattle.paper.specs.Tables.{Tri}
use Rattle.paper.specs.Sheet.{anchor_of}
use Rattle.paper.specs.Room.{Lengths, needed, needed_slots}

-- sizes that pass test 1
pub record Sized (n : Sizes) : Type 0 where
  pub x_low : 2 ≤ n.nx
  pub x_high : n.nx ≤ 64
  pub y_low : 2 ≤ n.ny
  pub y_high : n.ny ≤ 64
  pub z_low : 2 ≤ n.nz
  pub z_high : n.nz ≤ 64

-- a lattice that passes tests 1 and 2
pub record Full (L : Lattice) : Type 0 where
  pub sized : Sized L.size
  pub count : length L.values ≡ samples L.size

-- work room that passes test 3
pub record Roomy (z : Sizes) (n : Lengths) : Type 0 where
  pub words : needed z ≤ n.words
  pub waiting : needed z ≤ n.waiting
  pub slots : needed_slots z ≤ n.slots

-- a place of a sample
pub record SampleIn (n : Sizes) (p : Place) : Type 0 where
  pub x : p.x < n.nx
  pub y : p.y < n.ny
  pub z : p.z < n.nz

-- a triangle whose three numbers are below n
pub record Below (n : ℕ) (t : Tri) : Type 0 where
  pub a : t.a < n
  pub b : t.b < n
  pub c : t.c < n

-- a place of a cube
pub record CubeIn (n : Sizes) (p : Place) : Type 0 where
  pub x : p.x + 1 < n.nx
  pub y : p.y + 1 < n.ny
  pub z : p.z + 1 < n.nz

-- a place of a cube with none of its six faces in the lattice's bounds
pub record CubeInside (n : Sizes) (p : Place) : Type 0 where
  pub x_low : 0 < p.x
  pub x_high : p.x + 2 < n.nx
  pub y_low : 0 < p.y
  pub y_high : p.y + 2 < n.ny
  pub z_low : 0 < p.z
  pub z_high : p.z + 2 < n.nz

-- the cube that can hold a triangle: at the least x, y and z of the anchors of its edges
unfoldable pub cube_of : Sizes → Tri → Place
cube_of z t =
    let a = anchor_of z t.a in
    let b = anchor_of z t.b in
    let c = anchor_of z t.c in
    place (min (min a.x b.x) c.x) (min (min a.y b.y) c.y) (min (min a.z b.z) c.z)
