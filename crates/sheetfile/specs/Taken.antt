-- What passes the tests of a writer, and of a reader. Assumes nothing.
use Rattle.std.specs.Prelude.{◌≡◌, List, ◌++◌, ℕ, ◌+◌, ◌*◌, ◌≤◌, ℤ, length}
use Rattle.lists.specs.Bytes.{le}
use Rattle.paper.specs.declared.Sizes.{Sizes}
use Rattle.paper.specs.Within.{Sized}
use Rattle.paper.specs.File.{first_bad, file_v, file_t}
use Rattle.layout.specs.Laid.{LaidOut}

-- the two halves of a trailer
unfoldable pub count_bytes : ℕ → ℕ → List ℕ
count_bytes nv nt = le 4 (16 * nv + 12 * nt) ++ le 4 nv ++ le 4 (12 * nt) ++ le 4 nt

unfoldable pub size_bytes : Sizes → List ℕ
size_bytes z = le 2 z.nx ++ le 2 z.ny ++ le 2 z.nz ++ le 2 21331

-- counts within their limits and within lists of so many numbers
pub record Writable (nv nt vertices triangles : ℕ) : Type 0 where
  pub most_v : nv ≤ 2000000
  pub most_t : nt ≤ 4000000
  pub room_v : 4 * nv ≤ vertices
  pub room_t : 3 * nt ≤ triangles

-- what passes the tests of a writer
pub record Taken (z : Sizes) (nv nt : ℕ) (vs : List ℤ) (ts : List ℕ) (room : ℕ) : Type 0 where
  pub sized : Sized z
  pub counts : Writable nv nt (length vs) (length ts)
  pub good : first_bad nv nt ts ≡ nt
  pub roomy : 16 * nv + 12 * nt + 24 ≤ room

-- a file that passes all its tests, whose records and triangles fit lists of so many numbers
pub record Room (bs : List ℕ) (vertices triangles : ℕ) : Type 0 where
  pub laid : LaidOut bs
  pub room_v : 4 * file_v bs ≤ vertices
  pub room_t : 3 * file_t bs ≤ triangles
