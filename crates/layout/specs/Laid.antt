-- What holds of a file that passes its tests. Assumes nothing.
use Rattle.std.specs.Prelude.{◌≡◌, Bool, false, ◌||◌, List, ℕ, ◌+◌, ◌*◌, ◌≤◌, ◌<◌, leb, length, get_or}
use Rattle.paper.specs.Within.{Sized}
use Rattle.paper.specs.File.{first_bad, trailer, file_v, file_t, file_sizes, file_triangles}

-- whether one of three numbers is not below n
abbrev pub any_from : ℕ → ℕ → ℕ → ℕ → Bool
any_from n a b c = leb n a || (leb n b || (leb n c || false))

-- a file that passes test 14
pub record Ranged (bs : List ℕ) : Type 0 where
  pub most_v : file_v bs ≤ 2000000
  pub most_t : file_t bs ≤ 4000000
  pub to_vertices : trailer 4 bs 0 ≡ 16 * file_v bs + 12 * file_t bs
  pub to_triangles : trailer 4 bs 8 ≡ 12 * file_t bs
  pub long : length bs ≡ 16 * file_v bs + 12 * file_t bs + 24

-- a file that passes all its tests
pub record LaidOut (bs : List ℕ) : Type 0 where
  pub marked : trailer 2 bs 22 ≡ 21331
  pub ranged : Ranged bs
  pub sized : Sized (file_sizes bs)
  pub good : first_bad (file_v bs) (file_t bs) (file_triangles bs) ≡ file_t bs
  pub below : (i : ℕ) → i < 3 * file_t bs → get_or (file_triangles bs) i 0 < file_v bs
