-- What a flood by rows leaves. Assumes nothing.
use Rattle.std.specs.Prelude.{◌≡◌, Bool, not, ◌&&◌, List, [], ◌++◌, ◌⊎◌, ℕ, suc, ◌+◌, ◌-◌, ◌*◌, ◌/◌, ◌%◌, ◌^◌, ◌≤◌, ◌<◌, T, ltb, ℤ, length, get_or}
use Rattle.lists.specs.Lists.{range, cons_if, keep, each, is_in, Beyond}
use Rattle.lists.specs.Reach.{Reach, reached}
use Rattle.paper.specs.declared.Sizes.{Sizes}
use Rattle.paper.specs.Lattice.{Lattice, lattice, cubes, cube_at, visitable, visited}
use Rattle.paper.specs.Room.{needed}
use Rattle.bits.specs.Words.{bit, On}
use Rattle.rows.specs.Rows.{HasRows, HasBoth, HasCubes}
use Rattle.ways.specs.Plan.{Plan}
use Rattle.ways.specs.Ways.{words, rows_of}

-- the first n words are there, and are 0
pub record Empty (n : ℕ) (l : List ℕ) : Type 0 where
  pub fit : n ≤ length l
  pub none : (r : ℕ) → r < n → get_or l r 0 ≡ 0

-- cube x of row r by its number
abbrev pub cell : ℕ → ℕ → ℕ
cell r x = 64 * r + x

-- the steps from cube x of row r: through the gates of the row and through its doors
unfoldable pub steps_from : Plan → ℕ → ℕ → List ℕ
steps_from P r x =
    cons_if (ltb (suc x) 64 && bit (P.gate r) (suc x)) (cell r (suc x)) []
    ++ (cons_if (ltb 0 x && bit (P.gate r) x) (cell r (x - 1)) []
    ++ each (λ j. cons_if (bit (P.door r j) x) (cell (P.beside r j) x) []) (range 0 4))

unfoldable pub steps : Plan → ℕ → List ℕ
steps P k = steps_from P (k / 64) (k % 64)

-- the cube of a number is marked in these words
abbrev pub marks : List ℕ → ℕ → Bool
marks vis k = bit (get_or vis (k / 64) 0) (k % 64)

-- the words of a plan's rows are there, and with a marked cube each that a step from it leads to is marked
pub record Closed (P : Plan) (vis : List ℕ) : Type 0 where
  pub fit : P.size ≤ length vis
  pub words : (r : ℕ) → r < P.size → get_or vis r 0 < 2 ^ 64
  pub over : (j k : ℕ) → j < 64 * P.size → T (marks vis j) → T (is_in (steps P j) k) → T (marks vis k)

-- place x of word r of vis is set exactly where it was before, or cube x of row r is reached
pub record Exactly (P : Plan) (start : ℕ) (old vis : List ℕ) (r x : ℕ) : Type 0 where
  pub within : On (get_or vis r 0) x → On (get_or old r 0) x ⊎ Reach (steps P) start (cell r x)
  pub older : On (get_or old r 0) x → On (get_or vis r 0) x
  pub whole : Reach (steps P) start (cell r x) → On (get_or vis r 0) x

-- what a flood by rows is lent: the words of visited cubes, and the list of waiting rows
pub record Room : Type 0 where
  pub vis : List ℕ
  pub waiting : List ℕ

abbrev pub room : List ℕ → List ℕ → Room
room v w = record { vis = v; waiting = w }

-- a flood along a plan over words as they stand, which returns how many of the reached cubes were not marked
pub record Flooded (P : Plan) (start : ℕ) (before after : Room) (count : ℕ) : Type 0 where
  pub marked : (r x : ℕ) → r < P.size → x < 64 → Exactly P start before.vis after.vis r x
  pub closed : Closed P after.vis
  pub number : count ≡ length (keep (λ k. not (marks before.vis k)) (reached (steps P) (64 * P.size) start))
  pub on_vis : Beyond P.size before.vis after.vis
  pub on_waiting : Beyond P.room before.waiting after.waiting

-- ── in document 01 ──

-- vis has the visited cubes, and count is how many they are
pub record Visits (L : Lattice) (start : ℕ) (vis : List ℕ) (count : ℕ) : Type 0 where
  pub cubes : HasCubes L.size (visited L start) vis
  pub number : count ≡ length (visited L start)

-- a flood of any lattice that has these rows, of sides and of cubes that may be visited, from a start that may be: nothing changes past the
-- words and the rows of cubes
pub record Spreads (z : Sizes) (rows may : List ℕ) (start : ℕ) (before after : Room) (count : ℕ) : Type 0 where
  pub visits : (s : List ℤ) → let L = lattice z s in
      HasBoth L rows may → T (visitable L (cube_at z start)) → Visits L start after.vis count
  pub on_vis : Beyond (words z) before.vis after.vis
  pub on_waiting : Beyond (rows_of z) before.waiting after.waiting

-- rows are those of the sides, vis those of the cubes visited from a start
pub record Stands (L : Lattice) (start : ℕ) (rows vis : List ℕ) : Type 0 where
  pub below : start < cubes L.size
  pub sides : HasRows L rows
  pub cubes : HasCubes L.size (visited L start) vis

-- from some start
pub record Standing (L : Lattice) (rows vis : List ℕ) : Type 0 where
  pub start : ℕ
  pub stands : Stands L start rows vis

-- the cubes visited from cube k, where it may be visited, of any lattice that has these rows, and how many they are; no more than the
-- needed front of the waiting list changes
pub record Finds (z : Sizes) (rows may : List ℕ) (k : ℕ) (vis waiting waiting' : List ℕ) (count : ℕ) : Type 0 where
  pub stands : (s : List ℤ) → let L = lattice z s in HasBoth L rows may → T (visitable L (cube_at z k)) → Stands L k rows vis
  pub number : (s : List ℤ) → let L = lattice z s in HasBoth L rows may → T (visitable L (cube_at z k)) → count ≡ length (visited L k)
  pub beyond : Beyond (needed z) waiting waiting'
