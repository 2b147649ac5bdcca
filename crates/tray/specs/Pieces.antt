-- Document 02 (v), "Every piece on the tray": the pieces of a lattice, a plain scan for them, and what a search answers and leaves. Assumes
-- nothing.
use Rattle.std.specs.Prelude.{◌≡◌, Bool, cond, not, ◌&&◌, List, [], ◌∷◌, ◌++◌, ℕ, zero, suc, eqb, leb, length}
use Rattle.lists.specs.Lists.{range, cons_if, keep, all, each, is_in}
use Rattle.paper.specs.Lattice.{Lattice, cubes, crossed, visited}
use Rattle.paper.specs.Tests.{Test, test, judge}
use Rattle.paper.specs.Room.{Work, lengths, work_after, output_after}
use Rattle.paper.specs.Build.{shape_tests}
use Rattle.tray.specs.declared.Found.{Found}

-- ── pieces ──

-- a piece: the cubes visited from a crossed cube. k is crossed, and no cube of its piece is lower
unfoldable pub is_lowest : Lattice → ℕ → Bool
is_lowest L k = crossed L k && all (leb k) (visited L k)

-- "the lowest cube of each separate piece, by rising number"
unfoldable pub lowest_cubes : Lattice → List ℕ
lowest_cubes L = keep (is_lowest L) (range 0 (cubes L.size))

-- ── a plain scan ──

-- k is crossed, and in none of the pieces that begin at these cubes
unfoldable pub begins : Lattice → List ℕ → ℕ → Bool
begins L found k = crossed L k && not (is_in (each (visited L) found) k)

-- the first n cubes by rising number: one that is crossed and in no piece so far begins a piece
unfoldable pub scanned : Lattice → ℕ → List ℕ
scanned L zero = []
scanned L (suc k) = let found = scanned L k in found ++ cons_if (begins L found k) k []

-- "The list equals a plain scan's."
unfoldable pub plain_scan : Lattice → List ℕ
plain_scan L = scanned L (cubes L.size)

-- ── a search ──

-- what a search is lent: "a lent list of u32", "Work room is asked for .. as in building"
pub record Lent : Type 0 where
  pub list : List ℕ
  pub work : Work

abbrev pub lent : List ℕ → Work → Lent
lent l w = record { list = l; work = w }

-- "then 5 for no piece, then 20 for more pieces than the list holds"
unfoldable pub piece_tests : ℕ → ℕ → List Test
piece_tests pieces room = test 5 (leb 1 pieces) ∷ test 20 (leb pieces room) ∷ []

-- "Refusals: 1, 2, 3, then 5 .., then 20 .."
unfoldable pub find_number : Lattice → Lent → ℕ
find_number L l = (judge (shape_tests L (lengths l.work) ++ piece_tests (length (plain_scan L)) (length l.list))).number

-- "the number of pieces is returned on success and with 20, else 0"
abbrev pub tells : ℕ → Bool
tells n = is_in (0 ∷ 20 ∷ []) n

abbrev pub found_at : ℕ → ℕ → Found
found_at n pieces = record { number = n; pieces = cond (tells n) pieces 0 }

unfoldable pub found_in : Lattice → Lent → Found
found_in L l = found_at (find_number L l) (length (plain_scan L))

-- "Work room is .. left as in building, after 20 as after 6"
abbrev pub as_building : ℕ → ℕ
as_building n = cond (eqb n 20) 6 n

-- what a search leaves, by its number: ".. written to a lent list of u32", "the list untouched" by every refusal
abbrev pub left_at : ℕ → Lattice → Lent → Lent
left_at n L l = lent (output_after n (plain_scan L) l.list) (work_after (as_building n) L.size l.work)

unfoldable pub lent_after : Lattice → Lent → Lent
lent_after L l = left_at (find_number L l) L l

-- the contract of a search: its answer, and what it leaves
pub record Finds (L : Lattice) (before : Lent) (r : Found) (after : Lent) : Type 0 where
  pub answer : r ≡ found_in L before
  pub left : after ≡ lent_after L before
