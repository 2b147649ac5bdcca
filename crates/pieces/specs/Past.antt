-- What a search past test 3 answers and leaves. Assumes nothing.
use Rattle.std.specs.Prelude.{◌≡◌, length}
use Rattle.paper.specs.Lattice.{Lattice}
use Rattle.paper.specs.Tests.{judge}
use Rattle.tray.specs.declared.Found.{Found}
use Rattle.tray.specs.Pieces.{plain_scan, piece_tests, found_at, Lent, left_at}

-- a search past test 3: tests 5 and 20, the answer and what it leaves
pub record FindsPast (L : Lattice) (before : Lent) (r : Found) (after : Lent) : Type 0 where
  pub answer : let n = (judge (piece_tests (length (plain_scan L)) (length before.list))).number in r ≡ found_at n (length (plain_scan L))
  pub left : let n = (judge (piece_tests (length (plain_scan L)) (length before.list))).number in after ≡ left_at n L before
