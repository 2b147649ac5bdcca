-- Document 02 (iv): the start that is found where none is named, and what document 01 gave there before. Assumes nothing.
use Rattle.std.specs.Prelude.{◌≡◌, true, cond, List, [], ◌∷◌, ◌++◌, ℕ, ◌<◌, T, length}
use Rattle.lists.specs.Lists.{range, any, first}
use Rattle.paper.specs.declared.Built.{Built}
use Rattle.paper.specs.declared.Verdict.{Verdict}
use Rattle.paper.specs.declared.Rule.{Rule}
use Rattle.paper.specs.Lattice.{Lattice, cubes, cube_at, crossed}
use Rattle.paper.specs.Within.{CubeInside}
use Rattle.paper.specs.Sheet.{sheet_of}
use Rattle.paper.specs.Tests.{Test, test, judge}
use Rattle.paper.specs.Room.{Work, Lengths, lengths, vertex_room, triangle_room, room_tests, work_after}
use Rattle.paper.specs.Build.{Lent, build_rule, shape_tests, counts, counted, uncounted, left_at}
use Rattle.paper.specs.File.{file_tests}
use Rattle.paper.specs.Check.{sheet_tests}

-- a crossed cube "with none of its six faces in the lattice's bounds"
pub record Fit (L : Lattice) (k : ℕ) : Type 0 where
  pub one : k < cubes L.size
  pub crosses : T (crossed L k)
  pub inside : CubeInside L.size (cube_at L.size k)

-- "the lowest" of these
pub record LowestFit (L : Lattice) (k : ℕ) : Type 0 where
  pub fit : Fit L k
  pub lowest : (j : ℕ) → j < k → Fit L j → ⊥

-- ── as it was before: "If the caller names no start, the start is the crossed cube of lowest number, sought by x within y within z." ──

unfoldable pub old_start : Lattice → ℕ
old_start L = first (crossed L) (cubes L.size) (range 0 (cubes L.size))

-- 1 to 3; 4 never, since no start is named; 5: "none was named and no cube is crossed"
unfoldable pub old_tests : Lattice → Lengths → List Test
old_tests L n = shape_tests L n ++ test 4 true ∷ test 5 (any (crossed L) (range 0 (cubes L.size))) ∷ []

-- a build then
unfoldable pub old_number : Lattice → Lent → ℕ
old_number L l =
    let S = sheet_of build_rule L (old_start L) in
    (judge
    (old_tests L (lengths l.work)
    ++ room_tests (length S.edges) (length S.triangles) (vertex_room l.vertices) (triangle_room l.triangles))
    ).number

pub record OldBuilds (L : Lattice) (before : Lent) (r : Built) (after : Lent) : Type 0 where
  pub answer :
      r
      ≡ (let n = old_number L before in
      cond (counts n) (counted n (sheet_of build_rule L (old_start L))) (uncounted n))
  pub left : after ≡ left_at (old_number L before) (sheet_of build_rule L (old_start L)) L.size before

-- and a check, under a rule
unfoldable pub old_verdict : Rule → Lattice → List ℕ → Lengths → Verdict
old_verdict rule L bs n = judge (old_tests L n ++ file_tests bs ++ sheet_tests L.size (sheet_of rule L (old_start L)) bs)

pub record OldChecks (rule : Rule) (L : Lattice) (bs : List ℕ) (before : Work) (r : Verdict) (after : Work) : Type 0 where
  pub answer : r ≡ old_verdict rule L bs (lengths before)
  pub left : after ≡ work_after (old_verdict rule L bs (lengths before)).number L.size before
