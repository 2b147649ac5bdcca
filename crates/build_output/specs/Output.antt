-- What the parts of a build write and answer, under the rule that a build follows. Assumes nothing.
use Rattle.std.specs.Prelude.{◌≡◌, List, ℕ, ◌*◌, ◌≤◌, ℤ, length}
use Rattle.paper.specs.declared.Built.{Built}
use Rattle.paper.specs.declared.SheetCounts.{SheetCounts}
use Rattle.paper.specs.Lattice.{Lattice}
use Rattle.paper.specs.Sheet.{Sheet, sheet_of, vertex_words, triangle_words}
use Rattle.paper.specs.Tests.{judge}
use Rattle.paper.specs.Room.{vertex_room, triangle_room, room_tests, clean, output_after}
use Rattle.paper.specs.Build.{Lent, lent, build_rule, counted}
use Rattle.spread.specs.Flooded.{Stands}
use Rattle.tally.specs.declared.Counts.{Counts}

-- the two counts of a sheet that its rows give
abbrev pub sheet_counts : SheetCounts → Counts
sheet_counts c = record { vertices = c.vertices; triangles = c.triangles }

-- the lent slices of vertices and triangles
pub record Output : Type 0 where
  pub vertices : List ℤ
  pub triangles : List ℕ

abbrev pub output : List ℤ → List ℕ → Output
output v t = record { vertices = v; triangles = t }

-- what an answer with a number leaves of a sheet in them
pub record Written (S : Sheet) (number : ℕ) (before after : Output) : Type 0 where
  pub vertices : after.vertices ≡ output_after number (vertex_words S) before.vertices
  pub triangles : after.triangles ≡ output_after number (triangle_words S) before.triangles

-- of the sheet of any start from which these are the visited cubes: it has room
pub record Fits (L : Lattice) (rows vis : List ℕ) (vertices triangles : ℕ) : Type 0 where
  pub vertices_fit : (k : ℕ) → Stands L k rows vis → 4 * length (sheet_of build_rule L k).edges ≤ vertices
  pub triangles_fit : (k : ℕ) → Stands L k rows vis → 3 * length (sheet_of build_rule L k).triangles ≤ triangles

-- and is written
pub record Puts (L : Lattice) (rows vis : List ℕ) (number : ℕ) (before after : Output) : Type 0 where
  pub written : (k : ℕ) → Stands L k rows vis → Written (sheet_of build_rule L k) number before after

-- tests 6 and 7 of a sheet
abbrev pub room_number : Sheet → Lent → ℕ
room_number S l =
    (judge (room_tests (length S.edges) (length S.triangles) (vertex_room l.vertices) (triangle_room l.triangles))).number

-- a build from cube k, past tests 1 to 5
pub record BuildsFrom (L : Lattice) (k : ℕ) (before : Lent) (r : Built) (after : Lent) : Type 0 where
  pub answer : let S = sheet_of build_rule L k in r ≡ counted (room_number S before) S
  pub left : let S = sheet_of build_rule L k in let n = room_number S before in
      after ≡ lent (output_after n (vertex_words S) before.vertices) (output_after n (triangle_words S) before.triangles)
      (clean L.size before.work)
