-- What it says that a file holds the sheet of a rule: its records and its triangles, named by edges and read from any corner, are the
-- sheet's, in any order and each as often. Assumes nothing.
use Rattle.std.specs.Prelude.{◌≡◌, ℕ, ◌<◌, T, ℤ}
use mathlib.Core.List.{List, map, Memᴰ as In}
use Rattle.lists.specs.Lists.{range, any, count}
use Rattle.paper.specs.declared.Start.{Start}
use Rattle.paper.specs.declared.Rule.{Rule}
use Rattle.paper.specs.Lattice.{Lattice}
use Rattle.paper.specs.Tables.{Tri}
use Rattle.paper.specs.Sheet.{sheet_of}
use Rattle.paper.specs.Tests.{judge}
use Rattle.paper.specs.Room.{Lengths}
use Rattle.paper.specs.Build.{start_of, sample_tests}
use Rattle.paper.specs.File.{file_v, file_t, file_sizes, file_vertices, file_triangles, file_tests}
use Rattle.paper.specs.Check.{same_numbers, turned, record_of, triangle_of, checked}

-- a file's records, and its triangles by edges
unfoldable pub file_records : List ℕ → List (List ℤ)
file_records bs = map (record_of (file_vertices bs)) (range 0 (file_v bs))

unfoldable pub file_triples : List ℕ → List Tri
file_triples bs = map (triangle_of (file_vertices bs) (file_triangles bs)) (range 0 (file_t bs))

pub record Holding (rule : Rule) (L : Lattice) (start : ℕ) (bs : List ℕ) : Type 0 where
  pub vertices : (r : List ℤ) → count (same_numbers r) (file_records bs) ≡ count (same_numbers r) (sheet_of rule L start).records
  pub triangles : (t : Tri) → count (turned t) (file_triples bs) ≡ count (turned t) (sheet_of rule L start).by_edge

-- the sizes, the start and the work room pass, the file is laid out and has the samples' sizes, and it holds the sheet
pub record Acceptable (rule : Rule) (L : Lattice) (s : Start) (bs : List ℕ) (n : Lengths) : Type 0 where
  pub samples : (judge (sample_tests L s n)).number ≡ 0
  pub file : (judge (file_tests bs)).number ≡ 0
  pub sizes : file_sizes bs ≡ L.size
  pub holds : Holding rule L (start_of L s) bs

-- a check answers 0 exactly then
pub record Exactly (rule : Rule) (L : Lattice) (s : Start) (bs : List ℕ) (n : Lengths) : Type 0 where
  pub only : (checked rule L s bs n).number ≡ 0 → Acceptable rule L s bs n
  pub always : Acceptable rule L s bs n → (checked rule L s bs n).number ≡ 0

-- each vertex and each triangle of the sheet is in the file once, and nothing else is
pub record EachOnce (rule : Rule) (L : Lattice) (start : ℕ) (bs : List ℕ) : Type 0 where
  pub vertex : (r : List ℤ) → In r (sheet_of rule L start).records → count (same_numbers r) (file_records bs) ≡ 1
  pub only_vertices : (i : ℕ) → i < file_v bs → T (any (same_numbers (record_of (file_vertices bs) i)) (sheet_of rule L start).records)
  pub triangle : (t : Tri) → T (any (turned t) (sheet_of rule L start).by_edge) → count (turned t) (file_triples bs) ≡ 1
  pub only_triangles : (i : ℕ) → i < file_t bs
      → T (any (turned (triangle_of (file_vertices bs) (file_triangles bs) i)) (sheet_of rule L start).by_edge)
