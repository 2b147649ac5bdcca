-- Document 01, checking: a sheet file against the samples and a start, under a rule of rounding (02 (vi)). Assumes nothing.
use Rattle.std.specs.Prelude.{◌≡◌, Bool, true, false, not, ◌&&◌, ◌||◌, List, [], ◌∷◌, ◌++◌, ℕ, ◌+◌, ◌*◌, ℤ, pos, negsuc, nat_abs, eqb, get_or, take, drop}
use Rattle.lists.specs.Lists.{range, any, all, first}
use Rattle.paper.specs.declared.Sizes.{Sizes}
use Rattle.paper.specs.declared.Start.{Start}
use Rattle.paper.specs.declared.Rule.{Rule}
use Rattle.paper.specs.declared.Verdict.{Verdict}
use Rattle.paper.specs.Lattice.{Lattice}
use Rattle.paper.specs.Tables.{Tri, tri}
use Rattle.paper.specs.Sheet.{Sheet, sheet_of, file_record_length, in_file}
use Rattle.paper.specs.Tests.{Test, test, test_at, judge}
use Rattle.paper.specs.Room.{Work, Lengths, lengths, work_after}
use Rattle.paper.specs.Build.{start_of, sample_tests}
use Rattle.paper.specs.File.{file_v, file_t, file_sizes, file_vertices, file_triangles, file_tests}

abbrev pub same_number : ℤ → ℤ → Bool
same_number (pos m) (pos n) = eqb m n
same_number (pos m) (negsuc n) = false
same_number (negsuc m) (pos n) = false
same_number (negsuc m) (negsuc n) = eqb m n

abbrev pub same_numbers : List ℤ → List ℤ → Bool
same_numbers [] [] = true
same_numbers [] (y ∷ ys) = false
same_numbers (x ∷ xs) [] = false
same_numbers (x ∷ xs) (y ∷ ys) = same_number x y && same_numbers xs ys

unfoldable pub same_sizes : Sizes → Sizes → Bool
same_sizes y z = eqb y.nx z.nx && eqb y.ny z.ny && eqb y.nz z.nz

unfoldable pub same_triangle : Tri → Tri → Bool
same_triangle t u = eqb t.a u.a && eqb t.b u.b && eqb t.c u.c

-- "read from any corner"; a mirrored triangle is none of these
unfoldable pub turned : Tri → Tri → Bool
turned t u =
    same_triangle t u || same_triangle (tri t.b t.c t.a) u || same_triangle (tri t.c t.a t.b) u

-- vs are the numbers of a file's records: those of record i, and its edge
unfoldable pub record_of : List ℤ → ℕ → List ℤ
record_of vs i = take file_record_length (drop (file_record_length * i) vs)

unfoldable pub edge_of : List ℤ → ℕ → ℤ
edge_of vs i = get_or vs (file_record_length * i) (pos 0)

-- 17: "a vertex record's edge is no vertex of the sheet, its position is wrong, or an earlier record has that edge"
unfoldable pub bad_record : Sheet → List ℤ → ℕ → Bool
bad_record S vs i =
    not (any (λ r. same_numbers (record_of vs i) (in_file r)) S.records)
    || any (λ j. same_number (edge_of vs j) (edge_of vs i)) (range 0 i)

-- ts are the numbers of its triangles: the edge of the vertex at a number of it (where 17 has passed, none is below 0)
unfoldable pub corner_of : List ℤ → List ℕ → ℕ → ℕ
corner_of vs ts n = nat_abs (edge_of vs (get_or ts n 0))

-- triangle i "named by edges"
unfoldable pub triangle_of : List ℤ → List ℕ → ℕ → Tri
triangle_of vs ts i = tri (corner_of vs ts (3 * i)) (corner_of vs ts (3 * i + 1)) (corner_of vs ts (3 * i + 2))

-- 18: "a triangle, named by edges and read from any corner, is not in the sheet or repeats an earlier one"
unfoldable pub bad_naming : Sheet → List ℤ → List ℕ → ℕ → Bool
bad_naming S vs ts i =
    not (any (turned (triangle_of vs ts i)) S.by_edge)
    || any (λ j. turned (triangle_of vs ts i) (triangle_of vs ts j)) (range 0 i)

-- 19: "a vertex or triangle of the sheet is absent", of nv records and nt triangles
unfoldable pub complete : Sheet → List ℤ → List ℕ → ℕ → ℕ → Bool
complete S vs ts nv nt =
    all (λ e. any (λ i. same_number (edge_of vs i) (pos e)) (range 0 nv)) S.edges
    && all (λ t. any (λ i. turned t (triangle_of vs ts i)) (range 0 nt)) S.by_edge

-- "then 16 to 19": of a file against a sheet of a lattice of these sizes
unfoldable pub sheet_tests : Sizes → Sheet → List ℕ → List Test
sheet_tests z S bs =
    let nv = file_v bs in
    let nt = file_t bs in
    let vs = file_vertices bs in
    let ts = file_triangles bs in
    let i = first (bad_record S vs) nv (range 0 nv) in
    let j = first (bad_naming S vs ts) nt (range 0 nt) in
    test 16 (same_sizes (file_sizes bs) z)
    ∷ test_at 17 i (eqb i nv)
    ∷ test_at 18 j (eqb j nt)
    ∷ test 19 (complete S vs ts nv nt)
    ∷ []

-- "Checking: 1 to 5 on the samples, then 11, 12, 1, 14, 15 on the file, then 16 to 19.", "Checking returns the number and a
-- place, nothing else."; document 02 (vi): "The checker is told which of the two rules a file was made under"
unfoldable pub checked : Rule → Lattice → Start → List ℕ → Lengths → Verdict
checked rule L s bs n = judge (sample_tests L s n ++ file_tests bs ++ sheet_tests L.size (sheet_of rule L (start_of L s)) bs)

-- what a check leaves in the work room
unfoldable pub checked_after : Rule → Lattice → Start → List ℕ → Work → Work
checked_after rule L s bs w = work_after (checked rule L s bs (lengths w)).number L.size w

-- the contract of a checker: its answer, and what it leaves
pub record Checks (rule : Rule) (L : Lattice) (s : Start) (bs : List ℕ) (before : Work) (r : Verdict) (after : Work) : Type 0 where
  pub answer : r ≡ checked rule L s bs (lengths before)
  pub left : after ≡ checked_after rule L s bs before
