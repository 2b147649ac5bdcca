-- A file with a sheet's counts and its numbers, in the sheet's own order, passes tests 17 to 19. Assumes nothing.
use mathlib.Core.Path.{◌≡◌, refl, ap, ◌∙◌}
use mathlib.Core.List.{List, map}
use Prim.Native.Nat.{ℕ, ◌<◌}
use lib.ListN.{length, drop}
use Rattle.lists.specs.Lists.{range, count}
use Rattle.paper.specs.declared.Rule.{Rule}
use Rattle.paper.specs.Lattice.{Lattice, cubes}
use Rattle.paper.specs.Sheet.{sheet_of, vertex_record, vertex_words, triangle_words}
use Rattle.paper.specs.Within.{Sized}
use Rattle.paper.specs.Tests.{verdict, judge}
use Rattle.paper.specs.File.{file_v, file_t, file_sizes, file_vertices, file_triangles}
use Rattle.paper.specs.Check.{same_numbers, turned, record_of, triangle_of, sheet_tests}
use Rattle.paper.proofs.Judged.{passed_judge}
use Rattle.paper.proofs.Listing.{parts}
use Rattle.paper.proofs.Tested.{compared_back}
use Rattle.holding.proofs.Alike.{matching}
use Rattle.holding.proofs.Matches.{sizes_same, match_passes, tri_passes}
use Rattle.holding.proofs.Words.{records_are, triangles_are}

pub passes : (rule : Rule) (L : Lattice) → Sized L.size → (start : ℕ) → start < cubes L.size → (bs : List ℕ)
    → let S = sheet_of rule L start in
    file_v bs ≡ length S.edges
    → file_t bs ≡ length S.triangles
    → file_vertices bs ≡ vertex_words S
    → file_triangles bs ≡ triangle_words S
    → judge (drop 1 (sheet_tests L.size S bs)) ≡ verdict 0 0
unfolding sheet_tests
passes rule L s start h bs v t vs ts =
    let S = sheet_of rule L start in
    let z = file_sizes bs in
    let a = match_passes rule L start (file_vertices bs) (file_v bs)
    (matching _ _ _ _ _ _ _ _
    (λ r. ap (count (same_numbers r)) ((λ j. map (record_of (vs j)) (range 0 (v j))) ∙ records_are rule L s start))) in
    let b = tri_passes rule L s start h (file_vertices bs) (file_triangles bs) (file_t bs)
    (matching _ _ _ _ _ _ _ _
    (λ u. ap (count (turned u)) ((λ j. map (triangle_of (vs j) (ts j)) (range 0 (t j))) ∙ triangles_are rule L s start))) in
    passed_judge (drop 1 (sheet_tests L.size S bs))
    (compared_back z (vertex_record rule L) S bs (parts rule L start).records
    (record {
      sizes = sizes_same z z refl;
      records = a.good;
      triangles = b.good;
      full = record { vertices = a.full; triangles = b.full };
    })
    ).1
