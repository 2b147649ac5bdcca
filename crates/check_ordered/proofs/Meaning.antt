-- A file whose vertices and triangles are those that rows of sides and of visited cubes give is the sheet's in its own order, and passes
-- tests 17 to 19. Assumes nothing.
use mathlib.Core.Path.{◌≡◌, ap, ◌∙◌}
use mathlib.Core.List.{List}
use Prim.Native.Nat.{ℕ, ◌≤◌, ◌<◌}
use native.Mathlib.Omega.{arith}
use lib.Dec.{T}
use lib.ListN.{length, get_or, drop}
use Rattle.lists.specs.Lists.{each, is_in, rank}
use Rattle.paper.specs.declared.Rule.{Rule}
use Rattle.paper.specs.Lattice.{Lattice, cubes, visited}
use Rattle.paper.specs.Sheet.{Sheet, sheet_of, vertex_record, triangle_words}
use Rattle.paper.specs.Room.{needed_slots}
use Rattle.paper.specs.Within.{Sized}
use Rattle.paper.specs.Tests.{verdict, judge}
use Rattle.paper.specs.File.{file_v, file_t, file_vertices, file_triangles}
use Rattle.paper.specs.Check.{sheet_tests}
use Rattle.paper.proofs.Listing.{vertex_words_length, triangle_words_length}
use Rattle.layout.proofs.Trailer.{vertices_length, triangles_length}
use Rattle.rows.specs.Rows.{HasRows, HasCubes}
use Rattle.patterns.specs.Table.{steps_by, Tabled}
use Rattle.tiles.specs.Tiles.{source, tiles_by}
use Rattle.tiles.proofs.Meaning.{tiles_by_law}
use Rattle.dots.specs.Dots.{edges_by, numbered}
use Rattle.dots.proofs.Meaning.{records_are, slots_rank}
use Rattle.holding.proofs.Ordered.{passes}

module _ (rule : Rule) (L : Lattice) (s : Sized L.size) (start : ℕ) (rows vis : List ℕ) (sides : HasRows L rows)
    (visits : HasCubes L.size (visited L start) vis) where
  abbrev S : Sheet
  S = sheet_of rule L start

  -- where a file has these vertices, and these triangles with these slots
  pub same_passes : start < cubes L.size → (table counts slots after bs : List ℕ) → Tabled (steps_by L.size) 256 table counts
      → needed_slots L.size ≤ length slots
      → file_vertices bs ≡ each (vertex_record rule L) (edges_by L.size rows vis)
      → after ≡ numbered 0 (edges_by L.size rows vis) slots
      → file_triangles bs ≡ tiles_by (source table counts after) L.size rows vis
      → judge (drop 1 (sheet_tests L.size S bs)) ≡ verdict 0 0
  same_passes h table counts slots after bs tab room v n t =
      let vs = v ∙ records_are L s start rows vis sides visits rule in
      let ranks : (e : ℕ) → T (is_in S.edges e) → get_or after e 0 ≡ rank S.edges e =
      λ e i. ap (λ (l : List ℕ). get_or l e 0) n ∙ slots_rank L s start rows vis sides visits rule slots room e i in
      let ts : file_triangles bs ≡ triangle_words S = t ∙ tiles_by_law L start rows vis sides visits (source table counts after) tab rule s ranks in
      let nv : file_v bs ≡ length S.edges = omega (arith, vertices_length bs, ap length vs, vertex_words_length rule L start) in
      let nt : file_t bs ≡ length S.triangles = omega (arith, triangles_length bs, ap length ts, triangle_words_length S) in
      passes rule L s start h bs nv nt vs ts
