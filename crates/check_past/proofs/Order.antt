-- Tests 17 to 19 of a file in the sheet's own order. Assumes nothing.
use mathlib.Core.Path.{◌≡◌, sym}
use mathlib.Core.List.{List}
use Prim.Native.Nat.{ℕ, ◌≤◌}
use lib.ListN.{length}
use Rattle.lists.specs.Lists.{each}
use Rattle.paper.specs.declared.Rule.{Rule}
use Rattle.paper.specs.Lattice.{Lattice}
use Rattle.paper.specs.Sheet.{vertex_record}
use Rattle.paper.specs.Room.{needed_slots}
use Rattle.paper.specs.Within.{Sized}
use Rattle.paper.specs.File.{file_vertices, file_triangles}
use Rattle.dots.specs.Dots.{edges_by, numbered}
use Rattle.check_any_order.specs.Checked.{last_tests, Accepts}
use Rattle.patterns.specs.Table.{steps_by, Tabled}
use Rattle.tiles.specs.Tiles.{source, tiles_by}
use Rattle.check_ordered.proofs.Meaning.{same_passes}

-- a file with the numbers that rows give, in their order, passes them
pub in_order_passes : (rule : Rule) (L : Lattice) → Sized L.size → (rows vis : List ℕ) (table counts slots after bs : List ℕ)
    → Tabled (steps_by L.size) 256 table counts → needed_slots L.size ≤ length slots
    → file_vertices bs ≡ each (vertex_record rule L) (edges_by L.size rows vis) → after ≡ numbered 0 (edges_by L.size rows vis) slots
    → file_triangles bs ≡ tiles_by (source table counts after) L.size rows vis → Accepts rule L rows vis bs
unfolding last_tests
in_order_passes rule L s rows vis table counts slots after bs tab room v n t = record {
  is = λ k at. sym (same_passes rule L s k rows vis at.sides at.cubes at.below table counts slots after bs tab room v n t);
}
