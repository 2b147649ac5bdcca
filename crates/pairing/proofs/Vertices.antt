-- The vertices of a sheet are the side-changing edges of its visited cubes, each once. Assumes nothing.
use mathlib.Core.Path.{◌≡◌, sym, subst}
use mathlib.Core.List.{List}
use Prim.Native.Nat.{ℕ, ◌<◌}
use lib.Dec.{T}
use Rattle.lists.specs.Lists.{each, is_in}
use Rattle.lists.proofs.Within.{list_in, in_list, each_in, in_each}
use Rattle.lists.proofs.Counts.{count_unique}
use Rattle.paper.specs.declared.Rule.{Rule}
use Rattle.paper.specs.Lattice.{Lattice, cubes, visited}
use Rattle.paper.specs.Within.{Sized}
use Rattle.paper.specs.Sheet.{cube_edges, sheet_of}
use Rattle.paper.proofs.Listing.{sheet_edges, edges_unique}
use Rattle.paper.proofs.Visits.{visited_exactly}
use Rattle.pairing.specs.Pairing.{OneVertex}

module _ (rule : Rule) (L : Lattice) (sized : Sized L.size) (start : ℕ) (inside : start < cubes L.size) where
  abbrev marked : List ℕ
  marked = each (cube_edges L) (visited L start)

  exactly : (e : ℕ) → is_in (sheet_of rule L start).edges e ≡ is_in marked e
  exactly = sheet_edges rule L sized start

  pub one_vertex : OneVertex L start (sheet_of rule L start).edges
  one_vertex = record {
    one = λ e c.
        let k = in_list c.cube (visited L start) ((visited_exactly L start inside c.cube).listed c.visited) in
        let m = list_in (in_each (cube_edges L) k (in_list e (cube_edges L c.cube) c.side_changing)) in
        count_unique (edges_unique rule L start) (in_list e (sheet_of rule L start).edges (subst T (sym (exactly e)) m));
    only = λ e t.
        let a = each_in (cube_edges L) (visited L start) (in_list e marked (subst T (exactly e) t)) in
        record { cube = a.0; visited = (visited_exactly L start inside a.0).reached (list_in a.1); side_changing = list_in a.2 };
  }
