-- Document 02 (iii): "Pieces parted by fill may share a lattice edge; each has its own vertex there.", by a worked pair. Assumes nothing.
use mathlib.Core.Path.{◌≡◌, refl}
use mathlib.Core.Bool.{xor}
use Prim.Native.Nat.{ℕ}
use lib.Dec.{T, eqb, ltb→lt}
use Rattle.lists.specs.Lists.{count}
use Rattle.lists.specs.Reach.{grow, rounds, reached}
use Rattle.paper.specs.declared.Rule.{Rule}
use Rattle.paper.specs.Lattice.{Lattice, samples, air, sample_no, sample_at, value_at, air_at, is_fill, fill_at, cubes, cube_no, cube_at}
use Rattle.paper.specs.Lattice.{corner, mixed, mixed_at, in_lattice, free, visitable, crossed, faces, step_over, steps, Visited, visited}
use Rattle.paper.specs.Tables.{tets, tet_edges, kinds, low, joins, kind_of}
use Rattle.paper.specs.Sheet.{edge_no, split, cube_edges, vertex_edges, sheet_by, sheet_of}
use Rattle.paper.proofs.Visits.{visited_exactly}
use Rattle.paper.proofs.Cases.{parted}

-- the pieces of two crossed cubes are not one, and each has one vertex on the lattice edge e
pub record Sharing (rule : Rule) (L : Lattice) (j k e : ℕ) : Type 0 where
  pub first : T (crossed L j)
  pub second : T (crossed L k)
  pub apart : Visited L j k → ⊥
  pub first_vertex : count (eqb e) (sheet_of rule L j).edges ≡ 1
  pub second_vertex : count (eqb e) (sheet_of rule L k).edges ≡ 1

-- from (1, 0, 0) and from (0, 1, 0), on the edge along z from (1, 1, 0)
pub sharing : (rule : Rule) → Sharing rule parted 1 2 30
unfolding grow rounds reached samples air sample_no sample_at value_at air_at is_fill fill_at cubes
    cube_no cube_at corner mixed mixed_at in_lattice free visitable crossed faces step_over steps visited tets
    tet_edges kinds low joins kind_of edge_no split cube_edges vertex_edges sheet_by sheet_of xor
sharing rule = record {
  first = tt;
  second = tt;
  apart = λ v. (visited_exactly parted 1 (ltb→lt 1 (cubes parted.size) tt) 2).listed v;
  first_vertex = refl;
  second_vertex = refl;
}
