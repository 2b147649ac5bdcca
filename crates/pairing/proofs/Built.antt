-- Demand 3 of a built sheet, by vertex numbers. Assumes nothing.
use mathlib.Core.Bool.{Bool}
use mathlib.Core.Path.{sym, subst}
use mathlib.Core.List.{Memᴰ as In}
use Prim.Native.Nat.{ℕ, ◌<◌}
use lib.ListN.{length}
use Rattle.lists.proofs.Within.{of_all}
use Rattle.paper.specs.declared.Rule.{Rule}
use Rattle.paper.specs.Lattice.{Lattice, cubes}
use Rattle.paper.specs.Within.{Sized, Below}
use Rattle.paper.specs.Tables.{Tri}
use Rattle.paper.specs.Sheet.{Sheet, sheet_of}
use Rattle.paper.proofs.Listing.{edges_unique, indices_below, indices_name}
use Rattle.pairing.specs.Pairing.{Paired, Demand3By}
use Rattle.pairing.proofs.Names.{by_number, times_below}
use Rattle.pairing.proofs.Vertices.{one_vertex}

-- where its directed edges pair up by lattice edges
module _ (rule : Rule) (L : Lattice) (sized : Sized L.size) (start : ℕ) (inside : start < cubes L.size) (apart : ℕ → ℕ → Bool)
    (paired : Paired apart (sheet_of rule L start).by_edge) where
  abbrev S : Sheet
  S = sheet_of rule L start

  pub demand : Demand3By apart L start S.edges S.triangles
  demand =
      let u = edges_unique rule L start in
      let below : (t : Tri) → In t S.triangles → Below (length S.edges) t =
      λ t i. of_all (Below (length S.edges)) (indices_below rule L sized start) i in
      record {
        vertices = one_vertex rule L sized start inside;
        numbers = times_below S.edges u S.triangles below;
        pairs = by_number S.edges u S.triangles below (subst (Paired apart) (sym (indices_name rule L sized start)) paired);
      }
