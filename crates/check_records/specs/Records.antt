-- A file's vertex records against the slots of the sheet's vertices. Assumes nothing.
use Rattle.std.specs.Prelude.{Bool, cond, not, ◌&&◌, List, map, ℕ, ◌/◌, ◌%◌, ◌<◌, ℤ, pos, negsuc, T, ltb}
use Rattle.lists.specs.Lists.{range, first, stored}
use Rattle.paper.specs.declared.Rule.{Rule}
use Rattle.paper.specs.Lattice.{Lattice, sample_at}
use Rattle.paper.specs.Sheet.{vertex_record}
use Rattle.paper.specs.Room.{needed_slots}
use Rattle.paper.specs.Check.{same_numbers, record_of, edge_of}
use Rattle.crossing.specs.Vertex.{Crosses}
use Rattle.dots.specs.Slots.{used}

-- every used slot is that of a side-changing edge
pub record AllCross (L : Lattice) (slots : List ℕ) : Type 0 where
  pub at : (e : ℕ) → e < needed_slots L.size → T (used slots e) → Crosses L (sample_at L.size (e / 7)) (e % 7)

-- a record's edge, or n where it is none of n
abbrev pub edge_in : ℤ → ℕ → ℕ
edge_in (pos m) n = cond (ltb m n) m n
edge_in (negsuc m) n = n

-- the edge of record i, where it is one of the lattice's
unfoldable pub edge_at : Lattice → List ℤ → ℕ → ℕ
edge_at L vs i = edge_in (edge_of vs i) (needed_slots L.size)

-- record i is, by a rule, that of a vertex whose slot is used
unfoldable pub good_record : Rule → Lattice → List ℤ → List ℕ → ℕ → Bool
good_record rule L vs slots i =
    let e = edge_at L vs i in
    ltb e (needed_slots L.size) && used slots e && same_numbers (record_of vs i) (vertex_record rule L e)

-- its edge, where it is
unfoldable pub good_edge : Rule → Lattice → List ℤ → List ℕ → ℕ → ℕ
good_edge rule L vs slots i = cond (good_record rule L vs slots i) (edge_at L vs i) (needed_slots L.size)

-- the slots of the edges of a list become 0
abbrev pub emptied : List ℕ → List ℕ → List ℕ
emptied es l = stored 0 es l

-- the edges of the first i records, and the slots once these are found
unfoldable pub edges_to : Lattice → List ℤ → ℕ → List ℕ
edges_to L vs i = map (edge_at L vs) (range 0 i)

unfoldable pub slots_after : Lattice → List ℤ → List ℕ → ℕ → List ℕ
slots_after L vs slots i = emptied (edges_to L vs i) slots

-- record i is not that of a vertex, or an earlier record has its edge; the first such of nv, or nv
unfoldable pub bad_in : Rule → Lattice → List ℤ → List ℕ → ℕ → Bool
bad_in rule L vs slots i = not (good_record rule L vs (slots_after L vs slots i) i)

unfoldable pub first_bad_in : Rule → Lattice → List ℤ → List ℕ → ℕ → ℕ
first_bad_in rule L vs slots nv = first (bad_in rule L vs slots) nv (range 0 nv)
