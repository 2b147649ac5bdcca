-- Slots as numbers of vertices. Assumes nothing.
use Rattle.std.specs.Prelude.{Bool, cond, not, List, map, ℕ, ◌+◌, eqb, get_or}
use Rattle.lists.specs.Lists.{range, is_in, rank}
use Rattle.paper.specs.declared.Sizes.{Sizes}
use Rattle.paper.specs.Room.{needed_slots}

-- an entry that is not 0
unfoldable pub used : List ℕ → ℕ → Bool
used l k = not (eqb (get_or l k 0) 0)

-- the slots: one more than the vertex number at each edge that has a vertex, 0 at the others
unfoldable pub slots_of : Sizes → List ℕ → List ℕ
slots_of z es = map (λ e. cond (is_in es e) (rank es e + 1) 0) (range 0 (needed_slots z))
