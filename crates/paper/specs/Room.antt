-- Document 01, "Lent room": how long lent slices must be, and what an answer leaves in them. Assumes nothing.
use Rattle.std.specs.Prelude.{Bool, cond, ◌&&◌, List, [], ◌∷◌, ℕ, ◌/◌, ℤ, leb, eqb, length}
use Rattle.lists.specs.Lists.{over, cleared, is_in}
use Rattle.paper.specs.declared.Sizes.{Sizes}
use Rattle.paper.specs.Lattice.{cubes}
use Rattle.paper.specs.Sheet.{edge_numbers, record_length}
use Rattle.paper.specs.Tests.{Test, test}

-- ── output ──

-- "Vertex room is the slice length divided by 4, triangle room by 3, both rounded down."
abbrev pub vertex_room : List ℤ → ℕ
vertex_room l = length l / record_length

abbrev pub triangle_room : List ℕ → ℕ
triangle_room l = length l / 3

-- 6 and 7: "the sheet has more vertices than room", "the sheet has more triangles than room": nv and nt are their numbers
unfoldable pub room_tests : ℕ → ℕ → ℕ → ℕ → List Test
room_tests nv nt vertices triangles = test 6 (leb nv vertices) ∷ test 7 (leb nt triangles) ∷ []

-- "No refusal writes to output", "Output beyond what is written never changes."
unfoldable pub output_after : {A : Type 0} → ℕ → List A → List A → List A
output_after number new old = cond (eqb number 0) (over new old) old

-- ── work room ──

-- "Work room: cube words (u16) and a waiting list (u32) .. edge slots (u32)"
pub record Work : Type 0 where
  pub words : List ℕ
  pub waiting : List ℕ
  pub slots : List ℕ

abbrev pub work : List ℕ → List ℕ → List ℕ → Work
work cw wl es = record { words = cw; waiting = wl; slots = es }

-- how long the three slices are: all that an answer knows of them ("What work room holds on entry affects no answer.")
pub record Lengths : Type 0 where
  pub words : ℕ
  pub waiting : ℕ
  pub slots : ℕ

abbrev pub of_lengths : ℕ → ℕ → ℕ → Lengths
of_lengths words waiting slots = record { words = words; waiting = waiting; slots = slots }

abbrev pub lengths : Work → Lengths
lengths w = of_lengths (length w.words) (length w.waiting) (length w.slots)

-- how many numbers of each are needed: "each at least as long as there are cubes; edge slots (u32), at least 7 × samples"
abbrev pub needed : Sizes → ℕ
needed z = cubes z

abbrev pub needed_slots : Sizes → ℕ
needed_slots z = edge_numbers z

unfoldable pub roomy : Sizes → Lengths → Bool
roomy z n = leb (needed z) n.words && leb (needed z) n.waiting && leb (needed_slots z) n.slots

-- "After a success, or refusals 6, 7 (building), 17, 18, 19, the needed front of each work slice is all 0 and the rest is
-- untouched.", "those not named under Lent room leave work room untouched"
abbrev pub clears : ℕ → Bool
clears n = is_in (0 ∷ 6 ∷ 7 ∷ 17 ∷ 18 ∷ 19 ∷ []) n

-- a slice of which n numbers are needed, after an answer
unfoldable pub front_after : ℕ → ℕ → List ℕ → List ℕ
front_after number n old = cond (clears number) (cleared n old) old

-- the needed front of each work slice is 0
abbrev pub clean : Sizes → Work → Work
clean z w = work (cleared (needed z) w.words) (cleared (needed z) w.waiting) (cleared (needed_slots z) w.slots)

-- the work room after an answer
abbrev pub work_after : ℕ → Sizes → Work → Work
work_after number z w =
    work
    (front_after number (needed z) w.words)
    (front_after number (needed z) w.waiting)
    (front_after number (needed_slots z) w.slots)
