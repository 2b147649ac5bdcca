-- The steps so far are the definition's. Assumes nothing.
use mathlib.Core.List.{List}
use Prim.Native.Nat.{ℕ, ◌+◌, ◌*◌, ◌/◌, ◌%◌}
use lib.ListN.{get_or}
use Rattle.lists.proofs.Filled.{Filled}
use Rattle.tetra.specs.Cut.{row_edge}
use Rattle.tetra.proofs.row_steps.Given as goal

-- the entry at i, of the 36 steps
abbrev pub entry : List ℕ → ℕ → ℕ
entry steps i = get_or steps (6 * (i / 96) + row_edge (i % 96 / 6) (i % 96 % 6)) 0

abbrev pub invariant-loop-i : goal.invariant-loop-i
invariant-loop-i l = Filled (entry l.steps) 576 l.i l.all
