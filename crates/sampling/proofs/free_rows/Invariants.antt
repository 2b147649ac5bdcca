-- The rows so far are those of free cubes, the rest as it was; a row is made from itself and rows behind it. Assumes nothing.
use mathlib.Core.Path.{◌≡◌}
use Prim.Native.Nat.{◌-◌}
use Rattle.bits.specs.Words.{word}
use Rattle.rows.specs.Rows.{quad_at, free_in}
use Rattle.rows.proofs.Making.{front}
use Rattle.sampling.proofs.free_rows.Given as goal

abbrev pub invariant-loop-r : goal.invariant-loop-r
invariant-loop-r l =
    l.words ≡ front (λ k. word (free_in (quad_at l.initial.words l.sizes.ny k)) (l.sizes.nx - 1)) l.r l.initial.words
