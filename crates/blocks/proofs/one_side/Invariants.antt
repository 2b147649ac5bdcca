-- Each row so far has the part that the first sample asks for. Assumes nothing.
use mathlib.Core.Path.{◌≡◌}
use Prim.Native.Nat.{ℕ, ◌≤◌, ◌<◌}
use Rattle.blocks.proofs.Alike.{part_at}
use Rattle.blocks.proofs.one_side.Given as goal

abbrev pub invariant-loop-y : goal.invariant-loop-y
invariant-loop-y l =
    (v : ℕ) → v < l.y → l.at.y ≤ v → part_at l.rows.sizes l.rows.sides.now l.at.x l.m v l.z ≡ l.like

abbrev pub invariant-loop-z : goal.invariant-loop-z
invariant-loop-z l =
    (u : ℕ) → u < l.z → l.at.z ≤ u → (v : ℕ) → v < l.y_end → l.at.y ≤ v → part_at l.rows.sizes l.rows.sides.now l.at.x l.m v u ≡ l.like
