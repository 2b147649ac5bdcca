-- From k on, v has the sides of the samples, and f the fill; what is still to come has room. Assumes nothing.
use mathlib.Core.List.{List}
use Prim.Native.Nat.{ℕ, ◌*◌, ◌≤◌, ◌<◌}
use lib.IntN.{ℤ}
use Rattle.paper.specs.Lattice.{air, is_fill}
use Rattle.rows.proofs.Making.{From}
use Rattle.sampling.proofs.sample_row.Given as goal

pub record Made (s : List ℤ) (i n k v f room : ℕ) : Type 0 where
  pub sides : From air s i n k v
  pub fills : From is_fill s i n k f
  pub sides_fit : 0 < k → v < room
  pub fills_fit : 0 < k → f < room

abbrev pub invariant-loop-k : goal.invariant-loop-k
invariant-loop-k l = Made l.samples l.first l.n l.k l.sides l.fills 256 × (l.k-start ≤ l.k)

abbrev pub invariant-loop-k-2 : goal.invariant-loop-k-2
invariant-loop-k-2 l = Made l.samples l.first l.n (8 * l.k) l.sides l.fills 72057594037927936
