-- The rows so far are the lattice's, the rest as it was. Assumes nothing.
use mathlib.Core.Path.{◌≡◌}
use Prim.Native.Nat.{◌*◌}
use Rattle.rows.specs.Rows.{sides_from, fills_from}
use Rattle.rows.proofs.Making.{front}
use Rattle.sampling.proofs.sample_rows.Given as goal

abbrev pub invariant-loop-r : goal.invariant-loop-r
invariant-loop-r l =
    let z = l.sizes in
    let s = l.volume.samples.now in
    (l.rows ≡ front (λ k. sides_from s (z.nx * k) z.nx) l.r l.initial.rows)
    × (l.fills ≡ front (λ k. fills_from s (z.nx * k) z.nx) l.r l.initial.fills)
