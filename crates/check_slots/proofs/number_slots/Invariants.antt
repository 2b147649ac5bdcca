-- After each layer its slots are numbered behind those before it. Assumes nothing.
use Prim.Native.Nat.{◌≤◌}
use lib.ListN.{length}
use Rattle.dots.specs.Dots.{layer_edges}
use Rattle.dots.proofs.Laws.{Numbering}
use Rattle.check_slots.proofs.number_slots.Given as goal

abbrev pub invariant-loop-z : goal.invariant-loop-z
invariant-loop-z l =
    let r = l.surface.rows in
    Numbering (layer_edges r.sizes r.sides.now r.cubes.now) r.sizes.nz 1 l.z l.next l.initial.slots l.slots × (1792 ≤ length l.buffer)
