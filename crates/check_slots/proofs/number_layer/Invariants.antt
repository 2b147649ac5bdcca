-- After each row its slots are numbered behind those before it. Assumes nothing.
use Rattle.dots.specs.Dots.{edges_of}
use Rattle.dots.proofs.Laws.{Numbering}
use Rattle.check_slots.proofs.number_layer.Given as goal

abbrev pub invariant-loop-y : goal.invariant-loop-y
invariant-loop-y l =
    let r = l.surface.rows in
    Numbering (λ y. edges_of r.sizes r.sides.now r.cubes.now y l.z) r.sizes.ny l.at l.y l.next l.initial.slots l.slots
