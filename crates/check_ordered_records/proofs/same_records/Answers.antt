-- The loop's invariant: the records so far are those of rising edges of the row. Assumes nothing.
use mathlib.Core.Path.{refl, ap, ◌∙◌}
use Prim.Native.Nat.{◌+◌, ◌*◌, ◌<◌}
use native.Mathlib.Omega.{arith}
use Rattle.paper.specs.declared.Sizes.{Sizes}
use Rattle.paper.specs.Lattice.{lattice}
use Rattle.paper.specs.Room.{needed_slots}
use Rattle.paper.specs.File.{file_vertices}
use Rattle.layout.proofs.Trailer.{vertices_length}
use Rattle.kinds.specs.Kinds.{seven}
use Rattle.check_ordered_records.proofs.Entered.{entering_more, entering_all, edge_in_row}
use Rattle.check_ordered_records.proofs.same_records.Goals as goal
use Rattle.check_ordered_records.proofs.same_records.Goals.{In-Some}

-- the slot of an edge of the row
slot : (c : goal.In-Some) → 7 * c.args.lines.now.here + c.in-Some.e < needed_slots c.args.volume.now.sizes
slot c =
    let l = c.args.lines.now in
    let n = c.args.volume.now.sizes in
    let q = c.requires.sizes in
    edge_in_row n l.y l.z l.here (omega (arith, l.placed.0, ap (λ (n : Sizes). n.ny) q)) (omega (arith, l.placed.1, ap (λ (n : Sizes). n.nz) q))
    (l.placed.2 ∙ ap (λ (n : Sizes). n.nx * (l.y + n.ny * l.z)) q) c.in-Some.e c.in-Some.ensures.0

pub bounds-slots-row : goal.bounds-slots-row
bounds-slots-row c = omega (arith, slot (goal.at.bounds-slots-row c).In-Some, c.requires.room.1, c.loop-i.auto.slots)

pub loop-i-preserved : goal.loop-i-preserved
loop-i-preserved c =
    let a = c.args in
    let n = a.volume.now.sizes in
    let f = a.file.now in
    entering_more a.rule (lattice n a.volume.now.samples.now) (seven a.k.now) (file_vertices f.bytes.now) (7 * a.lines.now.here) (7 * n.nx) a.at a.slots.now a.n
    _ _ _ _ _ c.loop-i.invariant c.in-Some.ensures.1 c.in-Some.ensures.0 c.loop-i-test.true (omega (arith, c.requires.room.0, f.counted_v, vertices_length f.bytes.now))
    (slot (goal.at.loop-i-preserved c).In-Some) refl

pub returns : goal.returns
returns c = ((λ e h. entering_all _ _ _ _ _ _ _ _ _ _ _ _ c.loop-i.invariant (omega (arith, c.loop-i-test.false)) h), c.loop-i.invariant.beyond)
