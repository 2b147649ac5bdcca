-- The loop's invariant: the records so far are those of rising edges of the row. Assumes nothing.
use Prim.Native.Nat.{◌*◌}
use Rattle.paper.specs.Lattice.{lattice}
use Rattle.paper.specs.File.{file_vertices}
use Rattle.kinds.specs.Kinds.{seven}
use Rattle.check_ordered_records.proofs.Entered.{Entering}
use Rattle.check_ordered_records.proofs.same_records.Given as goal

abbrev pub invariant-loop-i : goal.invariant-loop-i
invariant-loop-i l =
    let z = l.volume.sizes in
    Entering l.rule (lattice z l.volume.samples.now) (seven l.k) (file_vertices l.file.bytes.now) (7 * l.lines.here) (7 * z.nx) l.at l.initial.slots l.n l.i l.low l.slots
