-- Each record before i is good, and the slots of their edges are 0. Assumes nothing.
use mathlib.Core.Path.{◌≡◌}
use mathlib.Core.Bool.{false}
use Prim.Native.Nat.{ℕ, ◌<◌}
use Rattle.paper.specs.Lattice.{lattice}
use Rattle.paper.specs.File.{file_vertices}
use Rattle.check_records.specs.Records.{slots_after, bad_in}
use Rattle.check_records.proofs.first_bad.Given as goal

abbrev pub invariant-loop-i : goal.invariant-loop-i
invariant-loop-i l =
    let L = lattice l.volume.sizes l.volume.samples.now in
    let vs = file_vertices l.file.bytes.now in
    (l.slots ≡ slots_after L vs l.initial.slots l.i) × ((k : ℕ) → k < l.i → bad_in l.rule L vs l.initial.slots k ≡ false)
