-- The loop's invariant: where the flag is still up, the first i numbers of each part are below n. Assumes nothing.
use Rattle.std.proofs.Common.{◌≡◌, true, ℕ, ◌+◌, ◌*◌, ◌<◌, get_or}
use Rattle.paper.specs.File.{file_triangles}
use Rattle.layout.proofs.SheetFile.parts_below.Given as goal

abbrev pub invariant-loop-i : goal.invariant-loop-i
invariant-loop-i l =
    l.below ≡ true → (k j : ℕ) → k < 8 → j < l.i → get_or (file_triangles l.self.bytes.now) (k * l.part + j) 0 < l.n
