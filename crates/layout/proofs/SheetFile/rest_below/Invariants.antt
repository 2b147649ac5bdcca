-- The loop's invariant: where the flag is still up, all numbers so far are below n. Assumes nothing.
use Rattle.std.proofs.Common.{◌≡◌, true, ℕ, ◌<◌, ◌≤◌, get_or}
use Rattle.paper.specs.File.{file_triangles}
use Rattle.layout.proofs.SheetFile.rest_below.Given as goal

abbrev pub invariant-loop-i : goal.invariant-loop-i
invariant-loop-i l = l.below ≡ true → (j : ℕ) → l.from ≤ j → j < l.i → get_or (file_triangles l.self.bytes.now) j 0 < l.n
