-- After i numbers, `same` says that they are the first i of the words. Assumes nothing.
use lib.ListN.{length}
use Rattle.paper.specs.File.{file_triangles}
use Rattle.check_ordered.proofs.Laws.{Alike}
use Rattle.check_ordered_triangles.proofs.same_words.Given as goal

abbrev pub invariant-loop-i : goal.invariant-loop-i
invariant-loop-i l = Alike 0 (file_triangles l.file.bytes.now) l.words l.at (length l.words) l.i l.same
