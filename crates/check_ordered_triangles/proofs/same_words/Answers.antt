-- After i numbers, `same` says that they are the first i of the words. Assumes nothing.
use mathlib.Core.Path.{◌∙◌}
use native.Mathlib.Omega.{arith}
use lib.ListN.{length}
use lib.Seq.{take_all}
use Rattle.layout.proofs.Trailer.{triangles_length}
use Rattle.check_ordered.proofs.Laws.{alike_all}
use Rattle.check_ordered_triangles.proofs.same_words.Goals as goal

pub returns : goal.returns
returns c =
    let f = c.args.file.now in
    let ws = c.args.words.now in
    λ e.
    alike_all _ _ _ _ _ _ _ c.loop-i.invariant (omega arith) (omega (arith, triangles_length f.bytes.now, f.counted_t)) (omega arith) e
    ∙ take_all (length ws) ws (omega arith)
