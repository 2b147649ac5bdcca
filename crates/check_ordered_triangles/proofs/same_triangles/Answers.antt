-- They end where the file ends. Assumes nothing.
use mathlib.Core.Path.{sym, ap, ◌∙◌}
use Prim.Native.Nat.{ℕ, ◌*◌}
use borrow.Author.Tests.{eqb-true}
use Rattle.paper.specs.File.{file_triangles}
use Rattle.layout.proofs.Trailer.{triangles_length}
use Rattle.check_ordered.proofs.Laws.{follows_all}
use Rattle.check_ordered_triangles.proofs.same_triangles.Goals as goal

pub returns-in-Some : goal.returns-in-Some
returns-in-Some c =
    let f = c.args.file.now in
    let next = c.in-Some.next in
    λ e.
    follows_all (file_triangles f.bytes.now) _ next c.in-Some.ensures
    (eqb-true next _ e ∙ (ap (λ (n : ℕ). 3 * n) f.counted_t ∙ sym (triangles_length f.bytes.now)))
