-- The search from c on finds what the search from the start finds. Assumes nothing.
use mathlib.Core.Path.{sym, ◌∙◌}
use native.Mathlib.Omega.{arith}
use Rattle.check_triangles.proofs.Laws.{from_here, from_next, from_end}
use Rattle.check_triangles.proofs.place_from.Goals as goal

pub returns-then-is_at : goal.returns-then-is_at
returns-then-is_at c =
    let l = c.loop-c in
    (l.invariant ∙ sym (from_here _ _ _ _ l.c (omega arith) (sym c.is_at.ensures ∙ c.if-is_at.true)), omega arith)

pub loop-c-preserved : goal.loop-c-preserved
loop-c-preserved c =
    let l = c.loop-c in l.invariant ∙ from_next _ _ _ _ l.c (omega arith) (sym c.is_at.ensures ∙ c.if-is_at.false)

pub returns : goal.returns
returns c = c.loop-c.invariant ∙ sym (from_end _ _ _ _ c.loop-c.c (omega arith))
