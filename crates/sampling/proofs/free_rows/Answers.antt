-- The rows so far are those of free cubes, the rest as it was; a row is made from itself and rows behind it. Assumes nothing.
use mathlib.Core.Path.{ap, ◌∙◌}
use mathlib.Core.List.{List}
use Prim.Native.Nat.{ℕ, ◌-◌}
use native.Mathlib.Omega.{arith}
use borrow.Author.Rules.{rules}
use Rattle.bits.specs.Words.{word}
use Rattle.rows.specs.declared.Quad.{Quad}
use Rattle.rows.specs.Rows.{quad_at, free_in, free_rows}
use Rattle.rows.proofs.Making.{front_more, front_all, quad_rest}
use Rattle.sampling.proofs.free_rows.Goals as goal

pub loop-r-preserved : goal.loop-r-preserved
loop-r-preserved c =
    let z = c.args.sizes in
    let l = c.loop-r in
    let q = c.at-q.ensures ∙ ap (λ (m : List ℕ). quad_at m z.ny l.r) l.invariant ∙ quad_rest _ l.r z.ny c.args.words.now in
    rw l.invariant
    (front_more _ l.r _ c.args.words.now (search rules)
    (c.free_row.ensures ∙ ap (λ (q : Quad). word (free_in q) (z.nx - 1)) q))

pub returns : goal.returns
unfolding free_rows
returns c = c.loop-r.invariant ∙ front_all _ _ c.loop-r.r _ (omega arith)
