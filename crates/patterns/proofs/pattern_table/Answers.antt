-- After m patterns the table has them. Assumes nothing.
use mathlib.Core.Path.{◌≡◌, sym, ap, subst, ◌∙◌}
use mathlib.Core.List.{List}
use Prim.Native.Nat.{ℕ, ◌+◌, ◌-◌, ◌*◌}
use native.Mathlib.Omega.{arith}
use lib.ListN.{set}
use Rattle.tetra.specs.Cut.{row_steps}
use Rattle.patterns.specs.Table.{pattern_from, Tabled}
use Rattle.patterns.proofs.Laws.{Filling, filling_more, pattern_is}
use Rattle.patterns.proofs.pattern_table.Goals as goal

pub loop-m-preserved : goal.loop-m-preserved
loop-m-preserved c =
    let s = c.new-cut.result.steps in
    let w = c.loop-m in
    let m = w.m in
    let end = c.put_pattern-end.result in
    subst (λ (t : List ℕ). Filling s (m + 1) t (set w.counts m (end - 36 * m))) (sym c.put_pattern-end.ensures.0)
    (filling_more s m end w.steps w.counts w.invariant (omega arith) c.put_pattern-end.ensures.1)

pub returns : goal.returns
returns c =
    let z = c.args.sizes in
    let cut = c.new-cut.result in
    let w = c.loop-m in
    let q : w.m ≡ 256 = omega arith in
    let f : pattern_from cut.steps ≡ pattern_from (row_steps z) =
    ap pattern_from (cut.stepped ∙ ap row_steps c.new-cut.ensures) in
    subst (λ (g : ℕ → List ℕ). Tabled g 256 w.steps w.counts) (f ∙ (λ i m. pattern_is z m i))
    (subst (λ (n : ℕ). Tabled (pattern_from cut.steps) n w.steps w.counts) q w.invariant.tabled)
