-- The steps so far are the definition's. Assumes nothing.
use mathlib.Core.Path.{◌≡◌, ap, ◌∙◌}
use mathlib.Core.List.{List}
use Prim.Native.Nat.{ℕ, ◌+◌, ◌-◌, ◌*◌, ◌/◌, ◌%◌, ◌<◌}
use native.Mathlib.Omega.{arith}
use lib.ListN.{get_or}
use Rattle.lists.proofs.Filled.{filled_more, filled_all}
use Rattle.tetra.specs.Cut.{tet_step, row_edge, row_steps}
use Rattle.tetra.proofs.Tables.{row_number, number_is, edge_six}
use Rattle.tetra.proofs.Laws.{step_at}
use Rattle.tetra.proofs.row_steps.Invariants.{entry}
use Rattle.tetra.proofs.row_steps.Goals as goal

pub loop-i-preserved : goal.loop-i-preserved
unfolding row_edge row_number
loop-i-preserved c =
    let i = c.loop-i.i in
    let e = number_is (i % 96 / 6) (i % 96 % 6) (omega arith) (omega arith) in
    filled_more _ 576 i _ _ c.loop-i.invariant (omega arith)
    (c.edge_step.ensures ∙ ap (λ (n : ℕ). get_or c.tet_steps-steps.result (6 * (i / 96) + (n - 1)) 0) e)

-- it is a step of the definition's
pub returns : goal.returns
unfolding row_steps
returns c =
    let z = c.args.sizes in
    let w = c.loop-i.invariant in
    let known : (i : ℕ) → i < 576 → entry c.tet_steps-steps.result i ≡ tet_step z (i / 96) (row_edge (i % 96 / 6) (i % 96 % 6)) =
    λ i h.
    ap (λ (l : List ℕ). entry l i) c.tet_steps-steps.ensures
    ∙ step_at z (i / 96) (row_edge (i % 96 / 6) (i % 96 % 6)) (omega arith)
    (edge_six (i % 96 / 6) (i % 96 % 6) (omega arith) (omega arith)) in
    filled_all _ 576 c.loop-i.i _ (omega arith)
    (record { long = w.long; upto = w.upto; front = λ k h. w.front k h ∙ known k (omega (arith, w.upto)) })
