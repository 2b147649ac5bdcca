-- After i entries the first i steps are stored. Assumes nothing.
use mathlib.Core.Path.{refl, ap, ◌∙◌}
use mathlib.Core.List.{[], ◌∷◌}
use Prim.Native.Nat.{ℕ, ◌+◌, ◌*◌}
use native.Mathlib.Omega.{arith}
use lib.ListN.{get_or}
use lib.Seq.{sets}
use Rattle.lists.proofs.Stores.{sets_next}
use Rattle.tetra.proofs.Tables.{count_le}
use Rattle.patterns.proofs.Laws.{steps_upto, upto_length, upto_none, upto_more, upto_all, from_length, cut_small}
use Rattle.patterns.proofs.put_steps.Goals as goal

pub loop-i-init : goal.loop-i-init
loop-i-init c =
    let a = c.args in
    record { upto = omega arith; stored = ap (sets a.steps.now a.at) (upto_none a.cut.now.steps a.t a.r) }

pub overflow_cast-steps : goal.overflow_cast-steps
overflow_cast-steps c =
    let a = c.args in
    omega (arith, (cut_small a.cut.now).below (96 * a.t + (6 * a.r + c.loop-i.i)) (omega (arith, count_le a.r)))

pub loop-i-preserved : goal.loop-i-preserved
loop-i-preserved c =
    let a = c.args in
    let s = a.cut.now.steps in
    let i = c.loop-i.i in
    let old = a.steps.now in
    let v = get_or s (96 * a.t + (6 * a.r + i)) 0 in
    record {
      upto = omega arith;
      stored =
          sets_next old a.at (a.at + i) (steps_upto s a.t a.r i) (v ∷ []) (ap (λ (n : ℕ). a.at + n) (upto_length s a.t a.r i))
          c.loop-i.invariant.stored refl
          ∙ ap (sets old a.at) (upto_more s a.t a.r i);
    }

pub returns : goal.returns
returns c =
    let a = c.args in
    let s = a.cut.now.steps in
    let n = c.row_count-n in
    let e = upto_all s a.t a.r c.loop-i.i (omega (arith, n.ensures.0)) in
    (c.loop-i.invariant.stored ∙ ap (sets a.steps.now a.at) e, omega (arith, from_length s a.t a.r, n.ensures.0))
