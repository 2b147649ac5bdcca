-- Rounds until one adds nothing: each other round makes a larger number. Assumes nothing.
use native.Mathlib.Omega.{arith}
use Rattle.ways.proofs.Fill.{round, filling_start, filling_more, filling_less, filling_all}
use Rattle.ways.proofs.filled.Goals as goal

pub loop-g-init : goal.loop-g-init
unfolding round
loop-g-init c = filling_start _ _ (omega arith) (omega arith)

pub loop-g-smaller : goal.loop-g-smaller
loop-g-smaller c =
    let l = c.loop-g.invariant in
    omega (arith, filling_less _ _ _ _ l c.loop-g-test.true)

pub loop-g-preserved : goal.loop-g-preserved
unfolding round
loop-g-preserved c = filling_more _ _ _ _ c.loop-g.invariant

pub returns : goal.returns
returns c = filling_all _ _ _ _ c.loop-g.invariant c.loop-g-test.false
