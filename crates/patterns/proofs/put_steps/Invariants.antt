-- After i entries the first i steps are stored. Assumes nothing.
use Rattle.patterns.proofs.Laws.{Storing}
use Rattle.patterns.proofs.put_steps.Given as goal

abbrev pub invariant-loop-i : goal.invariant-loop-i
invariant-loop-i l = Storing l.cut.steps l.t l.r l.at l.n l.i l.initial.steps l.steps
