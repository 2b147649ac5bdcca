-- After t tetrahedra their steps are stored. Assumes nothing.
use Rattle.patterns.proofs.Laws.{Written}
use Rattle.patterns.proofs.put_pattern.Given as goal

abbrev pub invariant-loop-t : goal.invariant-loop-t
invariant-loop-t l = Written l.cut.steps l.m l.at l.t l.next l.initial.steps l.steps
