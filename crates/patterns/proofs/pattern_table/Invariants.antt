-- After m patterns the table has them. Assumes nothing.
use Rattle.patterns.proofs.Laws.{Filling}
use Rattle.patterns.proofs.pattern_table.Given as goal

abbrev pub invariant-loop-m : goal.invariant-loop-m
invariant-loop-m l = Filling l.cut.steps l.m l.steps l.counts
