-- Each turn takes a row off the list, fills it and spreads: the invariant is `Flooding`. What is not visited, five times, and what waits
-- falls. Assumes nothing.
use Prim.Native.Nat.{◌+◌, ◌*◌, ◌-◌}
use Rattle.ways.specs.Flow.{flow}
use Rattle.ways.specs.Ways.{words}
use Rattle.ways.proofs.Laws.{lit}
use Rattle.spread.proofs.Turns.{Flooding}
use Rattle.spread.proofs.flood.Given as goal

abbrev pub invariant-loop-h : goal.invariant-loop-h
invariant-loop-h l = Flooding l.rows.sizes l.rows.sides.now l.rows.cubes.now l.row l.x l.initial.vis l.initial.due l.initial.waiting l.vis
    (flow l.due l.waiting l.h) l.seen

abbrev pub decreases-loop-h : goal.decreases-loop-h
decreases-loop-h l = 5 * (64 * words l.rows.sizes - lit (words l.rows.sizes) l.vis) + l.h
