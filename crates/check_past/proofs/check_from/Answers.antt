-- The visited cubes, the last tests, and a clear. Assumes nothing.
use mathlib.Core.Path.{◌∙◌}
use Rattle.lists.specs.Lists.{cleared}
use Rattle.lists.proofs.Stores.{beyond_trans, clear_beyond}
use Rattle.paper.specs.Lattice.{Lattice, lattice}
use Rattle.paper.specs.Room.{work, needed, needed_slots}
use Rattle.paper.proofs.Visits.{crossed_visitable}
use Rattle.spread.proofs.Joining.{fresh}
use Rattle.spread.specs.Flooded.{Stands}
use Rattle.check_past.proofs.check_from.Goals as goal
use Rattle.check_past.proofs.check_from.Goals.{After-visit, Start}

abbrev L : goal.Start → Lattice
L s = lattice s.args.rows.now.sizes s.args.samples.now

-- the cubes that are visited
stands : (c : goal.After-visit) → Stands (L (goal.at.After-visit c).Start) c.args.k c.args.rows.now.sides.now c.visit.new.vis
stands c =
    let p = c.requires.begun in
    c.visit.ensures.stands _ p.1 (crossed_visitable (L (goal.at.After-visit c).Start) c.args.k p.3)

pub visit-requires-clause-empty : goal.visit-requires-clause-empty
visit-requires-clause-empty c =
    let r = c.args.rows.now in (fresh r.sizes r.sized, c.requires.roomy.waiting)

pub last_tests-answer-requires-clause-standing : goal.last_tests-answer-requires-clause-standing
last_tests-answer-requires-clause-standing c = (
  record { start = c.args.k; stands = stands (goal.at.last_tests-answer-requires-clause-standing c).After-visit },
  c.requires.begun.4,
)

pub returns : goal.returns
returns c =
    let n = c.args.rows.now.sizes in
    let q = c.last_tests-answer.ensures in
    let waiting = clear_beyond (needed n) _ _ (beyond_trans c.visit.ensures.beyond q.1) in
    let slots = clear_beyond (needed_slots n) _ _ q.2 in (
      q.0.is c.args.k (stands (goal.at.returns c).After-visit),
      c.clear_work.ensures ∙ (λ i. work (cleared (needed n) c.args.words.now) (waiting i) (slots i)),
    )
