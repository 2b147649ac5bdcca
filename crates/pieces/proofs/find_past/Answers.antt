-- The crossed cubes, a pass over them, tests 5 and 20, and a clear. Assumes nothing.
use Rattle.spread.proofs.Joining.{fresh}
use Rattle.pieces.proofs.Answers.{fit_begun, finds_none, finds_told}
use Rattle.pieces.proofs.find_past.Goals as goal

pub mark_crossed-requires : goal.mark_crossed-requires
mark_crossed-requires c =
    let r = c.args.rows.now in
    let e = fresh r.sizes r.sized in record { fit = e.fit; none = e.none }

pub scan_lattice-n-requires-clause-fit : goal.scan_lattice-n-requires-clause-fit
scan_lattice-n-requires-clause-fit c =
    let r = c.args.rows.now in
    let e = fresh r.sizes r.sized in
    (fit_begun r.sizes r.sized _ _ _ _ _ e c.requires.waiting c.requires.slots, e)

pub returns-then-n-eq0 : goal.returns-then-n-eq0
returns-then-n-eq0 c v h =
    let r = c.args.rows.now in
    finds_none r.sizes r.sized r.sides.now r.cubes.now _ _ _ (fresh r.sizes r.sized) _ c.scan_lattice-n.ensures v h
    c.if-n-eq0.true _ _

pub returns : goal.returns
returns c v h =
    let r = c.args.rows.now in
    finds_told r.sizes r.sized r.sides.now r.cubes.now _ _ _ (fresh r.sizes r.sized) _ c.scan_lattice-n.ensures v h
    c.if-n-eq0.false _ _ _ c.put_list-listed.result c.put_list-listed.ensures.room c.put_list-listed.ensures.put _ c.clear_work.ensures
