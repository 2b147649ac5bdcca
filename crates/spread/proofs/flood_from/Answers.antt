-- The place of a cube is a row and a place of it; words that were never written are 0. Assumes nothing.
use mathlib.Core.Path.{subst}
use native.Mathlib.Omega.{arith}
use lib.Dec.{T}
use Rattle.paper.specs.declared.Place.{Place}
use Rattle.paper.specs.Lattice.{lattice, visitable}
use Rattle.paper.proofs.Numbers.{cube_place}
use Rattle.ways.specs.Ways.{plan_of}
use Rattle.spread.proofs.Finish.{empty_closed}
use Rattle.spread.proofs.Visiting.{visits}
use Rattle.spread.proofs.Joining.{row_of_law, fresh, joined}
use Rattle.spread.proofs.flood_from.Goals as goal

pub flood-requires : goal.flood-requires
flood-requires c =
    let r = c.args.rows.now in
    let z = r.sizes in
    let p = c.requires.at_in in
    let closed = empty_closed (plan_of z r.sides.now r.cubes.now) _ c.requires.empty.0 in record {
      sized = (row_of_law z c.args.at p, omega (arith, r.sized.x_high, p.x));
      closed = (closed, fresh z r.sized, c.requires.empty.1);
    }

pub returns : goal.returns
returns c =
    let r = c.args.rows.now in
    let z = r.sizes in
    let at = c.args.at in
    let p = c.requires.at_in in
    let F = c.flood.ensures.0 in
    let e = cube_place z at (omega (arith, p.x)) (omega (arith, p.y)) in
    record {
      visits = λ s h t.
          let L = lattice z s in
          let P = plan_of z r.sides.now r.cubes.now in
          visits L r.sized P (joined L r.sized r.sides.now r.cubes.now h) at
          (subst (λ (q : Place). T (visitable L q)) e t) _ _ _ F c.requires.empty.0;
      on_vis = F.on_vis;
      on_waiting = F.on_waiting;
    }
