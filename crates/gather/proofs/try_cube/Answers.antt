-- What is left of the row says whether the cube begins a piece; then a flood marks it. Assumes nothing.
use mathlib.Core.Path.{sym, ◌∙◌}
use native.Mathlib.Omega.{arith}
use Rattle.lattice.proofs.Laws.{cubes_few}
use Rattle.spread.proofs.Joining.{row_of_law}
use Rattle.gather.specs.Gathering.{held}
use Rattle.gather.proofs.Passes.{leads_skip, leads_take}
use Rattle.gather.proofs.try_cube.Goals as goal

pub returns-then-not-has_bit : goal.returns-then-not-has_bit
returns-then-not-has_bit c =
    let a = c.args in
    let r = a.rows.now in
    let given = held a.vis.now a.waiting.now a.list.now a.n in (
      leads_skip r.sizes r.sized r.sides.now r.cubes.now a.p c.requires.cube.0 a.m c.requires.cube.1 given
          c.requires.fit.0 (sym c.has_bit.ensures ∙ c.if-not-has_bit.true),
      c.requires.fit.1,
    )

pub flood-requires-clause-sized : goal.flood-requires-clause-sized
flood-requires-clause-sized c =
    let r = c.args.rows.now in
    (row_of_law r.sizes c.args.p c.requires.cube.0, omega (arith, r.sized.x_high, c.requires.cube.0.x))

pub overflow_cast-list : goal.overflow_cast-list
overflow_cast-list c = omega (arith, c.cube_no.ensures.1, cubes_few c.args.rows.now.sizes c.args.rows.now.sized)

pub returns : goal.returns
returns c =
    let a = c.args in
    let r = a.rows.now in
    let given = held a.vis.now a.waiting.now a.list.now a.n in (
      leads_take r.sizes r.sized r.sides.now r.cubes.now a.p c.requires.cube.0 a.m c.requires.cube.1 given
          c.requires.fit.0 (sym c.has_bit.ensures ∙ c.if-not-has_bit.false) _ _ _ c.flood.ensures.0 c.cube_no.result c.cube_no.ensures.0,
      c.flood.ensures.1,
    )
