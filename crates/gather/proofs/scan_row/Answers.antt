-- The pass has come to cube x of the row; a row of which nothing is left is passed at once. Assumes nothing.
use mathlib.Core.Path.{◌≡◌, refl, sym}
use Prim.Native.Nat.{◌+◌, ◌-◌}
use native.Mathlib.Omega.{arith}
use Rattle.gather.specs.Gathering.{held, row_start}
use Rattle.gather.proofs.Passes.{walk_none, walk_more, walk_to, fit_at, cube_in_row, next_cube, leads_row}
use Rattle.gather.proofs.scan_row.Goals as goal

pub returns-then-m-vis-eq0 : goal.returns-then-m-vis-eq0
returns-then-m-vis-eq0 c =
    let a = c.args in
    let r = a.rows.now in
    let q = c.requires.row in (
      leads_row r.sizes r.sized r.sides.now r.cubes.now a.y a.z a.m q.0 q.1 q.2 (held a.vis.now a.waiting.now a.list.now a.n)
          c.if-m-vis-eq0.true c.requires.fit.0,
      c.requires.fit.1,
    )

pub loop-x-init : goal.loop-x-init
loop-x-init c =
    let a = c.args in
    let r = a.rows.now in
    let k = row_start r.sizes a.y a.z in
    let e : k ≡ k + 0 = omega arith in
    walk_to r.sizes r.sides.now r.cubes.now refl e (walk_none r.sizes r.sides.now r.cubes.now k _ _ c.requires.fit.0 c.requires.fit.1)

pub try_cube-count-requires-clause-fit : goal.try_cube-count-requires-clause-fit
try_cube-count-requires-clause-fit c =
    let a = c.args in
    let r = a.rows.now in
    let w = c.loop-x.invariant in
    (fit_at r.sizes r.sides.now r.cubes.now (sym (cube_in_row r.sizes c.loop-x.x a.y a.z)) w.leads.fit, w.empty)

pub loop-x-preserved : goal.loop-x-preserved
loop-x-preserved c =
    let a = c.args in
    let r = a.rows.now in
    let x = c.loop-x.x in
    let from = cube_in_row r.sizes x a.y a.z in
    let to = next_cube r.sizes x a.y a.z in
    walk_more r.sizes r.sides.now r.cubes.now c.loop-x.invariant refl
    (walk_to r.sizes r.sides.now r.cubes.now from to (record {
      leads = c.try_cube-count.ensures.0;
      empty = c.try_cube-count.ensures.1;
      same_vis = omega (arith, c.try_cube-count.auto);
      same_due = omega (arith, c.try_cube-count.auto);
      same_waiting = omega (arith, c.try_cube-count.auto);
      same_list = omega (arith, c.try_cube-count.auto);
    }))

pub shape_of-vis : goal.shape_of-vis
shape_of-vis c = c.loop-x.invariant.same_vis

pub shape_of-due : goal.shape_of-due
shape_of-due c = c.loop-x.invariant.same_due

pub shape_of-waiting : goal.shape_of-waiting
shape_of-waiting c = c.loop-x.invariant.same_waiting

pub shape_of-list : goal.shape_of-list
shape_of-list c = c.loop-x.invariant.same_list

pub returns : goal.returns
returns c =
    let a = c.args in
    let r = a.rows.now in
    let k = row_start r.sizes a.y a.z in
    let e : k + c.loop-x.x ≡ k + (r.sizes.nx - 1) = omega arith in
    let w = walk_to r.sizes r.sides.now r.cubes.now refl e c.loop-x.invariant in
    (w.leads, w.empty)
