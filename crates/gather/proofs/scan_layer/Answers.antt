-- The pass has come to row y of the layer. Assumes nothing.
use mathlib.Core.Path.{◌≡◌, refl, ap}
use Prim.Native.Nat.{ℕ, ◌-◌}
use native.Mathlib.Omega.{arith}
use Rattle.paper.specs.Lattice.{lattice, place}
use Rattle.blocks.proofs.Whole.{found_crossed}
use Rattle.gather.specs.Gathering.{row_start}
use Rattle.gather.proofs.Passes.{walk_none, walk_more, walk_to, next_row}
use Rattle.gather.proofs.scan_layer.Goals as goal

pub loop-y-init : goal.loop-y-init
loop-y-init c =
    let r = c.args.rows.now in
    walk_none r.sizes r.sides.now r.cubes.now (row_start r.sizes 0 c.args.z) _ _ c.requires.fit.0 c.requires.fit.1

pub scan_row-count-requires-clause-row : goal.scan_row-count-requires-clause-row
scan_row-count-requires-clause-row c =
    let a = c.args in
    let s = a.rows.now.sizes in
    let y = c.loop-y.y in (
      omega arith,
      c.requires.layer.0,
      λ v h x hx. found_crossed (lattice s v) a.found.now (c.requires.has_cubes v h) (place x y a.z)
          (record { x = hx; y = omega arith; z = c.requires.layer.0 }),
    )

pub scan_row-count-requires-clause-fit : goal.scan_row-count-requires-clause-fit
scan_row-count-requires-clause-fit c = (c.loop-y.invariant.leads.fit, c.loop-y.invariant.empty)

pub loop-y-preserved : goal.loop-y-preserved
loop-y-preserved c =
    let a = c.args in
    let r = a.rows.now in
    walk_more r.sizes r.sides.now r.cubes.now c.loop-y.invariant refl
    (walk_to r.sizes r.sides.now r.cubes.now refl (next_row r.sizes c.loop-y.y a.z) (record {
      leads = c.scan_row-count.ensures.0;
      empty = c.scan_row-count.ensures.1;
      same_vis = omega (arith, c.scan_row-count.auto);
      same_due = omega (arith, c.scan_row-count.auto);
      same_waiting = omega (arith, c.scan_row-count.auto);
      same_list = omega (arith, c.scan_row-count.auto);
    }))

pub shape_of-vis : goal.shape_of-vis
shape_of-vis c = c.loop-y.invariant.same_vis

pub shape_of-due : goal.shape_of-due
shape_of-due c = c.loop-y.invariant.same_due

pub shape_of-waiting : goal.shape_of-waiting
shape_of-waiting c = c.loop-y.invariant.same_waiting

pub shape_of-list : goal.shape_of-list
shape_of-list c = c.loop-y.invariant.same_list

pub returns : goal.returns
returns c =
    let a = c.args in
    let r = a.rows.now in
    let e : c.loop-y.y ≡ r.sizes.ny - 1 = omega arith in
    let w = walk_to r.sizes r.sides.now r.cubes.now refl (ap (λ (y : ℕ). row_start r.sizes y a.z) e) c.loop-y.invariant in
    (w.leads, w.empty)
