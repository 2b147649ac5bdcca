-- The pass has come to layer z. Assumes nothing.
use mathlib.Core.Path.{◌≡◌, refl, ap, ◌∙◌}
use Prim.Native.Nat.{ℕ, ◌-◌}
use native.Mathlib.Omega.{arith}
use Rattle.gather.specs.Gathering.{row_start}
use Rattle.gather.proofs.Passes.{walk_none, walk_more, walk_to, next_layer, first_cube, all_cubes}
use Rattle.gather.proofs.scan_lattice.Goals as goal

pub loop-z-init : goal.loop-z-init
loop-z-init c =
    let r = c.args.rows.now in
    walk_to r.sizes r.sides.now r.cubes.now refl (first_cube r.sizes)
    (walk_none r.sizes r.sides.now r.cubes.now 0 _ _ c.requires.fit.0 c.requires.fit.1)

pub scan_layer-count-requires-clause-fit : goal.scan_layer-count-requires-clause-fit
scan_layer-count-requires-clause-fit c = (c.loop-z.invariant.leads.fit, c.loop-z.invariant.empty)

pub loop-z-preserved : goal.loop-z-preserved
loop-z-preserved c =
    let r = c.args.rows.now in
    walk_more r.sizes r.sides.now r.cubes.now c.loop-z.invariant refl
    (walk_to r.sizes r.sides.now r.cubes.now refl (next_layer r.sizes c.loop-z.z) (record {
      leads = c.scan_layer-count.ensures.0;
      empty = c.scan_layer-count.ensures.1;
      same_vis = omega (arith, c.scan_layer-count.auto);
      same_due = omega (arith, c.scan_layer-count.auto);
      same_waiting = omega (arith, c.scan_layer-count.auto);
      same_list = omega (arith, c.scan_layer-count.auto);
    }))

pub shape_of-vis : goal.shape_of-vis
shape_of-vis c = c.loop-z.invariant.same_vis

pub shape_of-due : goal.shape_of-due
shape_of-due c = c.loop-z.invariant.same_due

pub shape_of-waiting : goal.shape_of-waiting
shape_of-waiting c = c.loop-z.invariant.same_waiting

pub shape_of-list : goal.shape_of-list
shape_of-list c = c.loop-z.invariant.same_list

pub returns : goal.returns
returns c =
    let r = c.args.rows.now in
    let e : c.loop-z.z ≡ r.sizes.nz - 1 = omega arith in
    let f = ap (λ (z : ℕ). row_start r.sizes 0 z) e ∙ all_cubes r.sizes in
    (walk_to r.sizes r.sides.now r.cubes.now refl f c.loop-z.invariant).leads
