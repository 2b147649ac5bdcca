-- After each layer its vertices stand behind those before it. Assumes nothing.
use mathlib.Core.List.{List}
use Prim.Native.Nat.{ℕ}
use native.Mathlib.Omega.{arith}
use lib.ListN.{length}
use Rattle.paper.specs.Lattice.{Lattice, lattice}
use Rattle.paper.specs.Room.{needed_slots}
use Rattle.dots.specs.Dots.{layer_edges, edges_by, Drawn, drawn, Roomy}
use Rattle.dots.proofs.Laws.{drawing_room, drawing_more, drawing_all, crossed_part}
use Rattle.dots.proofs.Rows.{all_few}
use Rattle.build_vertices.proofs.put_vertices.Goals as goal
use Rattle.build_vertices.proofs.put_vertices.Goals.{At-loop-z, Start}

abbrev lent : goal.Start → Drawn
lent s = drawn s.args.vertices.now s.args.slots.now

abbrev left : goal.At-loop-z → Drawn
left l = drawn l.loop-z.vertices l.loop-z.slots

abbrev space : goal.Start → Lattice
space s = lattice s.args.surface.now.rows.sizes s.args.surface.now.samples.now

-- the edges of a layer
abbrev edges : goal.Start → ℕ → List ℕ
edges s = let r = s.args.surface.now.rows in layer_edges r.sizes r.sides.now r.cubes.now

-- there is room for all
room : (s : goal.Start) → let r = s.args.surface.now.rows in
    Roomy (edges_by r.sizes r.sides.now r.cubes.now) 0 0 (needed_slots r.sizes) (length (lent s).vertices) (length (lent s).slots)
room s =
    let r = s.args.surface.now.rows in
    record {
      since = omega arith;
      room = omega (arith, s.requires.vertices_in_bounds);
      enough = s.requires.slots_in_bounds;
      small = omega (arith, all_few r.sizes r.sized r.sides.now r.cubes.now);
    }

pub put_layer-next-requires-clause-crossed : goal.put_layer-next-requires-clause-crossed
unfolding edges_by
put_layer-next-requires-clause-crossed c =
    let s = (goal.at.put_layer-next-requires-clause-crossed c).Start in
    crossed_part (space s) (edges s) c.args.surface.now.rows.sizes.nz c.loop-z.z (omega arith) c.requires.crossed

pub put_layer-next-requires-clause-roomy : goal.put_layer-next-requires-clause-roomy
unfolding edges_by
put_layer-next-requires-clause-roomy c =
    let a = c.args in
    let p = c.loop-z in
    let s = (goal.at.put_layer-next-requires-clause-roomy c).Start in
    drawing_room a.rule (space s) (edges s) a.surface.now.rows.sizes.nz 0 0 p.z p.next (lent s) (left (goal.at.put_layer-next-requires-clause-roomy c).At-loop-z)
    p.invariant _ (room s) (omega arith)

pub loop-z-preserved : goal.loop-z-preserved
loop-z-preserved c =
    let a = c.args in
    let p = c.loop-z in
    let s = (goal.at.loop-z-preserved c).Start in
    drawing_more a.rule (space s) (edges s) a.surface.now.rows.sizes.nz 0 0 p.z p.next (lent s) (left (goal.at.loop-z-preserved c).At-loop-z)
    p.invariant c.put_layer-next.result _ (omega arith) (omega arith) c.put_layer-next.ensures

pub returns : goal.returns
unfolding edges_by
returns c =
    let a = c.args in
    let p = c.loop-z in
    let s = (goal.at.returns c).Start in
    drawing_all a.rule (space s) (edges s) a.surface.now.rows.sizes.nz 0 0 p.z p.next (lent s) (left (goal.at.returns c).At-loop-z) p.invariant (omega arith)
