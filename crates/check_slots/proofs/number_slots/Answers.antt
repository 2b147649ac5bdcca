-- After each layer its slots are numbered behind those before it. Assumes nothing.
use mathlib.Core.List.{List}
use Prim.Native.Nat.{ℕ}
use native.Mathlib.Omega.{arith}
use Rattle.paper.specs.Lattice.{lattice}
use Rattle.dots.specs.Dots.{layer_edges, edges_by}
use Rattle.dots.proofs.Laws.{numbering_few, numbering_more, numbering_all, crossed_part}
use Rattle.dots.proofs.Rows.{all_few}
use Rattle.check_slots.proofs.number_slots.Goals as goal
use Rattle.check_slots.proofs.number_slots.Goals.{Start}

-- the edges of a layer
abbrev edges : goal.Start → ℕ → List ℕ
edges s = let r = s.args.surface.now.rows in layer_edges r.sizes r.sides.now r.cubes.now

pub number_layer-next-requires-clause-room : goal.number_layer-next-requires-clause-room
unfolding edges_by
number_layer-next-requires-clause-room c =
    let r = c.args.surface.now.rows in
    let p = c.loop-z in
    let few = numbering_few (edges (goal.at.number_layer-next-requires-clause-room c).Start) r.sizes.nz 1 c.args.slots.now p.z p.next p.slots p.invariant.0 (omega arith) in (
      omega (arith, c.requires.slots_in_bounds, p.auto.slots),
      p.invariant.1,
      omega (arith, few, all_few r.sizes r.sized r.sides.now r.cubes.now),
    )

pub number_layer-next-requires-clause-crossed : goal.number_layer-next-requires-clause-crossed
unfolding edges_by
number_layer-next-requires-clause-crossed c =
    let r = c.args.surface.now.rows in
    crossed_part (lattice r.sizes c.args.surface.now.samples.now) (edges (goal.at.number_layer-next-requires-clause-crossed c).Start) r.sizes.nz c.loop-z.z (omega arith) c.requires.crossed

pub loop-z-preserved : goal.loop-z-preserved
loop-z-preserved c =
    let p = c.loop-z in (
      numbering_more (edges (goal.at.loop-z-preserved c).Start) c.args.surface.now.rows.sizes.nz 1 c.args.slots.now p.z p.next p.slots p.invariant.0
          c.number_layer-next.result _ (omega arith) c.number_layer-next.ensures,
      omega (arith, p.invariant.1, c.number_layer-next.auto.buffer),
    )

pub returns : goal.returns
unfolding edges_by
returns c =
    let p = c.loop-z in
    (numbering_all (edges (goal.at.returns c).Start) c.args.surface.now.rows.sizes.nz 1 c.args.slots.now p.z p.next p.slots p.invariant.0 (omega arith)).slots
