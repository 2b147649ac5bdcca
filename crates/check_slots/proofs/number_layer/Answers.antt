-- After each row its slots are numbered behind those before it. Assumes nothing.
use mathlib.Core.List.{List}
use Prim.Native.Nat.{ℕ}
use native.Mathlib.Omega.{arith}
use Rattle.paper.specs.declared.Rule.TheVariants.{Down}
use Rattle.paper.specs.Lattice.{Lattice, lattice}
use Rattle.dots.specs.Dots.{edges_of, layer_edges, Drawn, drawn}
use Rattle.dots.proofs.Laws.{numbering_few, numbering_more, numbering_all, draws_numbers, crossed_part}
use Rattle.dots.proofs.Rows.{row_few, layer_few}
use Rattle.check_slots.proofs.number_layer.Goals as goal
use Rattle.check_slots.proofs.number_layer.Goals.{At-loop-y, Start}

abbrev left : goal.At-loop-y → Drawn
left l = drawn l.loop-y.buffer l.loop-y.slots

abbrev space : goal.Start → Lattice
space s = lattice s.args.surface.now.rows.sizes s.args.surface.now.samples.now

-- the edges of a row
abbrev edges : goal.Start → ℕ → List ℕ
edges s y = let r = s.args.surface.now.rows in edges_of r.sizes r.sides.now r.cubes.now y s.args.z

pub put_row_at-next-requires-clause-crossed : goal.put_row_at-next-requires-clause-crossed
unfolding layer_edges
put_row_at-next-requires-clause-crossed c =
    let s = (goal.at.put_row_at-next-requires-clause-crossed c).Start in
    crossed_part (space s) (edges s) c.args.surface.now.rows.sizes.ny c.loop-y.y (omega arith) c.requires.crossed

pub put_row_at-next-requires-clause-roomy : goal.put_row_at-next-requires-clause-roomy
unfolding layer_edges
put_row_at-next-requires-clause-roomy c =
    let a = c.args in
    let r = a.surface.now.rows in
    let p = c.loop-y in
    let s = (goal.at.put_row_at-next-requires-clause-roomy c).Start in
    let few = numbering_few (edges s) r.sizes.ny a.at a.slots.now p.y p.next p.slots p.invariant (omega arith) in
    record {
      since = omega arith;
      room = omega (arith, row_few r.sizes r.sized r.sides.now r.cubes.now p.y a.z, p.auto.buffer, c.requires.room.1);
      enough = omega (arith, c.requires.room.0, p.auto.slots);
      small = omega (arith, few, layer_few r.sizes r.sized r.sides.now r.cubes.now a.z, c.requires.room.2);
    }

pub loop-y-preserved : goal.loop-y-preserved
loop-y-preserved c =
    let a = c.args in
    let p = c.loop-y in
    let s = (goal.at.loop-y-preserved c).Start in
    numbering_more (edges s) a.surface.now.rows.sizes.ny a.at a.slots.now p.y p.next p.slots p.invariant c.put_row_at-next.result _ (omega arith)
    (draws_numbers Down (space s) _ p.next p.next (left (goal.at.loop-y-preserved c).At-loop-y) _ _ c.put_row_at-next.ensures)

pub returns : goal.returns
unfolding layer_edges
returns c =
    let a = c.args in
    let p = c.loop-y in
    numbering_all (edges (goal.at.returns c).Start) a.surface.now.rows.sizes.ny a.at a.slots.now p.y p.next p.slots p.invariant (omega arith)
