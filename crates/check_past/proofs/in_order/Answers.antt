-- First the vertices, then the triangles by the slots that these numbered. Assumes nothing.
use Rattle.paper.specs.Lattice.{Lattice, lattice}
use Rattle.dots.proofs.Meaning.{edges_crossed}
use Rattle.check_past.proofs.Order.{in_order_passes}
use Rattle.check_past.proofs.in_order.Goals as goal
use Rattle.check_past.proofs.in_order.Goals.{Start}

abbrev L : goal.Start → Lattice
L s = let v = s.args.surface.now in lattice v.rows.sizes v.samples.now

pub same_vertices-requires-clause-crossed : goal.same_vertices-requires-clause-crossed
same_vertices-requires-clause-crossed c =
    let s = (goal.at.same_vertices-requires-clause-crossed c).Start in
    let p = c.requires.standing.0 in
    edges_crossed (L s) c.args.surface.now.full.sized p.start _ _ p.stands.sides p.stands.cubes

pub returns : goal.returns
returns c =
    let s = (goal.at.returns c).Start in
    let v = c.same_vertices in
    let same = v.ensures.0 c.if-not-same_vertices.false in
    let tab = c.pattern_table.ensures in (
      λ e.
          in_order_passes c.args.rule (L s) c.args.surface.now.full.sized _ _ _ _ _ _ _ tab c.requires.room same.0 same.1
          (c.same_triangles.ensures e),
      v.ensures.1,
    )
