-- `stl_writer::Triangles::put_facet` meets its contract. Assumes nothing.
use mathlib.Core.Path.{◌∙◌}
use native.Mathlib.Omega.{arith}
use Rattle.stl.specs.Stl.{triangle_bytes}
use Rattle.stl.proofs.Laws.{vertex_numbers_law, corners_within}
use Rattle.stl_writer.proofs.Triangles.put_facet.Goals as goal

pub corner-a-requires : goal.corner-a-requires
corner-a-requires c =
    ((c.args.self.now.named c.args.i c.requires.0).first, (corners_within _ _ _ c.requires.1).0)

pub corner-b-requires : goal.corner-b-requires
corner-b-requires c =
    ((c.args.self.now.named c.args.i c.requires.0).second, (corners_within _ _ _ c.requires.1).1)

pub corner-c-requires : goal.corner-c-requires
corner-c-requires c =
    ((c.args.self.now.named c.args.i c.requires.0).third, (corners_within _ _ _ c.requires.1).2)

pub put_facet-requires : goal.put_facet-requires
put_facet-requires c =
    let w = corners_within _ _ _ c.requires.1 in (
      omega arith,
      rw c.corner-a.ensures (vertex_numbers_law _ _ w.0),
      rw c.corner-b.ensures (vertex_numbers_law _ _ w.1),
      rw c.corner-c.ensures (vertex_numbers_law _ _ w.2),
    )

pub returns : goal.returns
unfolding triangle_bytes
returns c =
    c.put_facet.ensures ∙ rw (c.corner-a.ensures, c.corner-b.ensures, c.corner-c.ensures)
