-- One facet more is stored. Assumes nothing.
use Rattle.std.proofs.Common.{◌∙◌, refl}
use Rattle.stl.specs.Stl.{triangle_bytes}
use Rattle.stl.proofs.Laws.{run_more, bytes_long}
use Rattle.stl_writer.proofs.Triangles.put_facets.Goals as goal

pub loop-i-preserved : goal.loop-i-preserved
loop-i-preserved c =
    let a = c.args in
    c.put_facet.ensures
    ∙ rw c.loop-i.invariant
    (run_more (triangle_bytes a.self.now.vertices.now a.self.now.triangles.now) 50 (bytes_long _ _) a.bytes.now 84 _ c.loop-i.i refl)
