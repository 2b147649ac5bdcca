-- The three corners. Assumes nothing.
use Rattle.paper.specs.Check.{triangle_of}
use Rattle.paper.specs.Tables.{tri}
use Rattle.check_triangles.proofs.Naming.triangle.Goals as goal

pub returns : goal.returns
unfolding triangle_of
returns c =
    let a = c.edge.ensures in
    let b = c.edge-2.ensures in
    let d = c.edge-3.ensures in
    ((λ i. tri (a.0 i) (b.0 i) (d.0 i)), record { a = a.1; b = b.1; c = d.1 })
