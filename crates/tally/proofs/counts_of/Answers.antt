-- After z layers theirs are summed. Assumes nothing.
use mathlib.Core.Path.{◌≡◌, ap, ◌∙◌}
use native.Mathlib.Omega.{arith}
use Rattle.paper.specs.Lattice.{lattice}
use Rattle.bits.specs.Words.{total}
use Rattle.tally.specs.Tally.{layer_vertices, layer_triangles}
use Rattle.tally.proofs.Totals.{summed_none, summed_more}
use Rattle.tally.proofs.Sheets.{vertices_are, triangles_are}
use Rattle.tally.proofs.counts_of.Goals as goal

pub loop-z-init : goal.loop-z-init
loop-z-init c =
    let r = c.args.rows.now in
    summed_none (layer_vertices r.sizes r.sides.now r.cubes.now) (layer_triangles r.sizes r.sides.now r.cubes.now) 28672 49152

pub loop-z-preserved : goal.loop-z-preserved
unfolding layer_vertices layer_triangles
loop-z-preserved c =
    let r = c.args.rows.now in
    let e = c.layer_counts-c.ensures in
    summed_more (layer_vertices r.sizes r.sides.now r.cubes.now) (layer_triangles r.sizes r.sides.now r.cubes.now) 28672 49152 c.loop-z.z _ _ c.loop-z.invariant _ _
    e.vertices e.triangles (omega (arith, e.few_vertices, r.sized.y_high)) (omega (arith, e.few_triangles, r.sized.y_high))

pub returns : goal.returns
returns c =
    let i = c.loop-z.invariant in
    let r = c.args.rows.now in
    let n = r.sizes in
    let ws = r.sides.now in
    let vs = r.cubes.now in
    let e : c.loop-z.z ≡ n.nz = omega arith in
    record {
      vertices = λ rule s start h v. i.vertices
          ∙ (ap (total (layer_vertices n ws vs)) e ∙ vertices_are (lattice n s) r.sized ws vs start h v rule);
      triangles = λ rule s start h v. i.triangles
          ∙ (ap (total (layer_triangles n ws vs)) e ∙ triangles_are (lattice n s) r.sized ws vs start h v rule);
    }
