-- After y rows theirs are summed. Assumes nothing.
use mathlib.Core.Path.{◌≡◌, ap, ◌∙◌}
use mathlib.Core.List.{List}
use Prim.Native.Nat.{ℕ}
use Rattle.lists.specs.Lists.{range, count}
use Rattle.paper.specs.declared.Sizes.{Sizes}
use Rattle.rows.specs.declared.Quad.{Quad}
use Rattle.kinds.specs.Kinds.{kinds_of, is_edge, sides_around, cubes_around, kinds_by}
use Rattle.tally.specs.Tally.{vertices_by, triangles_of, triangles_by}
use Rattle.tally.proofs.Totals.{summed_none, summed_more}
use Rattle.tally.proofs.layer_counts.Goals as goal

-- a row's, by the cubes around it
vertices_by_law : (n : Sizes) (rows vis : List ℕ) (z y k : ℕ) (v : Quad) → v ≡ cubes_around n vis y z
    → k ≡ count (is_edge (kinds_of (sides_around n rows y z) v)) (range 0 448) → k ≡ vertices_by n rows vis z y
unfolding vertices_by kinds_by
vertices_by_law n rows vis z y k v q e = e ∙ ap (λ (v : Quad). count (is_edge (kinds_of (sides_around n rows y z) v)) (range 0 448)) q

triangles_by_law : (n : Sizes) (rows vis : List ℕ) (z y k : ℕ) (v : Quad) → v ≡ cubes_around n vis y z → k ≡ triangles_of n rows v.a z y
    → k ≡ triangles_by n rows vis z y
unfolding triangles_by
triangles_by_law n rows vis z y k v q e = e ∙ ap (λ (v : Quad). triangles_of n rows v.a z y) q

pub loop-y-init : goal.loop-y-init
loop-y-init c =
    let r = c.args.rows.now in
    let z = c.args.z in
    summed_none (vertices_by r.sizes r.sides.now r.cubes.now z) (triangles_by r.sizes r.sides.now r.cubes.now z) 448 768

pub loop-y-preserved : goal.loop-y-preserved
loop-y-preserved c =
    let n = c.args.rows.now.sizes in
    let ws = c.args.rows.now.sides.now in
    let vs = c.args.rows.now.cubes.now in
    let z = c.args.z in
    let y = c.loop-y.y in
    let q = c.cubes_around-v in
    summed_more (vertices_by n ws vs z) (triangles_by n ws vs z) 448 768 y _ _ c.loop-y.invariant _ _
    (vertices_by_law n ws vs z y _ q.result q.ensures c.row_vertices-vertices.ensures.0)
    (triangles_by_law n ws vs z y _ q.result q.ensures c.row_triangles-triangles.ensures.0)
    c.row_vertices-vertices.ensures.1
    c.row_triangles-triangles.ensures.1
