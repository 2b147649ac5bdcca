-- The least coordinates of the three anchors give the cube's number. Assumes nothing.
use mathlib.Core.Path.{◌∙◌}
use Prim.Native.Nat.{◌+◌, ◌-◌, ◌*◌, min}
use Rattle.paper.specs.Lattice.{cube_no}
use Rattle.paper.specs.Sheet.{anchor_of}
use Rattle.paper.specs.Within.{cube_of}
use Rattle.check_triangles.proofs.holder_of.Goals as goal

pub returns : goal.returns
unfolding cube_of anchor_of cube_no
returns c =
    let a = c.anchor_of-a.ensures.0 in
    let b = c.anchor_of-b.ensures.0 in
    let d = c.anchor_of-c.ensures.0 in
    let x = c.min-x.ensures ∙ (λ j. min (c.min.ensures j) c.anchor_of-c.result.x) ∙ (λ j. min (min (a j).x (b j).x) (d j).x) in
    let y = c.min-y.ensures ∙ (λ j. min (c.min-2.ensures j) c.anchor_of-c.result.y) ∙ (λ j. min (min (a j).y (b j).y) (d j).y) in
    let z = c.min-z.ensures ∙ (λ j. min (c.min-3.ensures j) c.anchor_of-c.result.z) ∙ (λ j. min (min (a j).z (b j).z) (d j).z) in
    λ j. x j + (c.args.sizes.nx - 1) * (y j + (c.args.sizes.ny - 1) * z j)
