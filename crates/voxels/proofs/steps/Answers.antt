-- `voxels::steps` meets its contract: the product is not rounded, and is cut to its whole part. Assumes nothing.
use mathlib.Core.Path.{◌∙◌, subst}
use lib.IntN.{pos}
use lib.Ieee.{Float, binary32, mul, of_int, of_bits, of_fields, odd}
use Rattle.std.specs.Float.{IsFloatMin}
use Rattle.greys.specs.Sample.{held}
use Rattle.greys.specs.Within.{most}
use Rattle.greys.proofs.Product.{scale_casts}
use Rattle.greys.proofs.Cut.{Plainly}
use Rattle.greys.proofs.Least.{steps_is}
use Rattle.voxels.proofs.steps.Goals as goal
use Rattle.voxels.proofs.steps.Goals.{After-min}

-- what is cut
cut : (c : goal.After-min) → Plainly c.min.result (held c.args.d c.args.scale)
unfolding of_bits of_fields odd
cut c =
    let a = c.args in
    let held_to = λ (y : Float). IsFloatMin (mul binary32 y (of_int binary32 (pos a.scale))) most c.min.result in
    steps_is a.scale c.requires.0 a.d c.min.result c.requires.1 c.requires.2 (subst held_to c.abs.ensures.value c.min.ensures.value)

pub int_to_float-scale : goal.int_to_float-scale
int_to_float-scale c = scale_casts c.args.scale c.requires.0

pub whole_part-requires : goal.whole_part-requires
whole_part-requires c = (cut (goal.at.whole_part-requires c).After-min).plain

pub returns : goal.returns
returns c = (c.whole_part.ensures.0 ∙ (cut (goal.at.returns c).After-min).part, c.whole_part.ensures.1)
