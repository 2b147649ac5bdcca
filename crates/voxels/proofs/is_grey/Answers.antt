-- `voxels::is_grey` meets its contract: below the range, or one comparison more. Assumes nothing.
use mathlib.Core.Path.{◌∙◌}
use lib.Ieee.{of_bits, of_fields, odd, neg}
use Rattle.greys.proofs.Greys.{below_low, from_low_on}
use Rattle.voxels.proofs.is_grey.Goals as goal

pub returns-then-v : goal.returns-then-v
unfolding of_bits of_fields odd neg
returns-then-v c = from_low_on c.args.v c.if-v.true

pub returns-else-v : goal.returns-else-v
unfolding of_bits of_fields odd neg
returns-else-v c = c.if-v.false ∙ below_low c.args.v c.if-v.false
