-- `voxels::whole_part` meets its contract: the sum's last digits are the whole part, or one more, which is above p. Assumes nothing.
use native.Mathlib.Omega.{arith}
use Rattle.greys.proofs.Nearest.{nearest, sum_high, last_most, part_most_is, one_above, not_above}
use Rattle.voxels.proofs.whole_part.Goals as goal

pub float_to_bits-near : goal.float_to_bits-near
float_to_bits-near c = (nearest c.args.p c.requires).number

pub overflow_sub-near : goal.overflow_sub-near
overflow_sub-near c = sum_high c.args.p c.requires

pub overflow_cast-near : goal.overflow_cast-near
overflow_cast-near c = omega (arith, last_most c.args.p c.requires)

pub overflow_sub-result : goal.overflow_sub-result
overflow_sub-result c =
    omega (arith, one_above c.args.p c.requires c.if-p-near.true)

pub returns-then-p-near : goal.returns-then-p-near
returns-then-p-near c =
    let m = part_most_is c.args.p c.requires in
    let e = one_above c.args.p c.requires c.if-p-near.true in
    (omega arith, omega arith)

pub returns-else-p-near : goal.returns-else-p-near
returns-else-p-near c =
    let m = part_most_is c.args.p c.requires in
    let e = not_above c.args.p c.requires c.if-p-near.false in
    (e, omega arith)
