-- Each step as an i32. Assumes nothing.
use Rattle.std.proofs.Common.{◌≡◌, pos, arith, to_z-of_z, w32, to_z}
use mir.Facts.{to_z_pos}
use Rattle.check_entries.proofs.towards.Goals as goal
use Rattle.check_entries.proofs.towards.Goals.{Start}

module _ (c : goal.Start) where
  from_is : to_z w32 c.args.from ≡ pos c.args.from
  from_is = to_z_pos w32 (omega (arith, c.requires.low))

  s_is : to_z w32 c.args.s ≡ pos c.args.s
  s_is = to_z_pos w32 (omega (arith, c.requires.few))

pub overflow_mul-result : goal.overflow_mul-result
overflow_mul-result c = rw (s_is (goal.at.overflow_mul-result c).Start, to_z-of_z c.ranges.dir) c.requires.product

pub overflow_add-result : goal.overflow_add-result
overflow_add-result c = rw (from_is (goal.at.overflow_add-result c).Start, s_is (goal.at.overflow_add-result c).Start, to_z-of_z c.ranges.dir, to_z-of_z c.requires.product) c.requires.sum

pub returns : goal.returns
returns c = rw (from_is (goal.at.returns c).Start, s_is (goal.at.returns c).Start, to_z-of_z c.ranges.dir, to_z-of_z c.requires.product) (to_z-of_z c.requires.sum)
