-- Both signed numbers are at least 0. Assumes nothing.
use mathlib.Core.Path.{refl}
use native.Mathlib.Omega.{arith}
use mir.Syntax.{w32}
use Rattle.paper.proofs.Ints.{widens}
use Rattle.paper.proofs.Crossing.{air_pos}
use Rattle.crossing.proofs.Values.{size, size_air, n_is, n_read, d_is, d_read}
use Rattle.crossing.proofs.solid_and_whole.Goals as goal

pub overflow_cast-n : goal.overflow_cast-n
overflow_cast-n c = widens c.ranges.p w32 tt

pub overflow_sub-n : goal.overflow_sub-n
overflow_sub-n c = rw (n_is c.ranges.p c.requires.0) (record { sfits = omega (arith, size c.ranges.p) })

pub overflow_cast-d : goal.overflow_cast-d
overflow_cast-d c = widens c.ranges.q w32 tt

pub overflow_cast-d-2 : goal.overflow_cast-d-2
overflow_cast-d-2 c = widens c.ranges.p w32 tt

pub overflow_sub-d : goal.overflow_sub-d
overflow_sub-d c = rw (d_is c.ranges.p c.requires.0 c.ranges.q c.requires.1) (record { sfits = omega (arith, size c.ranges.p, size c.ranges.q) })

pub overflow_cast-result : goal.overflow_cast-result
overflow_cast-result c = rw (n_read c.ranges.p c.requires.0) (tt, record { fits = omega (arith, size c.ranges.p) })

pub overflow_cast-result-2 : goal.overflow_cast-result-2
overflow_cast-result-2 c = rw (d_read c.ranges.p c.requires.0 c.ranges.q c.requires.1) (tt, record { fits = omega (arith, size c.ranges.p, size c.ranges.q) })

pub returns-clause-values : goal.returns-clause-values
returns-clause-values c = rw (n_read c.ranges.p c.requires.0, d_read c.ranges.p c.requires.0 c.ranges.q c.requires.1) (refl, refl)

pub returns-clause-small : goal.returns-clause-small
returns-clause-small c =
    rw (n_read c.ranges.p c.requires.0, d_read c.ranges.p c.requires.0 c.ranges.q c.requires.1) (
      omega (arith, size c.ranges.p),
      omega (arith, air_pos c.args.q c.requires.1),
      omega (arith, size c.ranges.p, size_air c.args.q c.ranges.q c.requires.1),
    )
