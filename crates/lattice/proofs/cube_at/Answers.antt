-- Rows of a cube less than samples. Assumes nothing.
use mathlib.Core.Path.{sym, subst}
use native.Mathlib.Omega.{arith}
use Rattle.paper.specs.Lattice.{cube_at}
use Rattle.paper.specs.Within.{CubeIn}
use Rattle.paper.proofs.Numbers.{cube_inside}
use Rattle.lattice.proofs.Laws.{cubes_few}
use Rattle.lattice.proofs.cube_at.Goals as goal

pub place_of-requires : goal.place_of-requires
place_of-requires c =
    let s = c.before.before.requires.0 in
    (omega (arith, c.before.before.requires.1, cubes_few _ s), omega (arith, s), omega (arith, s), omega (arith, s), omega (arith, s))

pub returns : goal.returns
unfolding cube_at
returns c =
    let s = c.before.before.before in (
      c.place_of.ensures,
      subst (CubeIn s.args.sizes) (sym c.place_of.ensures) (cube_inside _ s.requires.0 s.args.k s.requires.1),
    )
