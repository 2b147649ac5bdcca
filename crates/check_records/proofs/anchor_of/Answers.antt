-- The place of the anchor's number. Assumes nothing.
use mathlib.Core.Path.{sym, subst}
use Prim.Native.Nat.{◌*◌, ◌/◌, ◌<◌}
use native.Mathlib.Omega.{arith}
use Rattle.paper.specs.Lattice.{samples, sample_at}
use Rattle.paper.specs.Within.{SampleIn}
use Rattle.paper.proofs.Numbers.{sample_inside}
use Rattle.lattice.proofs.Laws.{samples_few}
use Rattle.check_records.proofs.anchor_of.Goals as goal
use Rattle.check_records.proofs.anchor_of.Goals.{Start}

anchor_lt : (c : goal.Start) → c.args.e / 7 < samples c.args.sizes
anchor_lt c = let h : c.args.e < 7 * samples c.args.sizes = c.requires.1 in omega arith

pub place_of-requires : goal.place_of-requires
place_of-requires c =
    let s = c.requires.0 in
    let h = anchor_lt (goal.at.place_of-requires c).Start in
    (omega (arith, samples_few _ s), omega (arith, s), omega (arith, s), omega (arith, s), omega (arith, s))

pub returns : goal.returns
unfolding sample_at
returns c = (
  c.place_of.ensures,
  subst (SampleIn c.args.sizes) (sym c.place_of.ensures)
      (sample_inside _ c.requires.0 (c.args.e / 7) (anchor_lt (goal.at.returns c).Start)),
)
