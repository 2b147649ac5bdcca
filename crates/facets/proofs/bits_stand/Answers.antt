-- `facets::bits_stand` meets its contract: the only coordinate that can be is tried. Assumes nothing.
use mathlib.Core.Path.{◌≡◌, ap, ◌∙◌}
use native.Mathlib.Omega.{arith}
use mir.Syntax.{w32}
use mir.Val.{to_z}
use mir.Facts.{to_z_pos}
use borrow.Author.Tests.{lt-leb}
use lib.IntN.{pos}
use lib.Ieee.{binary32}
use lib.Ieee.Bits.{of_bits-fits}
use Rattle.facets.specs.Steps.{float_of, nat_of}
use Rattle.facets.proofs.Floats.{float_number}
use Rattle.facets.proofs.Images.{number_bits, low_number, bits_high, bits_decide, candidate_large, pos_bounds, pos_nat}
use Rattle.facets.proofs.bits_stand.Goals as goal
use Rattle.facets.proofs.bits_stand.Goals.{After-float_of, Then-n-le-MOST}

-- the candidate as a sheet's number, and its float
is : (c : goal.Then-n-le-MOST) → let n = c.candidate-n.result in to_z w32 n ≡ pos n
is c = to_z_pos w32 (omega arith)

float_is : (c : goal.After-float_of) → c.float_of.result ≡ float_of c.candidate-n.result
float_is c = c.float_of.ensures ∙ ap float_of (ap nat_of (is (goal.at.After-float_of c).Then-n-le-MOST) ∙ pos_nat _)

pub returns-then-b-ge1115684864 : goal.returns-then-b-ge1115684864
returns-then-b-ge1115684864 c = bits_high c.args.b (omega arith) (omega arith)

pub float_from_bits-b : goal.float_from_bits-b
float_from_bits-b c = number_bits c.args.b (low_number _ (omega arith))

pub candidate-n-requires : goal.candidate-n-requires
candidate-n-requires c = low_number c.args.b (omega arith)

pub returns-else-n-le-MOST : goal.returns-else-n-le-MOST
returns-else-n-le-MOST c =
    lt-leb _ _ (omega arith) ∙ candidate_large _ (of_bits-fits binary32 c.args.b) _ c.candidate-n.ensures (omega arith)

pub float_of-requires : goal.float_of-requires
float_of-requires c = rw (is (goal.at.float_of-requires c).Then-n-le-MOST) (pos_bounds _ (omega arith))

pub float_to_bits-result : goal.float_to_bits-result
float_to_bits-result c = rw (float_is (goal.at.float_to_bits-result c).After-float_of) (float_number _ (omega arith))

pub returns-then-n-le-MOST : goal.returns-then-n-le-MOST
returns-then-n-le-MOST c =
    let b = c.args.b in
    rw (float_is (goal.at.returns-then-n-le-MOST c).After-float_of) (bits_decide b _ (omega arith) (omega arith) c.candidate-n.ensures)
