-- A remainder by four is two bits. Assumes nothing.
use native.Mathlib.Omega.{arith}
use Rattle.bits.proofs.Bits.{bit_pair}
use Rattle.rows.proofs.pair.Goals as goal

pub returns : goal.returns
returns c = (bit_pair c.args.w c.args.x, omega arith)
