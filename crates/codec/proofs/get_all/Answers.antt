-- `codec::get_all` meets its contract. Assumes nothing.
use Rattle.std.proofs.Common.{arith}
use Rattle.codec.proofs.Runs.{word_at, get_more, get_whole}
use Rattle.codec.proofs.get_all.Goals as goal

pub loop-i-preserved : goal.loop-i-preserved
loop-i-preserved g c =
    let m = g.T.Number in
    rw (c.get.ensures, c.SIZE.ensures, c.loop-i.invariant) (get_more c.args.v.now (word_at m.of m.SIZE c.args.s.now c.args.at) c.loop-i.i)

pub returns : goal.returns
returns g c =
    let m = g.T.Number in
    rw c.loop-i.invariant (get_whole c.args.v.now (word_at m.of m.SIZE c.args.s.now c.args.at) c.loop-i.i (omega arith))
