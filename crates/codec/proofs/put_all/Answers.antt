-- `codec::put_all` meets its contract. Assumes nothing.
use Rattle.std.proofs.Common.{◌∙◌, arith}
use Rattle.codec.proofs.Runs.{put_next, put_whole}
use Rattle.codec.proofs.put_all.Goals as goal

pub loop-i-preserved : goal.loop-i-preserved
loop-i-preserved g c =
    let m = g.T.Number in
    let a = c.args in
    let x = c.index-v-i in
    let put = rw c.SIZE.ensures at c.put.ensures in
    put_next m.bytes m.SIZE g.met.T.Number.wide a.out.now a.at a.v.now c.loop-i.i x.result c.loop-i-test.true x.is c.loop-i.invariant put

pub returns : goal.returns
returns g c = c.loop-i.invariant ∙ put_whole g.T.Number.bytes c.args.out.now c.args.at c.args.v.now c.loop-i.i (omega arith)
