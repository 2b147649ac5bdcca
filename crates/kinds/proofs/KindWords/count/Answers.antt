-- After each word its edges are counted. Assumes nothing.
use mathlib.Core.Path.{◌≡◌, ap, ◌∙◌}
use Prim.Native.Nat.{◌^◌, ◌<◌}
use native.Mathlib.Omega.{arith}
use borrow.Author.Count.{below_more}
use lib.ListN.{get_or}
use Rattle.kinds.specs.Kinds.{seven}
use Rattle.kinds.proofs.KindCounts.{counted, counted_none, counted_more, counted_all}
use Rattle.kinds.proofs.KindWords.count.Goals as goal

pub loop-w-init : goal.loop-w-init
loop-w-init c = (counted_none c.args.self.now, omega arith, λ j h. absurd (omega arith))

pub loop-w-preserved : goal.loop-w-preserved
loop-w-preserved c = (
  omega (arith, counted_more c.args.self.now c.loop-w.w-index, c.ones-n.ensures.0),
  omega (arith, c.ones-n.ensures.1),
  below_more (λ j. get_or (seven c.args.self.now) j 0 < 2 ^ 64) c.loop-w.w-index c.loop-w.invariant.2 (omega arith),
)

pub returns : goal.returns
returns c =
    let k = c.args.self.now in
    let e : c.loop-w.w-index ≡ 7 = omega arith in
    (c.loop-w.invariant.0 ∙ (ap (counted k) e ∙ counted_all k (λ j h. c.loop-w.invariant.2 j (omega arith))), omega (arith, c.loop-w.invariant.1))
