-- After each word its edges are counted. Assumes nothing.
use Rattle.std.proofs.Common.{◌≡◌, ℕ, ◌≤◌, ◌<◌, ◌*◌, ◌^◌, get_or}
use Rattle.kinds.specs.Kinds.{seven}
use Rattle.kinds.proofs.KindCounts.{counted}
use Rattle.kinds.proofs.KindWords.count.Given as goal

abbrev pub invariant-loop-w : goal.invariant-loop-w
invariant-loop-w l = (l.n ≡ counted l.self l.w-index) × (l.n ≤ 64 * l.w-index) × ((j : ℕ) → j < l.w-index → get_or (seven l.self) j 0 < 2 ^ 64)
