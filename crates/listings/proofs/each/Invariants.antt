use Rattle.std.proofs.Common.{length}
use Rattle.listings.proofs.each.Given as goal

abbrev pub decreases-loop-count : goal.decreases-loop-count
decreases-loop-count g l = length l.rest
