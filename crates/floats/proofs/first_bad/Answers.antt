-- `floats::first_bad` meets its contract: `find` gives the first voxel that is no grey. Assumes nothing.
use Rattle.std.proofs.Common.{◌≡◌, true, false, rules}
use Rattle.std.proofs.lemmas.Iterator.{first_from_Range}
use borrow.Author.Tests.{tests}
use Rattle.greys.proofs.Converting.{bad_at, first_is}
use Rattle.floats.proofs.first_bad.Goals as goal

pub returns-clause-first : goal.returns-clause-first
returns-clause-first c =
    let p = bad_at c.args.voxels.now in
    first_is c.args.voxels.now c.find.result
    (first_from_Range _ _ _ c.find.result (λ i. p i ≡ true) (λ i. p i ≡ false) c.find.ensures.ran (λ x q k. search (rules, tests)) (λ x q k. search (rules, tests)))
