-- `file_writer::first_bad` meets its contract: the search finds the first that is bad. Assumes nothing.
use Rattle.std.proofs.Common.{◌≡◌, true, false, rules}
use Rattle.std.proofs.lemmas.Iterator.{first_from_Range}
use borrow.Author.Tests.{tests}
use Rattle.paper.specs.File.{bad_triangle, first_bad}
use Rattle.layout.proofs.Found.{found_first}
use Rattle.file_writer.proofs.first_bad.Goals as goal

pub returns-clause-first : goal.returns-clause-first
unfolding first_bad
returns-clause-first c =
    let p = bad_triangle c.args.nv c.args.triangles.now in
    found_first p c.args.nt c.find.result
    (first_from_Range _ _ _ c.find.result (λ i. p i ≡ true) (λ i. p i ≡ false) c.find.ensures.ran (λ x q k. search (rules, tests)) (λ x q k. search (rules, tests)))
