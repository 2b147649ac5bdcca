-- `stl_reader::first_untaken` meets its contract: the search finds the first that is not taken. Assumes nothing.
use Rattle.std.proofs.Common.{◌≡◌, ℕ, true, false, not, rules}
use Rattle.std.proofs.lemmas.Iterator.{first_from_Range}
use borrow.Author.Tests.{tests}
use Rattle.layout.proofs.Found.{found_first}
use Rattle.facets.specs.Facets.{facet_stands}
use Rattle.stl.specs.Stl.{stl_facet, first_untaken}
use Rattle.stl_reader.proofs.first_untaken.Goals as goal

pub returns-clause-first : goal.returns-clause-first
unfolding first_untaken
returns-clause-first c =
    let p = λ (i : ℕ). not (facet_stands (stl_facet c.args.bytes.now i)) in
    rw (← c.requires.0) (found_first p c.args.n c.find.result
    (first_from_Range _ _ _ c.find.result (λ i. p i ≡ true) (λ i. p i ≡ false) c.find.ensures.ran (λ x q k. search (rules, tests)) (λ x q k. search (rules, tests))))
