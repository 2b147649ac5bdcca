-- `stl_writer::Triangles::first_outside` meets its contract: the search finds the first that is outside. Assumes nothing.
use Rattle.std.proofs.Common.{◌≡◌, ℕ, true, false, not, rules}
use Rattle.std.proofs.lemmas.Iterator.{first_from_Range}
use borrow.Author.Tests.{tests}
use Rattle.layout.proofs.Found.{found_first}
use Rattle.stl.specs.Stl.{triangle_within, first_outside}
use Rattle.stl_writer.proofs.Triangles.first_outside.Goals as goal

pub returns-clause-first : goal.returns-clause-first
unfolding first_outside
returns-clause-first c =
    let a = c.args in
    let p = λ (i : ℕ). not (triangle_within a.self.now.vertices.now a.self.now.triangles.now i) in
    found_first p a.self.now.count c.find.result
    (first_from_Range _ _ _ c.find.result (λ i. p i ≡ true) (λ i. p i ≡ false) c.find.ensures.ran (λ x q k. search (rules, tests)) (λ x q k. search (rules, tests)))
