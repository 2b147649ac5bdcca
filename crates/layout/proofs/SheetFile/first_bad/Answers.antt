-- No triangle is bad where all numbers are below V. Assumes nothing.
use Rattle.std.proofs.Common.{◌≡◌, false, ℕ, ◌+◌, ◌*◌, ◌<◌, List, get_or, arith, ◌∙◌}
use Rattle.std.proofs.Common.{rules, true}
use Rattle.std.proofs.lemmas.Iterator.{first_from_Range}
use borrow.Author.Tests.{lt-leb, tests}
use Rattle.paper.specs.File.{bad_triangle, first_bad, file_triangles}
use Rattle.layout.proofs.Trailer.{bad_is, bad_missing}
use Rattle.layout.proofs.Found.{found_first}
use Rattle.layout.proofs.SheetFile.first_bad.Goals as goal

good : (nv nt : ℕ) (ts : List ℕ) → ((j : ℕ) → j < 3 * nt → get_or ts j 0 < nv) → (k : ℕ) → k < nt → bad_triangle nv ts k ≡ false
good nv nt ts h k l =
    bad_is nv ts k
    ∙ rw (
      lt-leb nv (get_or ts (3 * k) 0) (h (3 * k) (omega arith)),
      lt-leb nv (get_or ts (3 * k + 1) 0) (h (3 * k + 1) (omega arith)),
      lt-leb nv (get_or ts (3 * k + 2) 0) (h (3 * k + 2) (omega arith)),
    )

pub returns-then-all_below-clause-first : goal.returns-then-all_below-clause-first
returns-then-all_below-clause-first c = bad_missing _ _ _ (good _ _ _ (c.all_below.ensures c.if-all_below.true))

pub returns-clause-first : goal.returns-clause-first
unfolding first_bad
returns-clause-first c =
    let f = c.args.self.now in
    let p = bad_triangle f.vertices (file_triangles f.bytes.now) in
    found_first p f.triangles c.find.result
    (first_from_Range _ _ _ c.find.result (λ i. p i ≡ true) (λ i. p i ≡ false) c.find.ensures.ran (λ x q k. search (rules, tests)) (λ x q k. search (rules, tests)))
