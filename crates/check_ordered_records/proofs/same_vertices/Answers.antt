-- The file has as many vertices as are drawn. Assumes nothing.
use native.Mathlib.Omega.{arith}
use borrow.Author.Tests.{eqb-true}
use Rattle.layout.proofs.Trailer.{vertices_length}
use Rattle.check_ordered_records.proofs.Dots.{listing_all}
use Rattle.check_ordered_records.proofs.same_vertices.Goals as goal

pub returns-in-Some : goal.returns-in-Some
returns-in-Some c =
    let A = c.in-Some.ensures.listing in
    let f = c.args.file.now in
    (λ e. listing_all _ _ _ _ _ _ _ _ A (omega (arith, vertices_length f.bytes.now, f.counted_v)) (eqb-true _ _ e), A.beyond)
