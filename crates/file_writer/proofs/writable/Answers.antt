-- `file_writer::writable`: counts that fit lie within their limits. Assumes nothing.
use Rattle.std.proofs.Common.{arith, sym, ◌∙◌, length}
use Rattle.sheetfile.specs.Taken.{Writable}
use Rattle.sheetfile.proofs.Stored.{counted}
use Rattle.file_writer.proofs.writable.Goals as goal

pub file_length-requires : goal.file_length-requires
file_length-requires c =
    let a = c.args in
    let w : Writable a.nv a.nt (length a.vertices.now) (length a.triangles.now) = counted _ _ _ _ (sym c.counts_fit.ensures ∙ c.if-not-counts_fit.false) in
    (omega arith, omega arith)
