-- `file_writer::put_file` meets its contract: the file's parts are stored one after the other from the front. Assumes nothing.
use Rattle.sheetfile.proofs.Stored.{file_stored}
use Rattle.file_writer.proofs.put_file.Goals as goal

pub returns : goal.returns
returns c =
    let a = c.args in
    let at = c.trailer_at-front.ensures in
    file_stored a.sizes a.nv a.nt a.vertices.now a.triangles.now c.requires.1 a.bytes.now c.requires.2
    c.put_all.ensures c.put_all-2.ensures (rw at at c.put_counts.ensures) (rw at at c.put_sizes.ensures)
