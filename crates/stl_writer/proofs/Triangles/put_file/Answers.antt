-- `stl_writer::Triangles::put_file` meets its contract: the file's parts are stored one after the other from the front. Assumes nothing.
use Rattle.std.proofs.Common.{◌≤◌, length, arith, sym}
use Rattle.std.proofs.lemmas.List.{length-take-le}
use Rattle.stl.proofs.Laws.{file_stored, header_put}
use Rattle.stl_writer.proofs.Triangles.put_file.Goals as goal

pub slice_bounds-fill-end-2 : goal.slice_bounds-fill-end-2
slice_bounds-fill-end-2 c = sym (length-take-le 80 c.args.bytes.now (omega arith))

pub returns : goal.returns
returns c =
    let a = c.args in
    let room : 80 ≤ length a.bytes.now = omega (arith, c.requires.roomy) in
    let z = rw (length-take-le 80 a.bytes.now room) at c.fill.ensures.after (λ y e. e) in
    file_stored a.self.now.count a.self.now.vertices.now a.self.now.triangles.now a.bytes.now c.requires.roomy
    (header_put a.bytes.now _ z room) c.put.ensures c.put_facets.ensures
