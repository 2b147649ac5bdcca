-- `file_reader::read` meets its contract: a refusal stores nothing, and what passes the tests is read whole. Assumes nothing.
use Rattle.std.proofs.Common.{◌≡◌, ◌*◌, ◌≤◌, length, Err, refl, arith, rules, sym}
use Rattle.std.proofs.lemmas.List.{length-take-le}
use Rattle.paper.specs.Tests.{verdict}
use Rattle.sheetfile.specs.Taken.{Room}
use Rattle.sheetfile.proofs.Answers.{readable_laid, read_err, read_ok}
use Rattle.file_reader.proofs.read.Goals as goal
use Rattle.file_reader.proofs.read.Goals.{In_ok-readable, After-new-file}

room : (c : goal.In_ok-readable)
    → let a = c.args in
    Room a.bytes.now (length a.vertices.now) (length a.triangles.now)
room c = readable_laid c.args.bytes.now c.args.vertices.now c.args.triangles.now (verdict 0 0) c.in_ok-readable.ensures refl

fits_v : (c : goal.After-new-file) → 4 * c.new-file.result.vertices ≤ length c.args.vertices.now
fits_v c =
    let r = room (goal.at.After-new-file c).In_ok-readable in
    let f = c.new-file.result in
    omega (arith, r.room_v, rw c.new-file.ensures at f.counted_v)

fits_t : (c : goal.After-new-file) → 3 * c.new-file.result.triangles ≤ length c.args.triangles.now
fits_t c =
    let r = room (goal.at.After-new-file c).In_ok-readable in
    let f = c.new-file.result in
    omega (arith, r.room_t, rw c.new-file.ensures at f.counted_t)

pub returns-in_err-readable : goal.returns-in_err-readable
returns-in_err-readable c =
    let a = c.args in
    let e : c.from_residual.result ≡ Err c.in_err-readable.field-0.0 = search rules in
    rw e (read_err a.bytes.now a.vertices.now a.triangles.now _ c.in_err-readable.ensures)

pub new-file-requires : goal.new-file-requires
new-file-requires c = (room (goal.at.new-file-requires c).In_ok-readable).laid.ranged

pub slice_bounds-get_all-end : goal.slice_bounds-get_all-end
slice_bounds-get_all-end c = fits_v (goal.at.slice_bounds-get_all-end c).After-new-file

pub slice_bounds-get_all-end-2 : goal.slice_bounds-get_all-end-2
slice_bounds-get_all-end-2 c =
    sym (length-take-le (4 * c.new-file.result.vertices) c.args.vertices.now (fits_v (goal.at.slice_bounds-get_all-end-2 c).After-new-file))

pub slice_bounds-get_all-end-3 : goal.slice_bounds-get_all-end-3
slice_bounds-get_all-end-3 c = fits_t (goal.at.slice_bounds-get_all-end-3 c).After-new-file

pub slice_bounds-get_all-end-4 : goal.slice_bounds-get_all-end-4
slice_bounds-get_all-end-4 c =
    sym (length-take-le (3 * c.new-file.result.triangles) c.args.triangles.now (fits_t (goal.at.slice_bounds-get_all-end-4 c).After-new-file))

pub returns : goal.returns
returns c =
    let a = c.args in
    let f = c.new-file.result in
    let bs = a.bytes.now in
    let lv = length-take-le (4 * f.vertices) a.vertices.now (fits_v (goal.at.returns c).After-new-file) in
    let lt = length-take-le (3 * f.triangles) a.triangles.now (fits_t (goal.at.returns c).After-new-file) in
    let v = rw lv at c.get_all.ensures in
    let t = rw lt at c.get_all-2.ensures in
    let ev = rw c.new-file.ensures at f.counted_v in
    let et = rw c.new-file.ensures at f.counted_t in
    read_ok bs a.vertices.now a.triangles.now c.in_ok-readable.ensures _ _ _ _ _ ev et c.sizes_of.ensures v t
