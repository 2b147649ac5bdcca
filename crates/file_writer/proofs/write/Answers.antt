-- `file_writer::write` meets its contract: a refusal stores nothing, and what passes the tests is stored whole. Assumes nothing.
use Rattle.std.proofs.Common.{◌≡◌, arith, sym, ap, length, rules, Err}
use Rattle.paper.specs.declared.Verdict.{Verdict}
use Rattle.sheetfile.specs.Taken.{Taken}
use Rattle.sheetfile.proofs.Answers.{taken, write_err, write_ok}
use Rattle.file_writer.proofs.write.Goals as goal
use Rattle.file_writer.proofs.write.Goals.{In_ok-writable}

accepted : (c : goal.In_ok-writable)
    → let a = c.args in
    Taken a.sizes a.nv a.nt a.vertices.now a.triangles.now (length a.bytes.now)
accepted c = taken _ _ _ _ _ _ (ap (λ (v : Verdict). v.number) (sym c.in_ok-writable.ensures))

pub returns-in_err-writable : goal.returns-in_err-writable
returns-in_err-writable c =
    let a = c.args in
    let e : c.from_residual.result ≡ Err c.in_err-writable.field-0.0 = search rules in
    rw e (write_err a.sizes a.nv a.nt a.vertices.now a.triangles.now a.bytes.now _ c.in_err-writable.ensures)

pub put_file-requires : goal.put_file-requires
put_file-requires c =
    let t = accepted (goal.at.put_file-requires c).In_ok-writable in
    (t.sized, t.counts, t.roomy)

pub file_length-requires : goal.file_length-requires
file_length-requires c =
    let t = accepted (goal.at.file_length-requires c).In_ok-writable in
    (omega (arith, t.counts), omega (arith, t.counts))

pub returns : goal.returns
returns c =
    let a = c.args in
    write_ok a.sizes a.nv a.nt a.vertices.now a.triangles.now a.bytes.now c.in_ok-writable.ensures
    _ c.file_length.ensures _ c.put_file.ensures
