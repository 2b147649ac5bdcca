-- `stl_writer::write` meets its contract: a refusal stores nothing, and what passes the tests is stored whole. Assumes nothing.
use Rattle.std.proofs.Common.{◌≡◌, arith, refl, length, rules, Err}
use Rattle.paper.specs.Tests.{verdict}
use Rattle.stl.specs.Within.{Fine}
use Rattle.stl.proofs.Answers.{fine, write_err, write_ok}
use Rattle.stl_writer.proofs.write.Goals as goal
use Rattle.stl_writer.proofs.write.Goals.{In_ok-writable}

accepted : (c : goal.In_ok-writable) → let a = c.args in Fine a.nt a.vertices.now a.triangles.now (length a.bytes.now)
accepted c = let a = c.args in fine a.nv a.nt a.vertices.now a.triangles.now a.bytes.now (verdict 0 0) c.in_ok-writable.ensures refl

pub returns-in_err-writable : goal.returns-in_err-writable
returns-in_err-writable c =
    let a = c.args in
    let e : c.from_residual.result ≡ Err c.in_err-writable.field-0.0 = search rules in
    rw e (write_err a.nv a.nt a.vertices.now a.triangles.now a.bytes.now _ c.in_err-writable.ensures)

pub invariant_of-sheet : goal.invariant_of-sheet
invariant_of-sheet c = record { named = (accepted (goal.at.invariant_of-sheet c).In_ok-writable).named }

pub put_file-requires : goal.put_file-requires
put_file-requires c = accepted (goal.at.put_file-requires c).In_ok-writable

pub stl_length-requires : goal.stl_length-requires
stl_length-requires c = omega (arith, accepted (goal.at.stl_length-requires c).In_ok-writable)

pub returns : goal.returns
returns c =
    let a = c.args in
    write_ok a.nv a.nt a.vertices.now a.triangles.now a.bytes.now c.in_ok-writable.ensures _ (omega (arith, c.stl_length.ensures)) _ c.put_file.ensures
