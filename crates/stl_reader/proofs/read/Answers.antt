-- `stl_reader::read` meets its contract: a refusal stores nothing, and what passes the tests is read whole. Assumes nothing.
use Rattle.std.proofs.Common.{◌≡◌, arith, refl, subst, sym, length, rules, Err}
use Rattle.paper.specs.Tests.{verdict}
use Rattle.stl.specs.Within.{AllStand, Sound}
use Rattle.stl.proofs.Answers.{sound, read_err, read_ok}
use Rattle.stl_reader.proofs.read.Goals as goal
use Rattle.stl_reader.proofs.read.Goals.{In_ok-readable}

accepted : (c : goal.In_ok-readable) → let a = c.args in Sound a.bytes.now (length a.out.now)
accepted c = sound c.args.bytes.now c.args.out.now (verdict 0 0) c.in_ok-readable.ensures refl

pub returns-in_err-readable : goal.returns-in_err-readable
returns-in_err-readable c =
    let e : c.from_residual.result ≡ Err c.in_err-readable.field-0.0 = search rules in
    rw e (read_err c.args.bytes.now c.args.out.now _ c.in_err-readable.ensures)

pub facet_count-n-requires : goal.facet_count-n-requires
facet_count-n-requires c = omega (arith, (accepted (goal.at.facet_count-n-requires c).In_ok-readable).long)

pub get_facets-requires : goal.get_facets-requires
get_facets-requires c =
    let s = accepted (goal.at.get_facets-requires c).In_ok-readable in
    let e = c.facet_count-n.ensures.0 in
    (omega (arith, s.long), omega (arith, s.roomy), subst (AllStand _) (sym e) s.stand, c.facet_count-n.ensures.1)

pub returns : goal.returns
returns c =
    read_ok c.args.bytes.now c.args.out.now c.in_ok-readable.ensures _ _ c.facet_count-n.ensures.0 c.get_facets.ensures
