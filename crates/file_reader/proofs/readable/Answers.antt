-- `file_reader::readable` meets its contract: the file's own tests come first, and then the two of room. Assumes nothing.
use Rattle.std.proofs.Common.{◌≡◌, List, ◌++◌, ◌≤◌, length, Err, arith, rules, sym, ap, ◌∙◌}
use borrow.Author.Tests.{le-leb, lt-leb}
use Rattle.paper.specs.declared.Verdict.{Verdict}
use Rattle.paper.specs.Tests.{Test, judge}
use Rattle.paper.specs.Room.{room_tests}
use Rattle.paper.specs.File.{file_v, file_t, file_tests}
use Rattle.paper.proofs.Judged.{judge_past, judge_stop}
use Rattle.paper.proofs.Passing.{file_numbered}
use Rattle.paper.proofs.Refusals.{some_number}
use Rattle.layout.proofs.Passing.{laid_out}
use Rattle.file_reader.proofs.readable.Goals as goal
use Rattle.file_reader.proofs.readable.Goals.{In_ok-tested}

long : (c : goal.In_ok-tested) → 24 ≤ length c.args.bytes.now
long c = omega (arith, (laid_out c.args.bytes.now (ap (λ (v : Verdict). v.number) (sym c.in_ok-tested.ensures))).ranged.long)

-- the tests that are left
further : (c : goal.In_ok-tested) (m : List Test) → judge (file_tests c.args.bytes.now ++ m) ≡ judge m
further c m = judge_past (file_tests c.args.bytes.now) m (file_numbered c.args.bytes.now) (ap (λ (v : Verdict). v.number) (sym c.in_ok-tested.ensures))

pub returns-in_err-tested : goal.returns-in_err-tested
returns-in_err-tested c =
    let e : c.from_residual.result ≡ Err c.in_err-tested.field-0.0 = search rules in
    let stop = judge_stop (file_tests c.args.bytes.now) _ (λ z. omega (arith, some_number c.in_err-tested.field-0.0, ap (λ (v : Verdict). v.number) c.in_err-tested.ensures, z)) in
    rw e (c.in_err-tested.ensures ∙ sym stop)

pub vertex_count-requires : goal.vertex_count-requires
vertex_count-requires c = long (goal.at.vertex_count-requires c).In_ok-tested

pub returns-then-rv-vertex_count : goal.returns-then-rv-vertex_count
unfolding room_tests
returns-then-rv-vertex_count c =
    let a = c.args in
    let few = lt-leb (file_v a.bytes.now) a.rv (omega (arith, c.vertex_count.ensures.0)) in
    sym (further (goal.at.returns-then-rv-vertex_count c).In_ok-tested _ ∙ rw few)

pub triangle_count-requires : goal.triangle_count-requires
triangle_count-requires c = long (goal.at.triangle_count-requires c).In_ok-tested

pub returns-then-rt-triangle_count : goal.returns-then-rt-triangle_count
unfolding room_tests
returns-then-rt-triangle_count c =
    let a = c.args in
    let fits = le-leb (file_v a.bytes.now) a.rv (omega (arith, c.vertex_count.ensures.0)) in
    let few = lt-leb (file_t a.bytes.now) a.rt (omega (arith, c.triangle_count.ensures.0)) in
    sym (further (goal.at.returns-then-rt-triangle_count c).In_ok-tested _ ∙ rw (fits, few))

pub returns : goal.returns
unfolding room_tests
returns c =
    let a = c.args in
    let v = le-leb (file_v a.bytes.now) a.rv (omega (arith, c.vertex_count.ensures.0)) in
    let t = le-leb (file_t a.bytes.now) a.rt (omega (arith, c.triangle_count.ensures.0)) in
    sym (further (goal.at.returns c).In_ok-tested _ ∙ rw (v, t))
