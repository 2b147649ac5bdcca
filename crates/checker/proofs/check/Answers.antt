-- Test by test, and the last three on work slices that are then cleared. Assumes nothing.
use mathlib.Core.Path.{◌≡◌, refl, sym, ap, ◌∙◌}
use mathlib.Core.Bool.{not, ◌&&◌, and_assoc}
use mathlib.Core.List.{List}
use Prim.Native.Nat.{ℕ}
use native.Mathlib.Omega.{arith}
use lib.Dec.{eqb}
use borrow.Author.Tests.{not-true, not-false}
use Rattle.std.proofs.lemmas.Result.{err_from_is_err_and}
use Rattle.paper.specs.declared.Sizes.{Sizes}
use Rattle.paper.specs.declared.Verdict.{Verdict}
use Rattle.paper.specs.Lattice.{Lattice, lattice}
use Rattle.paper.specs.Tests.{judge}
use Rattle.paper.specs.Refused.{verdict_of}
use Rattle.paper.specs.Room.{clears, Work, work, lengths}
use Rattle.paper.specs.Build.{start_of, sample_tests}
use Rattle.paper.specs.File.{file_sizes, file_tests}
use Rattle.paper.specs.Check.{same_sizes}
use Rattle.paper.proofs.Passing.{sample_keeps, file_keeps}
use Rattle.paper.proofs.Refusals.{some_number}
use Rattle.layout.specs.Laid.{LaidOut}
use Rattle.layout.proofs.Passing.{laid_out}
use Rattle.check_any_order.specs.Checked.{last_tests}
use Rattle.checker.proofs.Whole.{last_clears, kept, emptied, checked_samples, checked_file, checked_sizes, checked_last}
use Rattle.checker.proofs.check.Goals as goal
use Rattle.checker.proofs.check.Goals.{After-ne, In_ok-cube, In_ok-tested, Start}

abbrev L : goal.Start → Lattice
L s = lattice s.args.sizes s.args.samples.now

abbrev bs : goal.Start → List ℕ
bs s = s.args.bytes.now

abbrev w : goal.Start → Work
w s = work s.args.words.now s.args.waiting.now s.args.slots.now

-- tests 1 to 5 are passed
passed : (c : goal.In_ok-cube) → let s = (goal.at.In_ok-cube c).Start in
    (judge (sample_tests (L s) c.args.start (lengths (w s)))).number ≡ 0
passed c = sym (ap (λ (v : Verdict). v.number) c.in_ok-cube.ensures.answer)

-- and those of the file
told : (c : goal.In_ok-tested) → (judge (file_tests c.args.bytes.now)).number ≡ 0
told c = sym (ap (λ (v : Verdict). v.number) c.in_ok-tested.ensures)

laid : (c : goal.In_ok-tested) → LaidOut c.args.bytes.now
laid c = laid_out c.args.bytes.now (told c)

-- whether it has the lattice's sizes
differ : (c : goal.After-ne) → c.ne.result ≡ not (same_sizes (file_sizes c.args.bytes.now) c.args.sizes)
unfolding same_sizes
differ c =
    let n = c.args.sizes in
    let z = file_sizes c.args.bytes.now in
    c.ne.ensures
    ∙ (ap (λ (z : Sizes). not (eqb z.nx n.nx && (eqb z.ny n.ny && eqb z.nz n.nz))) c.sizes_of.ensures
    ∙ sym (ap not (and_assoc (eqb z.nx n.nx) (eqb z.ny n.ny) (eqb z.nz n.nz))))

pub returns-in_err-cube : goal.returns-in_err-cube
returns-in_err-cube c =
    let p = err_from_is_err_and c.from_residual.result c.from_residual.ensures.1 in
    let s = (goal.at.returns-in_err-cube c).Start in
    let n = lengths (w s) in
    let x = c.in_err-cube.field-0.0 in
    let e = c.in_err-cube.ensures.answer in
    let h : (judge (sample_tests (L s) c.args.start n)).number ≡ 0 → ⊥ =
    λ q. omega (arith, some_number x, ap (λ (v : Verdict). v.number) e) in
    rw (p.1, p.2)
    (kept c.args.rule (L s) c.args.start (bs s) (w s) (verdict_of x) (e ∙ sym (checked_samples c.args.rule (L s) c.args.start (bs s) n h))
    (ap (λ (v : Verdict). clears v.number) e ∙ sample_keeps (L s) c.args.start n h))

pub returns-in_err-tested : goal.returns-in_err-tested
returns-in_err-tested c =
    let p = err_from_is_err_and c.from_residual-in_err-tested.result c.from_residual-in_err-tested.ensures.1 in
    let s = (goal.at.returns-in_err-tested c).Start in
    let x = c.in_err-tested.field-0.0 in
    let e = c.in_err-tested.ensures in
    let h : (judge (file_tests (bs s))).number ≡ 0 → ⊥ = λ q. omega (arith, some_number x, ap (λ (v : Verdict). v.number) e) in
    let z = passed (goal.at.returns-in_err-tested c).In_ok-cube in
    rw (p.1, p.2)
    (kept c.args.rule (L s) c.args.start (bs s) (w s) (verdict_of x)
    (e ∙ sym (checked_file c.args.rule (L s) c.args.start (bs s) (lengths (w s)) z h))
    (ap (λ (v : Verdict). clears v.number) e ∙ file_keeps (bs s) h))

pub sizes_of-requires : goal.sizes_of-requires
sizes_of-requires c = omega (arith, (laid (goal.at.sizes_of-requires c).In_ok-tested).ranged.long)

pub returns-then-ne : goal.returns-then-ne
returns-then-ne c =
    let s = (goal.at.returns-then-ne c).Start in
    let z = passed (goal.at.returns-then-ne c).In_ok-cube in
    let y = told (goal.at.returns-then-ne c).In_ok-tested in
    let other = not-true _ (sym (differ (goal.at.returns-then-ne c).After-ne) ∙ c.if-ne.true) in
    kept c.args.rule (L s) c.args.start (bs s) (w s) _
    (sym (checked_sizes c.args.rule (L s) c.args.start (bs s) (lengths (w s)) z y other)) refl

pub new-file-requires : goal.new-file-requires
new-file-requires c = (laid (goal.at.new-file-requires c).In_ok-tested).ranged

pub check_from-requires-clause-begun : goal.check_from-requires-clause-begun
check_from-requires-clause-begun c =
    let b = c.in_ok-cube.ensures.begins in
    let g = laid (goal.at.check_from-requires-clause-begun c).In_ok-tested in
    (b.full, b.both, b.below, b.crosses, rw c.new-file.ensures g)

pub returns : goal.returns
returns c =
    let s = (goal.at.returns c).Start in
    let z = passed (goal.at.returns c).In_ok-cube in
    let y = told (goal.at.returns c).In_ok-tested in
    let b = rw c.new-file.ensures at c.check_from.ensures.0 in
    let k = c.in_ok-cube.ensures.begins.is in
    let e = b ∙ ap (λ (k : ℕ). judge (last_tests c.args.rule (L s) k (bs s))) k in
    let alike = not-false _ (sym (differ (goal.at.returns c).After-ne) ∙ c.if-ne.false) in
    emptied c.args.rule (L s) c.args.start (bs s) (w s) _
    (e ∙ sym (checked_last c.args.rule (L s) c.args.start (bs s) (lengths (w s)) z y alike))
    (ap (λ (v : Verdict). clears v.number) e ∙ last_clears c.args.rule (L s) (start_of (L s) c.args.start) (bs s)) _
    c.check_from.ensures.1
